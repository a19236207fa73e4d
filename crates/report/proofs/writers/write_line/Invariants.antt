use Rattle.base.specs.Fronts.{Front}
use Rattle.report.proofs.Joining.{first}
use Rattle.report.proofs.Ended.{ended}
use Rattle.report.proofs.writers.write_line.Given as goal

-- the fields so far stand at the front
abbrev pub invariant-loop-field : goal.invariant-loop-field
invariant-loop-field l = Front (first (ended 32) l.others l.field-index) l.fn.tail l.tail l.end
