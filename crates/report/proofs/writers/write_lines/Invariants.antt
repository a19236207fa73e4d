use Rattle.base.specs.Fronts.{Front}
use Rattle.report.specs.Lines.{line_text}
use Rattle.report.proofs.Joining.{first}
use Rattle.report.proofs.writers.write_lines.Given as goal

-- the lines so far stand at the front
abbrev pub invariant-loop-line : goal.invariant-loop-line
invariant-loop-line l = Front (first (λ v. line_text v.items) l.lines l.line-index) l.fn.buffer l.buffer l.end
