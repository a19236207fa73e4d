use Rattle.std.proofs.Common.{◌≡◌, ◌+◌, length}
use Rattle.report.specs.Lines.{line_text}
use Rattle.report.proofs.Joining.{first}
use Rattle.report.proofs.writers.room_behind.Given as goal

-- what is left lies behind the lines so far
abbrev pub invariant-loop-line : goal.invariant-loop-line
invariant-loop-line l = l.left + length (first (λ v. line_text v.items) l.lines l.line-index) ≡ l.room
