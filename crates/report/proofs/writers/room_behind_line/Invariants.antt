use Rattle.std.proofs.Common.{◌≡◌, ◌+◌, length, max, take}
use Rattle.std.specs.List.{sum_by}
use Rattle.report.proofs.Ended.{width}
use Rattle.report.proofs.writers.room_behind_line.Given as goal

-- what is left lies behind a byte for each field, and the fields so far
abbrev pub invariant-loop-field : goal.invariant-loop-field
invariant-loop-field l = l.left + (max 1 (length l.line) + sum_by width (take l.field-index l.line)) ≡ l.room
