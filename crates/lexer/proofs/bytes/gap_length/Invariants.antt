use Rattle.std.proofs.Common.{◌≡◌, ◌+◌, false, length, drop}
use Rattle.lexer.specs.Gaps.{in_comment}
use Rattle.lexer.specs.Words.{gap}
use Rattle.lexer.proofs.bytes.gap_length.Given as goal

abbrev pub invariant-loop-n : goal.invariant-loop-n
invariant-loop-n l = l.n + length (gap (in_comment l.gap) (drop l.n l.bytes)) ≡ length (gap false l.bytes)
