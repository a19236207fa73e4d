use Rattle.std.proofs.Common.{◌≡◌, drop}
use Rattle.lexer.specs.Words.{value}
use Rattle.lexer.proofs.bytes.number_of.Given as goal

abbrev pub invariant-loop-d : goal.invariant-loop-d
invariant-loop-d l = value 0 l.digits ≡ value l.n (drop l.d-index l.digits)
