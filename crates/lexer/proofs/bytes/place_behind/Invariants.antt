use Rattle.std.proofs.Common.{length}
use Rattle.lexer.specs.Reader.{Room}
use Rattle.lexer.proofs.Loops.{Placed}
use Rattle.lexer.proofs.bytes.place_behind.Given as goal

abbrev pub invariant-loop-b : goal.invariant-loop-b
invariant-loop-b l = Room l.initial.at (length l.bytes) → Placed l.bytes l.initial.at l.b-index l.at
