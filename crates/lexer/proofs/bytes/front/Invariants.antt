use Rattle.std.proofs.Common.{◌≡◌, ℕ, ◌+◌, Bool, length, drop}
use Rattle.lexer.specs.Words.{run}
use Rattle.lexer.proofs.bytes.front.Given as goal

abbrev pub invariant-loop-n : goal.invariant-loop-n
invariant-loop-n g l = (f : ℕ → Bool) → ((b : ℕ) (r : Bool) → goal.F-post g l.test b r → r ≡ f b) → l.n + length (run f (drop l.n l.bytes)) ≡ length (run f l.bytes)
