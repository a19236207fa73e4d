-- Texts that can stand as a field of a line.
use Rattle.std.proofs.Common.{◌≡◌, ℕ, Bool, false, List}
use Rattle.std.specs.Prelude.{◌||◌, ◌==◌}
use Rattle.language_theory.specs.Graphs.{Each}

-- a byte that ends a field: a space or LF
abbrev pub ends_field : ℕ → Bool
ends_field b = b == 32 || b == 10

-- no byte of the text is a space or LF
abbrev pub Plain : List ℕ → Type 0
Plain bs = Each (λ (b : ℕ). ends_field b ≡ false) bs
