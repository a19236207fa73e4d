-- The interval of a variable at a point, for values of the bound book.
use Rattle.std.specs.Prelude.{◌≡◌, ℕ, ◌<◌, true, List, ℤ, neg_ℤ, Some, None, Option}
use Rattle.kinds.specs.Values.{bounds, under}
use Rattle.kinds.specs.declared.bound.Bound.{Bound}
use Rattle.kinds.specs.declared.bound.Bound.TheVariants.{Least, Whole, Greatest}
use Rattle.books.specs.Books.{at}
use Rattle.language_theory.specs.Graphs.{Graph}
use Rattle.script_equations_theory.specs.Bounds.{upper, lower, variables_of}
use Rattle.soundness_theory.specs.Runs.{of}

-- the pair (lower, upper) of an upper bound and a lower bound negated, absent where one of them is least
abbrev pub with_lower : Bound → Bound → Option (Bound × Bound)
with_lower u Least = None
with_lower u (Whole b) = Some (Whole (neg_ℤ b), u)
with_lower u Greatest = Some (Least, u)

abbrev pub ends : Bound → Bound → Option (Bound × Bound)
ends Least l = None
ends (Whole a) l = with_lower (Whole a) l
ends Greatest l = with_lower Greatest l

-- the interval of the variable v at the point p, at the values y
abbrev pub interval : Graph → List Bound → ℕ → ℕ → Option (Bound × Bound)
interval g y p v = ends (at bounds y (upper (variables_of g) p v)) (at bounds y (lower (variables_of g) p v))

-- z lies in the interval; nothing lies in an absent one
abbrev pub LiesIn : Option (Bound × Bound) → ℤ → Type 0
LiesIn None z = ⊥
LiesIn (Some i) z = (under i.0 (Whole z) ≡ true) × (under (Whole z) i.1 ≡ true)

-- every value of x lies in its interval at p
abbrev pub Inside : Graph → List Bound → ℕ → List ℤ → Type 0
Inside g y p x = (v : ℕ) → v < variables_of g → LiesIn (interval g y p v) (of x v)

-- an interval that does not fall, with no lower end +∞ and no upper end −∞
pub record Stands (i : Bound × Bound) : Type 0 where
  pub rises : under i.0 i.1 ≡ true
  pub low : i.0 ≡ Greatest → ⊥
  pub high : i.1 ≡ Least → ⊥
