-- How the values of a strategy are computed, by sweeps in place. Proofs use this; no promise rests on it.
use Rattle.std.specs.Prelude.{ℕ, zero, suc, List, map, Some, None, Option, slice_set}
use Rattle.std.specs.List.{range_with_len}
use Rattle.kinds.specs.Kinds.{Ops}
use Rattle.books.specs.Books.{terms}
use Rattle.books.specs.declared.Alternative.{Alternative}

module _ {V W : Type 0} (o : Ops V W) where
  -- one replacement, a sweep over the unknowns below i, and k sweeps over all n
  abbrev pub relaxed_by : List V → ℕ → Option (Alternative V W) → List V
  relaxed_by z u None = z
  relaxed_by z u (Some a) = slice_set z u (terms o z a.terms)

  abbrev pub relaxed : (ℕ → Option (Alternative V W)) → List V → ℕ → List V
  relaxed c z u = relaxed_by z u (c u)

  abbrev pub swept : (ℕ → Option (Alternative V W)) → List V → ℕ → List V
  swept c z zero = z
  swept c z (suc i) = relaxed c (swept c z i) i

  abbrev pub sweeps : (ℕ → Option (Alternative V W)) → ℕ → List V → ℕ → List V
  sweeps c n z zero = z
  sweeps c n z (suc k) = swept c (sweeps c n z k) n

  abbrev pub opened : Option (Alternative V W) → V
  opened None = o.least
  opened (Some a) = o.greatest

  abbrev pub opening : (ℕ → Option (Alternative V W)) → ℕ → List V
  opening c n = map (λ (u : ℕ). opened (c u)) (range_with_len 0 n)

-- what replacements in any order make of the opening
pub data Replaced {V W : Type 0} (o : Ops V W) (c : ℕ → Option (Alternative V W)) (n : ℕ) : List V → Type 0 where
  fresh : Replaced o c n (opening o c n)
  again : {z : List V} (u : ℕ) → Replaced o c n z → Replaced o c n (relaxed o c z u)
