-- Which books are well formed.
use Rattle.std.specs.Prelude.{◌≡◌, ℕ, ◌<◌, ◌≤◌, true, List, [], length, Some, ◌≢◌, slice_index_or}
use Rattle.kinds.specs.Limits.{most_unknowns, most_alternatives}
use Rattle.kinds.specs.Kinds.{Ops}
use Rattle.books.specs.Books.{nth}
use Rattle.books.specs.declared.Term.{Term}
use Rattle.books.specs.declared.Term.TheVariants.{Constant, Shifted}
use Rattle.books.specs.declared.Test.{Test}
use Rattle.books.specs.declared.Test.TheVariants.{Always, Single, Joint}
use Rattle.books.specs.declared.Terms.{Terms}
use Rattle.books.specs.declared.Terms.TheVariants.{One, Two}
use Rattle.books.specs.declared.Alternative.{Alternative}

-- the constant c, with no test
abbrev pub constant : {V W : Type 0} → V → Alternative V W
constant c = record { test = Always; terms = One (Constant c) }

-- the unknown u shifted by w, with no test
abbrev pub shifted : {V W : Type 0} → ℕ → W → Alternative V W
shifted u w = record { test = Always; terms = One (Shifted u w) }

-- t stands among the terms
pub data Among {V W : Type 0} (t : Term V W) : Terms V W → Type 0 where
  only : Among t (One t)
  first : {s : Term V W} → Among t (Two t s)
  second : {s : Term V W} → Among t (Two s t)

-- the weights of the terms are of allowed size
abbrev pub Light : {V W : Type 0} → Ops V W → Terms V W → Type 0
Light {V} {W} o ts = (v : ℕ) (w : W) → Among (Shifted v w) ts → o.light w ≡ true

module _ {V W : Type 0} (o : Ops V W) where
  -- a constant or threshold: of allowed size and not least
  abbrev pub Threshold : V → Type 0
  Threshold t = (o.sized t ≡ true) × (t ≢ o.least)

  -- a test of a book of n unknowns
  abbrev pub WellTest : ℕ → Test V → Type 0
  WellTest n Always = Unit {0}
  WellTest n (Single u t) = (u < n) × Threshold t
  WellTest n (Joint u v t) = (u < n) × (v < n) × Threshold t

  -- a term of a book of n unknowns
  abbrev pub WellTerm : ℕ → Term V W → Type 0
  WellTerm n (Constant e) = Threshold e
  WellTerm n (Shifted v w) = (v < n) × (o.light w ≡ true)

  -- an alternative of a book of n unknowns
  pub record WellAlternative (n : ℕ) (a : Alternative V W) : Type 0 where
    pub test : WellTest n a.test
    pub each : (t : Term V W) → Among t a.terms → WellTerm n t

  -- a book that is well formed: within the limits, and each alternative names unknowns of the book and allowed sizes
  pub record Well (m : List (List (Alternative V W))) : Type 0 where
    pub small : length m ≤ most_unknowns
    pub few : (u : ℕ) → length (slice_index_or m u []) ≤ most_alternatives
    pub fine : (u k : ℕ) (a : Alternative V W) → nth (slice_index_or m u []) k ≡ Some a → WellAlternative (length m) a
