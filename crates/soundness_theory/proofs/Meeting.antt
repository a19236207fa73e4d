-- Pairs of an upper bound and a lower bound negated that do not cross, and what an action makes of them.
use Rattle.std.proofs.Common.{◌≡◌, Bool, true, false, cond, ℤ, pos, ◌+ℤ◌, neg_ℤ, refl, arith}
use Rattle.std.proofs.lemmas.Bool.{false≢true}
use Rattle.std.proofs.lemmas.Int.{ints}
use Rattle.std.specs.Prelude.{int_le}
use Rattle.kinds.specs.Values.{under, moved, added, reaches, bounds}
use Rattle.kinds.specs.Laws.{bounds_laws}
use Rattle.kinds.specs.declared.bound.Bound.{Bound}
use Rattle.kinds.specs.declared.bound.Bound.TheVariants.{Least, Whole, Greatest}
use Rattle.books.specs.Books.{smaller}

-- x + y is at least 0: neither is least, and they do not cross
abbrev pub Meets : Bound → Bound → Type 0
Meets x y = reaches (added x y) (Whole (pos 0)) ≡ true

same_sum : (a b c : ℤ) → (a +ℤ c) +ℤ (b +ℤ neg_ℤ c) ≡ a +ℤ b
same_sum a b c = omega (arith, ints)

pub meets_moved : (x y : Bound) (c : ℤ) → Meets x y → Meets (moved x c) (moved y (neg_ℤ c))
meets_moved Least y c h = h
meets_moved (Whole a) Least c h = h
meets_moved (Whole a) (Whole b) c h = rw (same_sum a b c) h
meets_moved (Whole a) Greatest c h = refl
meets_moved Greatest Least c h = h
meets_moved Greatest (Whole b) c h = refl
meets_moved Greatest Greatest c h = refl

pub meets_swap : (x y : Bound) → Meets x y → Meets y x
meets_swap Least y h = absurd (false≢true h)
meets_swap (Whole a) Least h = h
meets_swap (Whole a) (Whole b) h = grind (arith, ints)
meets_swap (Whole a) Greatest h = refl
meets_swap Greatest Least h = h
meets_swap Greatest (Whole b) h = refl
meets_swap Greatest Greatest h = refl

-- the smaller of two bounds that both meet y meets it
pub meets_smaller : (x x' y : Bound) → Meets x y → Meets x' y → Meets (smaller bounds x x') y
meets_smaller x x' y p q = go (under x x')
  where
    go : (b : Bool) → Meets (cond b x x') y
    go true = p
    go false = q

pub meets_smaller' : (x y y' : Bound) → Meets x y → Meets x y' → Meets x (smaller bounds y y')
meets_smaller' x y y' p q = go (under y y')
  where
    go : (b : Bool) → Meets x (cond b y y')
    go true = p
    go false = q

-- higher bounds meet too
pub meets_higher : (x y x' y' : Bound) → under x x' ≡ true → under y y' ≡ true → Meets x y → Meets x' y'
meets_higher x y x' y' p q h = bounds_laws.joint_rises x y x' y' (Whole (pos 0)) p q h

-- the ends of a range
pub range_meets : (a b : ℤ) → int_le a b ≡ true → Meets (Whole b) (Whole (neg_ℤ a))
range_meets a b h = grind (arith, ints)

-- from the test of the guard i ≤ c: y is L of i
pub at_most_meets : (c : ℤ) (y : Bound) → under (Whole (neg_ℤ c)) y ≡ true → Meets (Whole c) (moved y (pos 0))
at_most_meets c Least h = absurd (false≢true h)
at_most_meets c (Whole b) h = grind (arith, ints)
at_most_meets c Greatest h = refl

-- from the test of the guard i ≥ c: x is U of i
pub at_least_meets : (c : ℤ) (x : Bound) → under (Whole c) x ≡ true → Meets (moved x (pos 0)) (Whole (neg_ℤ c))
at_least_meets c Least h = absurd (false≢true h)
at_least_meets c (Whole a) h = grind (arith, ints)
at_least_meets c Greatest h = refl

-- from the test of the guard i ≤ k + d: y is L of i, x is U of k
pub before_meets : (x y : Bound) (d : ℤ) → reaches (added y x) (Whole (neg_ℤ d)) ≡ true → Meets (moved x d) (moved y (pos 0)) × Meets (moved x (pos 0)) (moved y d)
before_meets x Least d h = absurd (false≢true h)
before_meets Least (Whole b) d h = absurd (false≢true h)
before_meets (Whole a) (Whole b) d h = (grind (arith, ints), grind (arith, ints))
before_meets Greatest (Whole b) d h = (refl, refl)
before_meets Least Greatest d h = absurd (false≢true h)
before_meets (Whole a) Greatest d h = (refl, refl)
before_meets Greatest Greatest d h = (refl, refl)
