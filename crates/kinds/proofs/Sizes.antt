-- How large a sum of k items can be: k × 2^31.
use Rattle.std.proofs.Common.{◌≡◌, ℕ, suc, ◌*◌, ◌≤◌, true, ℤ, ◌+ℤ◌, nat_abs, arith, leb-true}
use Rattle.std.proofs.Math.Bridge.{le_prop}
use mathlib.Core.HLevel.{Unit-prop}
use borrow.Author.Differences.{ints}
use Rattle.kinds.specs.Kinds.{Made, Sum}
use Rattle.kinds.specs.Kinds.Made.{low, high, given, moved}
use Rattle.kinds.specs.Kinds.Sum.{none, one, more}
use Rattle.kinds.specs.Values.{most_size, small, small_bound, bounds, SizedBy}
use Rattle.kinds.specs.Values as values
use Rattle.kinds.specs.declared.bound.Bound.{Bound}
use Rattle.kinds.specs.declared.bound.Bound.TheVariants.{Least, Whole, Greatest}

-- a small number is one item in size, and goes to any sum as one more
small_first : (k : ℕ) (a : ℤ) → small a ≡ true → nat_abs a ≤ suc k * most_size
small_first k a h = let g = leb-true (nat_abs a) most_size h in omega arith

small_more : (k : ℕ) (a w : ℤ) → small w ≡ true → nat_abs a ≤ k * most_size → (nat_abs (a +ℤ w) ≤ suc k * most_size) × (nat_abs (w +ℤ a) ≤ suc k * most_size)
small_more k a w h s = let g = leb-true (nat_abs w) most_size h in (omega (arith, ints), omega (arith, ints))

given_sized : (k : ℕ) (c : Bound) → small_bound c ≡ true → SizedBy (suc k) c
given_sized k Least h = tt
given_sized k (Whole a) h = small_first k a h
given_sized k Greatest h = tt

moved_sized : (k : ℕ) (x : Bound) (w : ℤ) → small w ≡ true → SizedBy k x → SizedBy (suc k) (values.moved x w)
moved_sized k Least w h s = tt
moved_sized k (Whole a) w h s = (small_more k a w h s).0
moved_sized k Greatest w h s = tt

-- a bound made of k items
pub made_sized : {k : ℕ} {x : Bound} → Made bounds k x → SizedBy k x
made_sized low = tt
made_sized high = tt
made_sized (given {k = k} {c = c} h) = given_sized k c h
made_sized (moved {k = k} {x = x} {w = w} h r) = moved_sized k x w h (made_sized r)

-- a sum of k weights
pub sum_sized : {k : ℕ} {w : ℤ} → Sum bounds k w → nat_abs w ≤ k * most_size
sum_sized none = omega arith
sum_sized (one {k = k} {v = v} h) = small_first k v h
sum_sized (more {k = k} {v = v} {w = w} h r) = (small_more k w v h (sum_sized r)).1

pub sized_prop : (k : ℕ) (x : Bound) → IsProp (SizedBy k x)
sized_prop k Least = Unit-prop
sized_prop k (Whole a) = le_prop
sized_prop k Greatest = Unit-prop
