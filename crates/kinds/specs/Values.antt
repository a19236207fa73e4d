-- The two kinds of value: bounds, which are whole numbers with both infinities, and grades.
use Rattle.std.specs.Prelude.{ℕ, ◌*◌, ◌≤◌, min, Bool, true, false, ◌&&◌, ℤ, pos, ◌+ℤ◌, Some, None, Option, int_le, nat_le, unsigned_abs}
use Rattle.kinds.specs.Limits.{most_items}
use Rattle.kinds.specs.Kinds.{Ops}
use Rattle.kinds.specs.declared.bound.Bound.{Bound}
use Rattle.kinds.specs.declared.bound.Bound.TheVariants.{Least, Whole, Greatest}
use Rattle.kinds.specs.declared.grade.Grade.{Grade}
use Rattle.kinds.specs.declared.grade.Grade.TheVariants.{Unreached, Written, Sensed, Heard}
use Rattle.kinds.specs.declared.grade.NoWeight.{NoWeight}
use Rattle.kinds.specs.declared.grade.NoWeight.TheVariants.{Zero}

-- the order of bounds, whether the first is at most the second: that of whole numbers, with minus infinity below and plus infinity above all
abbrev pub under : Bound → Bound → Bool
under Least y = true
under (Whole a) Least = false
under (Whole a) (Whole b) = int_le a b
under (Whole a) Greatest = true
under Greatest Least = false
under Greatest (Whole b) = false
under Greatest Greatest = true

-- a bound moved by a weight: a whole number moves, an infinity stays
abbrev pub moved : Bound → ℤ → Bound
moved Least w = Least
moved (Whole a) w = Whole (a +ℤ w)
moved Greatest w = Greatest

-- the sum of two bounds: minus infinity absorbs everything, plus infinity all else
abbrev pub added : Bound → Bound → Bound
added Least y = Least
added (Whole a) Least = Least
added (Whole a) (Whole b) = Whole (a +ℤ b)
added (Whole a) Greatest = Greatest
added Greatest Least = Least
added Greatest (Whole b) = Greatest
added Greatest Greatest = Greatest

-- a sum passes the test against the threshold t if it is at least t; minus infinity never passes
abbrev pub reaches : Bound → Bound → Bool
reaches Least t = false
reaches (Whole a) t = under t (Whole a)
reaches Greatest t = true

-- the largest size of a constant, a threshold or a weight: 2^31
abbrev pub most_size : ℕ
most_size = 2147483648

-- whether a number may be a weight, a constant or a threshold
abbrev pub small : ℤ → Bool
small a = nat_le (unsigned_abs a) most_size

-- whether a bound may be a constant or a threshold: both infinities may
abbrev pub small_bound : Bound → Bool
small_bound Least = true
small_bound (Whole a) = small a
small_bound Greatest = true

-- bounds as a kind of value: weights are whole numbers, and the joint test is of the sum
abbrev pub bounds : Ops Bound ℤ
bounds = record { least = Least; greatest = Greatest; at_most = under; zero = pos 0; plus = ◌+ℤ◌; lighter = int_le; shift = moved; joint = λ x y t. reaches (added x y) t; sized = small_bound; light = small }

-- the whole number of a bound, where it is one
abbrev pub whole_of : Bound → Option ℤ
whole_of Least = None
whole_of (Whole a) = Some a
whole_of Greatest = None

-- a bound is an infinity, or a whole number of size at most k × 2^31: so large can a sum of k items be
abbrev pub SizedBy : ℕ → Bound → Type 0
SizedBy k Least = Unit {0}
SizedBy k (Whole a) = unsigned_abs a ≤ k * most_size
SizedBy k Greatest = Unit {0}

-- a number no larger than a sum of allowed length can be: at most 2^53 in size, so that two of them add in 64 bits
abbrev pub Within : ℤ → Type 0
Within a = unsigned_abs a ≤ most_items * most_size

-- a bound that is an infinity or such a number
abbrev pub Near : Bound → Type 0
Near x = SizedBy most_items x

-- the place of a grade in the order of grades, which is that of the declaration
abbrev pub rank_of : Grade → ℕ
rank_of Unreached = 0
rank_of Written = 1
rank_of Sensed = 2
rank_of Heard = 3

-- the order of grades: the first is at most the second
abbrev pub up_to : Grade → Grade → Bool
up_to x y = nat_le (rank_of x) (rank_of y)

-- the joint test of two grades: the lower of them is reached, and is at least t
abbrev pub both_reach : Grade → Grade → Grade → Bool
both_reach x y t = nat_le 1 (min (rank_of x) (rank_of y)) && nat_le (rank_of t) (min (rank_of x) (rank_of y))

-- grades as a kind of value: they have one weight, which moves nothing, and no limit of size
abbrev pub grades : Ops Grade NoWeight
grades = record { least = Unreached; greatest = Heard; at_most = up_to; zero = Zero; plus = λ v w. Zero; lighter = λ v w. true; shift = λ x w. x; joint = both_reach; sized = λ x. true; light = λ w. true }
