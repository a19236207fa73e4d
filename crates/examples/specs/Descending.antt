-- A kind of value that only descends, and a system over it.
use Rattle.std.specs.Prelude.{ℕ, ◌+◌, ◌*◌, ◌≤◌, Bool, true, not, ◌&&◌, ◌||◌, List, [], ◌∷◌, ℤ, pos, negsuc, nat_le, unsigned_abs}
use Rattle.kinds.specs.Limits.{most_items}
use Rattle.kinds.specs.Kinds.{Ops}
use Rattle.kinds.specs.Values.{under}
use Rattle.kinds.specs.declared.bound.Bound.{Bound}
use Rattle.kinds.specs.declared.bound.Bound.TheVariants as bound
use Rattle.books.specs.declared.Term.TheVariants.{Constant}
use Rattle.books.specs.declared.Test.TheVariants.{Single}
use Rattle.books.specs.declared.Terms.TheVariants.{One}
use Rattle.books.specs.declared.Alternative.{Alternative}
use Rattle.books.specs.Forms.{constant, shifted}
use Rattle.examples.specs.Systems.{alternative}
use Rattle.examples.specs.declared.descending.Depth.{Depth}
use Rattle.examples.specs.declared.descending.Depth.TheVariants.{Least, Whole, Greatest}

-- a depth read as a bound
abbrev pub bound_of : Depth → Bound
bound_of Least = bound.Least
bound_of (Whole a) = bound.Whole a
bound_of Greatest = bound.Greatest

-- the order of depths, whether the first is at most the second: that of bounds
abbrev pub depth_under : Depth → Depth → Bool
depth_under x y = under (bound_of x) (bound_of y)

-- a whole number lowered by a weight: one below zero goes down by as much, any other stays; negsuc n is -(n + 1)
abbrev pub lowered_whole : ℤ → ℕ → ℤ
lowered_whole (pos n) w = pos n
lowered_whole (negsuc n) w = negsuc (n + w)

-- a depth lowered by a weight: an infinity stays
abbrev pub lowered : Depth → ℕ → Depth
lowered Least w = Least
lowered (Whole a) w = Whole (lowered_whole a w)
lowered Greatest w = Greatest

-- a depth is more than minus infinity
abbrev pub above : Depth → Bool
above x = not (depth_under x Least)

-- the joint test of two depths: both are more than minus infinity, and the greater of them, so one of them, is at least t
abbrev pub one_reaches : Depth → Depth → Depth → Bool
one_reaches x y t = above x && (above y && (depth_under t x || depth_under t y))

-- the largest size of a constant or a threshold
abbrev pub most_depth : ℕ
most_depth = 1000

-- whether a depth may be a constant or a threshold: both infinities may
abbrev pub shallow : Depth → Bool
shallow Least = true
shallow (Whole a) = nat_le (unsigned_abs a) most_depth
shallow Greatest = true

-- depths as a kind of value: a weight counts how often a value is lowered, up to once in a term, and is the less the greater the count, so that none is greater than zero
abbrev pub depths : Ops Depth ℕ
depths = record { least = Least; greatest = Greatest; at_most = depth_under; zero = 0; plus = ◌+◌; lighter = λ v w. nat_le w v; shift = lowered; joint = one_reaches; sized = shallow; light = λ w. nat_le w 1 }

-- a depth is an infinity, or a whole number of size at most k × 1000: so large can a value of k items be
abbrev pub DeepBy : ℕ → Depth → Type 0
DeepBy k Least = Unit {0}
DeepBy k (Whole a) = unsigned_abs a ≤ k * most_depth
DeepBy k Greatest = Unit {0}

-- a number no larger than a value of allowed length can be
abbrev pub Deep : ℤ → Type 0
Deep a = unsigned_abs a ≤ most_items * most_depth

-- a weight no larger than a sum of allowed length can be
abbrev pub Long : ℕ → Type 0
Long w = w ≤ most_items

-- u0 = max(-5, u1 lowered once), u1 = max(u0 lowered once, -2 if u0 ≥ -5)
abbrev pub descending_depths : List (List (Alternative Depth ℕ))
descending_depths =
    (constant (Whole (negsuc 4)) ∷ shifted 1 1 ∷ []) ∷
    (shifted 0 1 ∷ alternative (Single 0 (Whole (negsuc 4))) (One (Constant (Whole (negsuc 1)))) ∷ []) ∷ []

-- where it rests: u0 is -3, which is u1 lowered once, and u1 is -2
abbrev pub resting_depths : List Depth
resting_depths = Whole (negsuc 2) ∷ Whole (negsuc 1) ∷ []
