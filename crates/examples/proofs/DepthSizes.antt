-- How large a depth of k items can be, k × 1000, and a sum of k weights, k.
use Rattle.std.proofs.Common.{◌≡◌, ℕ, suc, ◌≤◌, true, leb, pos, negsuc, nat_abs, arith, leb-true}
use Rattle.kinds.specs.Kinds.{Made, Sum}
use Rattle.kinds.specs.Kinds.Made.{low, high, given, moved}
use Rattle.kinds.specs.Kinds.Sum.{none, one, more}
use Rattle.examples.specs.Descending.{depths, shallow, lowered, most_depth, DeepBy}
use Rattle.examples.specs.declared.descending.Depth.{Depth}
use Rattle.examples.specs.declared.descending.Depth.TheVariants.{Least, Whole, Greatest}

given_deep : (k : ℕ) (c : Depth) → shallow c ≡ true → DeepBy (suc k) c
given_deep k Least h = tt
given_deep k (Whole a) h = let g = leb-true (nat_abs a) most_depth h in omega arith
given_deep k Greatest h = tt

lowered_deep : (k : ℕ) (x : Depth) (w : ℕ) → leb w 1 ≡ true → DeepBy k x → DeepBy (suc k) (lowered x w)
lowered_deep k Least w h s = tt
lowered_deep k (Whole (pos n)) w h s = omega arith
lowered_deep k (Whole (negsuc n)) w h s = let g = leb-true w 1 h in omega arith
lowered_deep k Greatest w h s = tt

pub made_deep : {k : ℕ} {x : Depth} → Made depths k x → DeepBy k x
made_deep low = tt
made_deep high = tt
made_deep (given {k = k} {c = c} h) = given_deep k c h
made_deep (moved {k = k} {x = x} {w = w} h r) = lowered_deep k x w h (made_deep r)

pub sum_long : {k w : ℕ} → Sum depths k w → w ≤ k
sum_long none = omega arith
sum_long (one {k = k} {v = v} h) = let g = leb-true v 1 h in omega arith
sum_long (more {k = k} {v = v} {w = w} h r) = let g = leb-true v 1 h in let s = sum_long r in omega arith
