-- Values of a script's bounds that counted rounds come to, and the ends of their intervals, are at most n × 2^31 in size, n the number of unknowns.
use Rattle.std.proofs.Common.{ℕ, zero, suc, List, length, ℤ, pos, negsuc, neg_ℤ, Some, None, Option}
use Rattle.std.proofs.Math.Logic.{∥∥₁_elim}
use Rattle.kinds.specs.Values.{bounds, SizedBy}
use Rattle.kinds.specs.Laws.{bounds_laws}
use Rattle.kinds.specs.declared.bound.Bound.{Bound}
use Rattle.kinds.specs.declared.bound.Bound.TheVariants.{Least, Whole, Greatest}
use Rattle.kinds.proofs.Sizes.{made_sized, sized_prop}
use Rattle.books.specs.Books.{at}
use Rattle.books.specs.Forms.{Well}
use Rattle.strategy_theory.specs.Solving.{Stage}
use Rattle.strategy_theory.specs.Theory.{none_chosen, all_least, Facts}
use Rattle.strategy_theory.proofs.Stands.{facts}
use Rattle.strategy_theory.proofs.Chains.{rounds_stage}
use Rattle.language_theory.specs.Graphs.{Graph}
use Rattle.script_equations_theory.specs.Bounds.{upper, lower, variables_of, bound_book}
use Rattle.soundness_theory.specs.Intervals.{with_lower, ends, interval}
use Rattle.report_theory.specs.Laws.{ComesAfter}

sized_reached : (g : Graph) → Well bounds (bound_book g) → (k : ℕ) (y : List Bound) → ComesAfter bounds (bound_book g) k y → (u : ℕ) → SizedBy (length (bound_book g)) (at bounds y u)
sized_reached g well k y r u = ∥∥₁_elim (f.sizes.of_value r.strategy y (record { long = stage.x_long; value = λ i q. stage.feasible.values i }) u) (sized_prop (length (bound_book g)) (at bounds y u)) made_sized
  where
    f : Facts bounds (bound_book g)
    f = facts bounds bounds_laws (bound_book g) well

    stage : Stage bounds (bound_book g) r.strategy y
    stage = rounds_stage bounds bounds_laws (bound_book g) well (none_chosen (length (bound_book g))) (all_least bounds (length (bound_book g))) f.begins r.rounds

-- both ends of an interval
abbrev pub SizedPair : ℕ → Option (Bound × Bound) → Type 0
SizedPair n None = Unit {0}
SizedPair n (Some i) = SizedBy n i.0 × SizedBy n i.1

sized_negated : (n : ℕ) (b : ℤ) → SizedBy n (Whole b) → SizedBy n (Whole (neg_ℤ b))
sized_negated n (pos zero) h = h
sized_negated n (pos (suc a)) h = h
sized_negated n (negsuc a) h = h

sized_lower : (n : ℕ) (u l : Bound) → SizedBy n u → SizedBy n l → SizedPair n (with_lower u l)
sized_lower n u Least h k = tt
sized_lower n u (Whole b) h k = (sized_negated n b k, h)
sized_lower n u Greatest h k = (tt, h)

sized_ends : (n : ℕ) (u l : Bound) → SizedBy n u → SizedBy n l → SizedPair n (ends u l)
sized_ends n Least l h k = tt
sized_ends n (Whole a) l h k = sized_lower n (Whole a) l h k
sized_ends n Greatest l h k = sized_lower n Greatest l tt k

pub intervals_sized : (g : Graph) → Well bounds (bound_book g) → (k : ℕ) (y : List Bound) → ComesAfter bounds (bound_book g) k y → (p v : ℕ) → SizedPair (length (bound_book g)) (interval g y p v)
intervals_sized g well k y r p v =
    let s = sized_reached g well k y r in
    sized_ends (length (bound_book g)) (at bounds y (upper (variables_of g) p v)) (at bounds y (lower (variables_of g) p v)) (s (upper (variables_of g) p v)) (s (lower (variables_of g) p v))
