-- The runs, step by step.
use Rattle.std.proofs.Common.{◌≡◌, ℕ, zero, suc, ◌+◌, ◌<◌, true, List, [], ◌∷◌, length, ℤ, pos, negsuc, slice_index_or, refl, subst, lit≤, arith}
use Rattle.std.specs.Prelude.{int_le, nat_le}
use Rattle.std.proofs.lemmas.Bool.{false≢true}
use Rattle.std.proofs.lemmas.Bool.Decides.{nat_tests}
use Rattle.language_theory.specs.Graphs.{Graph, only, range}
use Rattle.language_theory.specs.Examples.{at, edge, range as from, counting_graph, looking_up_graph, choosing_graph}
use Rattle.language_theory.specs.declared.Source.TheVariants.{Written, Sensed, Heard}
use Rattle.language_theory.specs.declared.Action.TheVariants.{Skip, Assign, Assume}
use Rattle.language_theory.specs.declared.Guard.TheVariants.{AtMost, AtLeast, Difference}
use Rattle.language_theory.specs.declared.Value.TheVariants.{AnyOf, TableEntry, Sum, Negation}
use Rattle.language_theory.specs.declared.Edge.{Edge}
use Rattle.language_theory.specs.declared.Range.{Range}
use Rattle.language_theory.proofs.Shown.{examples}
use Rattle.soundness_theory.specs.Runs.{InRange, Acts, Run, OutsideRead, of}
use Rattle.soundness_theory.specs.Runs.Run.{begins, goes}
use Rattle.examples.specs.Scripts.{hearing_graph, around_zero}
use Rattle.examples.specs.Shown.{GoesAlong, the_read, RunsShown}
use Rattle.examples.proofs.Drawings.{hearing_drawn}

-- what holds of the numbers below one, and below two
below_one : (P : ℕ → Type 0) → P 0 → (v : ℕ) → v < 1 → P v
below_one P p zero h = p
below_one P p (suc v) h = absurd (omega arith)

below_two : (P : ℕ → Type 0) → P 0 → P 1 → (v : ℕ) → v < 2 → P v
below_two P p q zero h = p
below_two P p q (suc zero) h = q
below_two P p q (suc (suc v)) h = absurd (omega arith)

in_range : {r : Range} {z : ℤ} → int_le r.low z ≡ true → int_le z r.high ≡ true → InRange r z
in_range p q = record { low = p; high = q }

-- the edge of the number k
abbrev edge_of : Graph → ℕ → Edge
edge_of g k = slice_index_or g.edges k (edge 0 0 Skip (at 0 0))

-- a run goes on along it
along : (g : Graph) {x x' : List ℤ} (k : ℕ) → k < length g.edges → slice_index_or g.edges k (edge_of g k) ≡ edge_of g k →
    Run g (edge_of g k).source x → Acts (edge_of g k).action x x' → GoesAlong g (edge_of g k).action (edge_of g k).source x (edge_of g k).target x'
along g k h i r a = record { place = (edge_of g k).place; before = r; among = (k, h, i); acts = a; behind = goes (edge_of g k) r (k, h, i) a }

-- where the runs begin
begins_one : {g : Graph} {a : ℤ} → 1 ≡ length g.variables → InRange (range g 0) a → Run g 0 (a ∷ [])
begins_one {g = g} {a = a} n r = begins n (λ v h. below_one (λ v. InRange (range g v) (of (a ∷ []) v)) r v (omega arith))

begins_two : {g : Graph} {a b : ℤ} → 2 ≡ length g.variables → InRange (range g 0) a → InRange (range g 1) b → Run g 0 (a ∷ b ∷ [])
begins_two {g = g} {a = a} {b = b} n r s = begins n (λ v h. below_two (λ v. InRange (range g v) (of (a ∷ b ∷ []) v)) r s v (omega arith))

-- i becomes 5, and then -1
gives : GoesAlong hearing_graph (Assign 0 (AnyOf (only (pos 5)) Written)) 0 (pos 0 ∷ []) 1 (pos 5 ∷ [])
gives = along hearing_graph 0 (lit≤ tt) refl (begins_one refl (in_range refl refl)) (pos 5, in_range refl refl, refl)

hears : GoesAlong hearing_graph (Assign 0 (AnyOf around_zero Heard)) 1 (pos 5 ∷ []) 2 (negsuc 0 ∷ [])
hears = along hearing_graph 1 (lit≤ tt) refl gives.behind (negsuc 0, in_range refl refl, refl)

-- i is 5 and n is 4: i becomes 2, and then 0
at_or_above : GoesAlong choosing_graph (Assume (Difference 1 0 (pos 0))) 0 (pos 5 ∷ pos 4 ∷ []) 1 (pos 5 ∷ pos 4 ∷ [])
at_or_above = along choosing_graph 0 (lit≤ tt) refl (begins_two refl (in_range refl refl) (in_range refl refl)) (refl, refl)

senses : GoesAlong choosing_graph (Assign 0 (AnyOf (from 0 5) Sensed)) 1 (pos 5 ∷ pos 4 ∷ []) 2 (pos 2 ∷ pos 4 ∷ [])
senses = along choosing_graph 1 (lit≤ tt) refl at_or_above.behind (pos 2, in_range refl refl, refl)

skips : GoesAlong choosing_graph Skip 2 (pos 2 ∷ pos 4 ∷ []) 5 (pos 2 ∷ pos 4 ∷ [])
skips = along choosing_graph 4 (lit≤ tt) refl senses.behind refl

shifts : GoesAlong choosing_graph (Assign 0 (Sum 0 (negsuc 1))) 5 (pos 2 ∷ pos 4 ∷ []) 6 (pos 0 ∷ pos 4 ∷ [])
shifts = along choosing_graph 6 (lit≤ tt) refl skips.behind (pos 0, refl, refl)

-- i is 1 and n is 3: i becomes -3
below : GoesAlong choosing_graph (Assume (Difference 0 1 (negsuc 0))) 0 (pos 1 ∷ pos 3 ∷ []) 3 (pos 1 ∷ pos 3 ∷ [])
below = along choosing_graph 2 (lit≤ tt) refl (begins_two refl (in_range refl refl) (in_range refl refl)) (refl, refl)

negates : GoesAlong choosing_graph (Assign 0 (Negation 1)) 3 (pos 1 ∷ pos 3 ∷ []) 4 (negsuc 2 ∷ pos 3 ∷ [])
negates = along choosing_graph 3 (lit≤ tt) refl below.behind (negsuc 2, refl, refl)

-- i is 2, and becomes 4
at_least : GoesAlong looking_up_graph (Assume (AtLeast 0 (pos 0))) 0 (pos 2 ∷ []) 1 (pos 2 ∷ [])
at_least = along looking_up_graph 0 (lit≤ tt) refl (begins_one refl (in_range refl refl)) (refl, refl)

at_most : GoesAlong looking_up_graph (Assume (AtMost 0 (pos 3))) 1 (pos 2 ∷ []) 2 (pos 2 ∷ [])
at_most = along looking_up_graph 1 (lit≤ tt) refl at_least.behind (refl, refl)

reads : GoesAlong looking_up_graph (Assign 0 (TableEntry 0 (from 0 4))) 2 (pos 2 ∷ []) 3 (pos 4 ∷ [])
reads = along looking_up_graph 2 (lit≤ tt) refl at_most.behind (pos 4, in_range refl refl, refl)

-- i is 4, which is not below the size
outside : OutsideRead looking_up_graph the_read (pos 4 ∷ [])
outside = record { among = (0, lit≤ tt, refl); run = begins_one refl (in_range refl refl); outside = λ h. false≢true h.1 }

-- once round the loop of `counting`, and n times
round : (n : ℕ) → nat_le n 9 ≡ true → Run counting_graph 1 (pos n ∷ []) → Run counting_graph 1 (pos (n + 1) ∷ [])
round n h r =
    let guarded : GoesAlong counting_graph (Assume (AtMost 0 (pos 9))) 1 (pos n ∷ []) 2 (pos n ∷ []) = along counting_graph 1 (lit≤ tt) refl r (h, refl) in
    let counted : GoesAlong counting_graph (Assign 0 (Sum 0 (pos 1))) 2 (pos n ∷ []) 3 (pos (n + 1) ∷ []) = along counting_graph 2 (lit≤ tt) refl guarded.behind (pos (n + 1), refl, refl) in
    (along counting_graph 3 (lit≤ tt) refl counted.behind refl).behind

rounds : (n : ℕ) → nat_le n 10 ≡ true → Run counting_graph 1 (pos n ∷ [])
rounds zero h = (along counting_graph 0 (lit≤ tt) refl (begins_one refl (in_range refl refl)) refl).behind
rounds (suc n) h = subst (λ (k : ℕ). Run counting_graph 1 (pos k ∷ [])) (omega arith) (round n (grind (arith, nat_tests)) (rounds n (grind (arith, nat_tests))))

counts : Run counting_graph 4 (pos 10 ∷ [])
counts = (along counting_graph 4 (lit≤ tt) refl (rounds 10 refl) (refl, refl)).behind

pub runs : RunsShown
runs = record {
  draws_hearing = hearing_drawn;
  gives = gives;
  hears = hears;
  draws_choosing = examples.chooses;
  at_or_above = at_or_above;
  senses = senses;
  skips = skips;
  shifts = shifts;
  below = below;
  negates = negates;
  at_least = at_least;
  at_most = at_most;
  reads = reads;
  reads_outside = outside;
  counts = counts;
}
