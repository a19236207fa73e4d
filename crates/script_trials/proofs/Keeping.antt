-- States that were looked at, one behind the other.
use Rattle.std.proofs.Common.{◌≡◌, ℕ, Bool, true, false, not, cond, if◌then◌else◌, List, [], ◌∷◌, ◌++◌, count_by, refl, subst, arith, append_assoc}
use Rattle.std.proofs.lemmas.List.{length_push}
use Rattle.std.proofs.lemmas.List.Sums.{sum_by-append}
use Rattle.script_trials.specs.Simulations.{Looks, Saw, is_inside, is_unfound}
use Rattle.script_trials.specs.declared.simulation.Observations.{Observations}
use Rattle.script_trials.specs.declared.simulation.State.{State}
use Rattle.script_graph.specs.declared.graph.Graph.{Graph}
use Rattle.reference.specs.declared.results.Results.{Results}

flag : (b : Bool) → ◌≡◌ {A = ℕ} (if b then 0 else 1) (cond (not b) 1 0)
flag true = refl
flag false = refl

module _ {g : Graph} {r : Results} where
  saw_push : (ss : List State) {s : State} {old new : Observations} → Looks g r s old new → Saw g r ss old → Saw g r (ss ++ s ∷ []) new
  saw_push ss {s = s} k h = record {
    states = omega (arith, k.states, h.states, length_push ss s);
    states_outside = omega (arith, k.states_outside, h.states_outside, flag (is_inside g r s), sum_by-append (λ t. cond (not (is_inside g r t)) 1 0) ss (s ∷ []));
    reads_unfound = omega (arith, k.reads_unfound, h.reads_unfound, sum_by-append (λ t. count_by (is_unfound g r t) g.lookups.items) ss (s ∷ []));
  }

  -- one state more behind those that were looked at since
  pub saw_more : (ss ts : List State) {s : State} {old new : Observations} → Looks g r s old new → Saw g r (ss ++ ts) old → Saw g r (ss ++ (ts ++ s ∷ [])) new
  saw_more ss ts {s = s} {new = new} k h = subst (λ (l : List State). Saw g r l new) (append_assoc ss ts (s ∷ [])) (saw_push (ss ++ ts) k h)
