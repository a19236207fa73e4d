-- the theory, put together
use Rattle.std.proofs.Common.{◌≡◌, ℕ, ◌<◌, ◌⊎◌, List, [], length, get_or, Some, None, Option, sym, ap, ◌∙◌, subst, inl, inr, arith}
use Rattle.kinds.specs.Kinds.{Ops, Laws}
use Rattle.books.specs.Books.{at, terms}
use Rattle.books.specs.Forms.{Light, Well}
use Rattle.strategy_theory.specs.Strategies.{chosen, pick}
use Rattle.books.specs.declared.Alternative.{Alternative}
use Rattle.books.proofs.Order.{Le}
use Rattle.books.proofs.Worth.{option_cases, Under}
use Rattle.std.proofs.lemmas.List.FromFn.{get_or-map-range_with_len}
use Rattle.strategy_theory.specs.Solving.{improved, Stage}
use Rattle.strategy_theory.specs.Sweeping.{opened, opening, Replaced}
use Rattle.strategy_theory.specs.Sweeping.Replaced.{fresh, again}
use Rattle.strategy_theory.specs.Theory.{Round, Sizes, Facts, Stands}
use Rattle.strategy_theory.proofs.Walks.{value_unique}
use Rattle.strategy_theory.proofs.Sweeps.{Sound, sound_relaxed, sound_opening, relaxed_over}
use Rattle.strategy_theory.proofs.Theory.{light_of, inside_of, all_values, improved_at, switched_keeps, switch_at, start_stage, start_under, round_better, round_closed, round_rings, round_bellman, round_rises, round_rises_strictly, round_stage, round_under, under_right, settled_solution, solution_settled}
use Rattle.strategy_theory.proofs.Chains.{rounds_few, rounds_differ, rest_is_least}
use Rattle.strategy_theory.proofs.Ends.{lists_same, after_values, fixed_is, least_solution, each_of, made_value, made_within}

module _ {V W : Type 0} (o : Ops V W) (l : Laws o) where
  module _ (c : ℕ → Option (Alternative V W)) (n : ℕ) (inside : (u : ℕ) (a : Alternative V W) → c u ≡ Some a → u < n)
      (light : (u : ℕ) (a : Alternative V W) → c u ≡ Some a → Light o a.terms) where
    pub replaced_sound : {z : List V} → Replaced o c n z → Sound o l c n z
    replaced_sound fresh = sound_opening o l c n inside light
    replaced_sound (again {z = z} u r) = sound_relaxed o l c n inside light z u (replaced_sound r)

    opening_over : (x : List V) → ((u : ℕ) → c u ≡ None → at o x u ≡ o.least) → Under o l x (opening o c n)
    opening_over x h u = go (option_cases (c u))
      where
        go : (c u ≡ None) ⊎ ((a : Alternative V W) × (c u ≡ Some a)) → Le o (at o x u) (at o (opening o c n) u)
        go (inl e) = subst (λ (z : V). Le o z (at o (opening o c n) u)) (sym (h u e)) (l.bottom _)
        go (inr r) = subst (λ (z : V). Le o (at o x u) z)
            (sym (get_or-map-range_with_len (λ (i : ℕ). opened o (c i)) 0 n u u o.least (inside u r.0 r.1) (omega arith) ∙ ap (λ (k : Option (Alternative V W)). opened o k) r.1)) (l.top _)

    pub replaced_over : (x : List V) → ((u : ℕ) → c u ≡ None → at o x u ≡ o.least) → ((u : ℕ) (a : Alternative V W) → c u ≡ Some a → at o x u ≡ terms o x a.terms) →
        {z : List V} → Replaced o c n z → Under o l x z
    replaced_over x h fx fresh = opening_over x h
    replaced_over x h fx (again {z = z} u r) = relaxed_over o l c n inside light x z (replaced_sound r).long fx (replaced_over x h fx r) u

  module _ (m : List (List (Alternative V W))) (well : Well o m) where
    round_of : (s : List (Option ℕ)) (x : List V) → Stage o m s x → Round o m s x
    round_of s x st = record {
      reaches = λ u a e. let b = round_better o l m well s x st u a e in record { over = b.over; above = b.above; true_test = b.true_test };
      switches = switch_at o l m well s x;
      stays = λ u h e. ap (λ (k : Option ℕ). pick (get_or m u []) k) (improved_at o l m well s x u h ∙ switched_keeps o l m well s x u e);
      closed = round_closed o l m well s x st;
      rings = round_rings o l m well s x st;
      smaller = round_bellman o l m well s x st;
      rises = round_rises o l m well s x st;
      rises_strictly = round_rises_strictly o l m well s x st;
      stage = round_stage o l m well s x st;
      under = round_under o l m well s x st;
      under_right = under_right o l m well s x st;
      rests = (settled_solution o l m well s x st, solution_settled o l m well s x st);
      above = λ x' z v r. replaced_over (chosen m (improved o m x s)) (length m) (inside_of o l m well (improved o m x s)) (light_of o l m well (improved o m x s)) x'
          (λ u e. (all_values o l m well (improved o m x s) x' v u).none e) (round_bellman o l m well s x st x' v) r;
      fixed = λ z r h. fixed_is o l m well s x st z (replaced_sound (chosen m (improved o m x s)) (length m) (inside_of o l m well (improved o m x s)) (light_of o l m well (improved o m x s)) r) h;
      swept_values = after_values o l m well s x st;
    }

    sizes_of : Sizes o m
    sizes_of = record {
      at_step = λ s k i h g u. made_within o l (chosen m s) (length m) (inside_of o l m well s) (each_of o l m well s) well.small k h i g u;
      of_value = λ s x v u. made_value o l (chosen m s) (length m) (inside_of o l m well s) (each_of o l m well s) (light_of o l m well s) u (at o x u) (all_values o l m well s x v u);
    }

    pub facts : Facts o m
    facts = record {
      begins = start_stage o l m well;
      begins_below = start_under o l m well;
      rounds = round_of;
      one_value = λ s x y p q. lists_same o l x y (p.long ∙ sym q.long) (λ u. value_unique o l (chosen m s) u (at o x u) (at o y u) (all_values o l m well s x p u) (all_values o l m well s y q u));
      differ = λ s₀ x₀ st ss s x r. rounds_differ o l m well s₀ x₀ st r;
      few = λ s₀ x₀ st ss s x r. rounds_few o l m well s₀ x₀ st r;
      rest = λ ss s x r h. rest_is_least o l m well r h;
      sizes = sizes_of;
      least = let k = least_solution o l m well in (k.x, k.solves, k.least);
    }

  pub stands : Stands o
  stands m well = facts m well
