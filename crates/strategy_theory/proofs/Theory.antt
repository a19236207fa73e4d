-- the theory at lists: the start, a round, the end
use Rattle.std.proofs.Common.{◌≡◌, ℕ, zero, suc, ◌<◌, ◌≤◌, Bool, false, cond, ◌⊎◌, List, [], ◌∷◌, length, get_or, replicate, Some, None, Option, sym, refl, ap, ◌∙◌, subst, inl, inr, arith}
use lib.ListN.{length-replicate, get_or-replicate}
use Rattle.kinds.specs.Limits.{most_items}
use Rattle.kinds.specs.Kinds.{Ops, Laws, Less}
use Rattle.books.specs.Books.{at, terms, worth, best, right, Solution, HoldsUp, nth, next, reach}
use Rattle.books.specs.Forms.{Light, Well}
use Rattle.strategy_theory.specs.Strategies.{Unchosen, Leads, IsValue, Walk, Improves, chosen, pick}
use Rattle.strategy_theory.specs.Strategies.Walk.{step}
use Rattle.books.specs.declared.Term.TheVariants.{Shifted}
use Rattle.books.specs.declared.Alternative.{Alternative}
use Rattle.std.proofs.lemmas.Bool.{cases_Bool}
use Rattle.books.proofs.Order.{Le, never_both, le_or_lt, le_of_eq, le_trans, lt_of_lt_le, not_least, greater_either}
use Rattle.books.proofs.Asked.{inside_nth}
use Rattle.books.proofs.Worth.{no_option, option_cases, Under, worth_is, best_over}
use native.Mathlib.Decide.{dec_lt}
use Rattle.std.proofs.lemmas.List.FromFn.{length-map-range_with_len, get_or-map-range_with_len}
use Rattle.std.proofs.lemmas.List.{get_or_past}
use Rattle.strategy_theory.specs.Solving.{switched, improved, Values, Stage, Settled}
use Rattle.strategy_theory.specs.Sweeping.{sweeps, opening}
use Rattle.strategy_theory.proofs.Walks.{road_chosen}
use Rattle.strategy_theory.proofs.Rounds.{same_some, Better, better, named_chosen, rings_after, bellman_after, rises, rises_strictly, feasible_after}
use Rattle.strategy_theory.proofs.Bounds.{stays_under}
use Rattle.strategy_theory.proofs.Sweeps.{sweeps_value}
use Rattle.strategy_theory.proofs.Codes.{InRange}

pick_nil : {A : Type 0} (k : Option ℕ) → pick {A = A} [] k ≡ None
pick_nil None = refl
pick_nil (Some k) = refl

-- a chosen alternative is worth at most the right side
module _ {V W : Type 0} (o : Ops V W) (l : Laws o) where
  pub right_over : (m : List (List (Alternative V W))) (s : List (Option ℕ)) (x : List V) (u : ℕ) (a : Alternative V W) → chosen m s u ≡ Some a → Le o (worth o x a) (right o m x u)
  right_over m s x u a = go (get_or s u None)
    where
      go : (k : Option ℕ) → pick (get_or m u []) k ≡ Some a → Le o (worth o x a) (right o m x u)
      go None e = absurd (no_option e)
      go (Some k) e = best_over o l x (get_or m u []) k a e

module _ {V W : Type 0} (o : Ops V W) (l : Laws o) (m : List (List (Alternative V W))) (well : Well o m) where
  pub light_of : (s : List (Option ℕ)) (u : ℕ) (a : Alternative V W) → chosen m s u ≡ Some a → Light o a.terms
  light_of s u a = go (get_or s u None)
    where
      go : (k : Option ℕ) → pick (get_or m u []) k ≡ Some a → Light o a.terms
      go None e = absurd (no_option e)
      go (Some k) e = λ v w am. ((well.fine u k a e).each (Shifted v w) am).1

  pub past_none : (s : List (Option ℕ)) (u : ℕ) → length m ≤ u → chosen m s u ≡ None
  past_none s u h = ap (λ (bs : List (Alternative V W)). pick bs (get_or s u None)) (get_or_past m u [] h) ∙ pick_nil (get_or s u None)

  pub inside_of : (s : List (Option ℕ)) (u : ℕ) (a : Alternative V W) → chosen m s u ≡ Some a → u < length m
  inside_of s u a e = go (dec_lt u (length m))
    where
      go : Dec (u < length m) → u < length m
      go (yes h) = h
      go (no h) = absurd (no_option (sym (past_none s u (omega arith)) ∙ e))

  pub all_values : (s : List (Option ℕ)) (x : List V) → Values o m s x → (u : ℕ) → IsValue o (chosen m s) u (at o x u)
  all_values s x v u = go (dec_lt u (length m))
    where
      go : Dec (u < length m) → IsValue o (chosen m s) u (at o x u)
      go (yes h) = v.value u h
      go (no h) =
          let long = v.long in
          let p : length m ≤ u = omega arith in
          let q : length x ≤ u = omega arith in
          record {
            none = λ _. get_or_past x u o.least q;
            lowest = λ vs y r. absurd (no_option (sym (past_none s u p) ∙ (road_chosen o l (chosen m s) r).1));
            met = λ n. absurd (n (past_none s u p));
          }

  -- the start: nothing is chosen, and all is least
  none_chosen : (u : ℕ) → chosen m (replicate (length m) None) u ≡ None
  none_chosen u = go (dec_lt u (length m))
    where
      go : Dec (u < length m) → chosen m (replicate (length m) None) u ≡ None
      go (yes h) = ap (λ (k : Option ℕ). pick (get_or m u []) k) (get_or-replicate (length m) u None None h)
      go (no h) = past_none (replicate (length m) None) u (omega arith)

  all_least : (u : ℕ) → at o (replicate (length m) o.least) u ≡ o.least
  all_least u = go (dec_lt u (length m))
    where
      go : Dec (u < length m) → at o (replicate (length m) o.least) u ≡ o.least
      go (yes h) = get_or-replicate (length m) u o.least o.least h
      go (no h) = get_or_past (replicate (length m) o.least) u o.least (simp length-replicate (omega arith))

  no_walk : {u z k : ℕ} {w : W} → Walk o (chosen m (replicate (length m) None)) u z (suc k) w → ⊥
  no_walk (step {u = u} ld r) = no_option (sym (none_chosen u) ∙ ld.is)

  pub start_stage : Stage o m (replicate (length m) None) (replicate (length m) o.least)
  start_stage = record {
    s_long = length-replicate (length m) None;
    x_long = length-replicate (length m) o.least;
    range = λ u k e. absurd (no_option (sym (none_at u) ∙ e));
    feasible = record {
      values = λ u. record { none = λ _. all_least u; lowest = λ vs y r. absurd (no_option (sym (none_chosen u) ∙ (road_chosen o l _ r).1)); met = λ n. absurd (n (none_chosen u)) };
      kept = λ u a e. absurd (no_option (sym (none_chosen u) ∙ e));
      rings = λ u k w r h. absurd (no_walk r);
    };
  }
    where
      none_at : (u : ℕ) → get_or {A = Option ℕ} (replicate (length m) None) u None ≡ None
      none_at u = go (dec_lt u (length m))
        where
          go : Dec (u < length m) → get_or {A = Option ℕ} (replicate (length m) None) u None ≡ None
          go (yes h) = get_or-replicate (length m) u None None h
          go (no h) = get_or_past (replicate (length m) None) u None (simp length-replicate (omega arith))

  pub start_under : (y : List V) → Under o l (replicate (length m) o.least) y
  start_under y u = subst (λ (z : V). Le o z (at o y u)) (sym (all_least u)) (l.bottom _)

  -- the improved strategy
  pub record Reached (x : List V) (r : V) (bs : List (Alternative V W)) : Type 0 where
    pub k : ℕ
    pub a : Alternative V W
    pub is : reach o x r bs ≡ Some k
    pub named : nth bs k ≡ Some a
    pub over : Le o r (worth o x a)

  pub reaches : (x : List V) (r : V) (bs : List (Alternative V W)) → (r ≡ o.least → ⊥) → Le o r (best o x bs) → Reached x r bs
  reaches x r [] n h = absurd (n (l.antisymmetric r o.least h (l.bottom r)))
  reaches x r (a ∷ bs) n h = go (reaches x r bs n) (cases_Bool (o.at_most r (worth o x a))) (greater_either o l (worth o x a) (best o x bs))
    where
      go : (Le o r (best o x bs) → Reached x r bs) → (Le o r (worth o x a)) ⊎ (Less o (worth o x a) r) → (best o x (a ∷ bs) ≡ worth o x a) ⊎ (best o x (a ∷ bs) ≡ best o x bs) → Reached x r (a ∷ bs)
      go ih (inl e) q = record { k = zero; a = a; is = ap (λ (b : Bool). cond b (Some zero) (next (reach o x r bs))) e; named = refl; over = e }
      go ih (inr e) (inl q) = absurd (never_both (subst (λ (z : V). Le o r z) q h) e)
      go ih (inr e) (inr q) = let f = ih (subst (λ (z : V). Le o r z) q h) in
          record { k = suc f.k; a = f.a; is = ap (λ (b : Bool). cond b (Some zero) (next (reach o x r bs))) e ∙ ap next f.is; named = f.named; over = f.over }

  module _ (s : List (Option ℕ)) (x : List V) where
    pub improved_at : (u : ℕ) → u < length m → get_or (improved o m x s) u None ≡ switched o m x s u
    improved_at u h = get_or-map-range_with_len (switched o m x s) 0 (length m) u u None h (omega arith)

    pub switched_keeps : (u : ℕ) → Le o (right o m x u) (at o x u) → switched o m x s u ≡ get_or s u None
    switched_keeps u e = ap (λ (b : Bool). cond b (get_or s u None) (reach o x (right o m x u) (get_or m u []))) e

    pub switched_reach : (u : ℕ) → Less o (at o x u) (right o m x u) → switched o m x s u ≡ reach o x (right o m x u) (get_or m u [])
    switched_reach u e = ap (λ (b : Bool). cond b (get_or s u None) (reach o x (right o m x u) (get_or m u []))) e

    pub reached_at : (u : ℕ) → Less o (at o x u) (right o m x u) → Reached x (right o m x u) (get_or m u [])
    reached_at u e = reaches x (right o m x u) (get_or m u []) (not_least o l e) (l.reflexive _)

    pub switch_at : (u : ℕ) → u < length m → Less o (at o x u) (right o m x u) → (a : Alternative V W) × (chosen m (improved o m x s) u ≡ Some a) × Less o (at o x u) (worth o x a)
    switch_at u h e = let f = reached_at u e in
        (f.a, ap (λ (k : Option ℕ). pick (get_or m u []) k) (improved_at u h ∙ switched_reach u e ∙ f.is) ∙ f.named, lt_of_lt_le o l e f.over)

    pub improves : Improves o x (chosen m s) (chosen m (improved o m x s))
    improves u = go (dec_lt u (length m)) (le_or_lt o l (right o m x u) (at o x u))
      where
        go : Dec (u < length m) → (Le o (right o m x u) (at o x u)) ⊎ (Less o (at o x u) (right o m x u)) →
            (chosen m (improved o m x s) u ≡ chosen m s u) ⊎ ((a : Alternative V W) × (chosen m (improved o m x s) u ≡ Some a) × Less o (at o x u) (worth o x a))
        go (no h) d = let p : length m ≤ u = omega arith in inl (past_none (improved o m x s) u p ∙ sym (past_none s u p))
        go (yes h) (inl e) = inl (ap (λ (k : Option ℕ). pick (get_or m u []) k) (improved_at u h ∙ switched_keeps u e))
        go (yes h) (inr e) = inr (switch_at u h e)

    pub improved_long : length (improved o m x s) ≡ length m
    improved_long = length-map-range_with_len (switched o m x s) 0 (length m)

    pub improved_range : InRange m s → InRange m (improved o m x s)
    improved_range r u k e = go (dec_lt u (length m)) (le_or_lt o l (right o m x u) (at o x u))
      where
        go : Dec (u < length m) → (Le o (right o m x u) (at o x u)) ⊎ (Less o (at o x u) (right o m x u)) → k < length (get_or m u [])
        go (no h) d = absurd (no_option (sym (get_or_past (improved o m x s) u None (simp (length-map-range_with_len (switched o m x s) 0 (length m)) (omega arith))) ∙ e))
        go (yes h) (inl q) = r u k (sym (improved_at u h ∙ switched_keeps u q) ∙ e)
        go (yes h) (inr q) = let f = reached_at u q in
            let j : f.k ≡ k = same_some f.is (sym (improved_at u h ∙ switched_reach u q) ∙ e) in
            subst (λ (i : ℕ). i < length (get_or m u [])) j (inside_nth (get_or m u []) f.k f.a f.named)

  -- one round
  module _ (s : List (Option ℕ)) (x : List V) (st : Stage o m s x) where
    pub round_better : (u : ℕ) (a : Alternative V W) → chosen m (improved o m x s) u ≡ Some a → Better o l (chosen m s) (chosen m (improved o m x s)) (light_of (improved o m x s)) x st.feasible (improves s x) u a
    round_better = better o l (chosen m s) (chosen m (improved o m x s)) (light_of (improved o m x s)) x st.feasible (improves s x)

    pub round_closed : (u v : ℕ) (w : W) → Leads o (chosen m (improved o m x s)) u (Shifted v w) → Unchosen o (chosen m (improved o m x s)) v → ⊥
    round_closed = named_chosen o l (chosen m s) (chosen m (improved o m x s)) (light_of (improved o m x s)) x st.feasible (improves s x)

    pub round_rings : (u k : ℕ) (w : W) → Walk o (chosen m (improved o m x s)) u u (suc k) w → suc k ≤ most_items → o.lighter w o.zero ≡ false
    round_rings = rings_after o l (chosen m s) (chosen m (improved o m x s)) (light_of (improved o m x s)) x st.feasible (improves s x)

    -- the values of the improved strategy, by sweeps
    pub round_value : (u : ℕ) → IsValue o (chosen m (improved o m x s)) u (at o (sweeps o (chosen m (improved o m x s)) (length m) (opening o (chosen m (improved o m x s)) (length m)) (length m)) u)
    round_value = sweeps_value o l (chosen m (improved o m x s)) (length m) (inside_of (improved o m x s)) (light_of (improved o m x s)) well.small round_rings

    module _ (x' : List V) (v : Values o m (improved o m x s) x') where
      pub round_bellman : (u : ℕ) (a : Alternative V W) → chosen m (improved o m x s) u ≡ Some a → at o x' u ≡ terms o x' a.terms
      round_bellman = bellman_after o l (chosen m s) (chosen m (improved o m x s)) (light_of (improved o m x s)) x st.feasible (improves s x)
          (length m) well.small (inside_of (improved o m x s)) x' (all_values (improved o m x s) x' v)

      pub round_rises : Under o l x x'
      round_rises = rises o l (chosen m s) (chosen m (improved o m x s)) (light_of (improved o m x s)) x st.feasible (improves s x)
          (length m) well.small (inside_of (improved o m x s)) x' (all_values (improved o m x s) x' v)

      pub round_rises_strictly : (u : ℕ) → u < length m → Less o (at o x u) (right o m x u) → Less o (at o x u) (at o x' u)
      round_rises_strictly u h e = let f = switch_at s x u h e in
          rises_strictly o l (chosen m s) (chosen m (improved o m x s)) (light_of (improved o m x s)) x st.feasible (improves s x)
          (length m) well.small (inside_of (improved o m x s)) x' (all_values (improved o m x s) x' v) u f.0 f.1 f.2

      pub round_stage : Stage o m (improved o m x s) x'
      round_stage = record {
        s_long = improved_long s x;
        x_long = v.long;
        range = improved_range s x st.range;
        feasible = feasible_after o l (chosen m s) (chosen m (improved o m x s)) (light_of (improved o m x s)) x st.feasible (improves s x)
            (length m) well.small (inside_of (improved o m x s)) x' (all_values (improved o m x s) x' v);
      }

      pub round_under : (y : List V) → HoldsUp o m y → Under o l x y → Under o l x' y
      round_under y h = stays_under o l (chosen m s) (chosen m (improved o m x s)) (light_of (improved o m x s)) x st.feasible (improves s x)
          (length m) well.small (inside_of (improved o m x s)) x' (all_values (improved o m x s) x' v) y
          (λ u a e. le_trans o l (right_over o l m (improved o m x s) y u a e) (h.under u (inside_of (improved o m x s) u a e)))

    -- no value passes its right side, so where no right side is greater there is a solution
    pub under_right : (u : ℕ) → Le o (at o x u) (right o m x u)
    under_right u = go (option_cases (chosen m s u))
      where
        go : (chosen m s u ≡ None) ⊎ ((a : Alternative V W) × (chosen m s u ≡ Some a)) → Le o (at o x u) (right o m x u)
        go (inl e) = subst (λ (z : V). Le o z (right o m x u)) (sym ((st.feasible.values u).none e)) (l.bottom _)
        go (inr r) = let k = st.feasible.kept u r.0 r.1 in
            le_trans o l (le_of_eq o l (k.same ∙ sym (worth_is o l x r.0 k.true_test))) (right_over o l m s x u r.0 r.1)

    pub settled_solution : Settled o m x → Solution o m x
    settled_solution h = record { long = st.x_long; same = λ u q. l.antisymmetric _ _ (under_right u) (h u q) }

    pub solution_settled : Solution o m x → Settled o m x
    solution_settled h u q = le_of_eq o l (sym (h.same u q))
