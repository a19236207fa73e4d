-- one round: the improved choice, its rings, its values
use Rattle.std.proofs.Common.{◌≡◌, ℕ, suc, ◌<◌, ◌≤◌, true, false, ◌⊎◌, List, [], ◌∷◌, Some, None, Option, sym, ap, ◌∙◌, subst, inl, inr, ⊎_elim, arith}
use Rattle.kinds.specs.Limits.{most_items, most_unknowns}
use Rattle.kinds.specs.Kinds.{Ops, Laws, Sum, Less}
use Rattle.books.specs.Books.{at, holds, term, terms, worth}
use Rattle.books.specs.Forms.{Light}
use Rattle.strategy_theory.specs.Strategies.{Passed, Unchosen, Leads, Road, IsValue, Walk, Feasible, Improves}
use Rattle.strategy_theory.specs.Strategies.Road.{ends, stops, goes}
use Rattle.strategy_theory.specs.Strategies.Walk.{stay, step}
use Rattle.books.specs.declared.Term.{Term}
use Rattle.books.specs.declared.Term.TheVariants.{Constant, Shifted}
use Rattle.books.specs.declared.Alternative.{Alternative}
use Rattle.books.proofs.Order.{Le, le_prop, lt_le, le_of_eq, le_trans, lt_of_lt_le, lt_of_le_lt, not_least, stays_above, sum_more, shift_mono, shift_keeps_least, raised, never_lowers}
use Rattle.strategy_theory.proofs.Lists.{passed_or_not}
use Rattle.books.proofs.Worth.{no_option, option_cases, sum_light, Under, terms_under, terms_met, terms_mono, holds_mono, worth_is, worth_above}
use Rattle.strategy_theory.proofs.Walks.{shift_on, lead_light, walk_sum, chain_up, Cut, cut, road_short}

pub same_some : {A : Type 0} {x : Option A} {a b : A} → x ≡ Some a → x ≡ Some b → a ≡ b
same_some {A} {x} {a} {b} p q = cc

module _ {V W : Type 0} (o : Ops V W) (l : Laws o) where
  -- values of a choice whose rings are heavy: each is the smaller of its terms
  module _ (c : ℕ → Option (Alternative V W)) (light : (u : ℕ) (a : Alternative V W) → c u ≡ Some a → Light o a.terms)
      (n : ℕ) (small : n ≤ most_unknowns) (inside : (u : ℕ) (a : Alternative V W) → c u ≡ Some a → u < n)
      (rings : (u k : ℕ) (w : W) → Walk o c u u (suc k) w → suc k ≤ most_items → o.lighter w o.zero ≡ false)
      (closed : (u v : ℕ) (w : W) → Leads o c u (Shifted v w) → Unchosen o c v → ⊥)
      (x : List V) (values : (u : ℕ) → IsValue o c u (at o x u)) where
    shifted_over : (u v : ℕ) (w : W) → Leads o c u (Shifted v w) → Le o (at o x u) (o.shift (at o x v) w)
    shifted_over u v w ld = ∥∥₁_rec (le_prop o _ _) (⊎_elim by_road by_none) ((values v).met (closed u v w ld))
      where
        s : Sum o most_items w
        s = sum_light o l (lead_light o l c light ld)

        by_none : (at o x v ≡ o.greatest) → Le o (at o x u) (o.shift (at o x v) w)
        by_none p = subst (λ (z : V). Le o (at o x u) z) (sym (ap (λ (z : V). o.shift z w) p ∙ l.shift_greatest w s)) (l.top (at o x u))

        by_ring : (vs : List ℕ) → Road o c v vs (at o x v) → Passed u vs → Le o (at o x u) (o.shift (at o x v) w)
        by_ring vs r p =
            let len = road_short o l c light n inside r in
            let b : Cut o l c light v u vs (at o x v) = cut o l c light u r p (omega arith) in
            let sh = b.short in
            let big : suc b.k ≤ most_items = omega arith in
            let sum = sum_more o l most_items big (walk_sum o l c light (step ld b.walk)) in
            le_trans o l ((values u).lowest b.on b.end b.road)
            (le_trans o l (never_lowers o l sum (rings u b.k (o.plus w b.w) (step ld b.walk) big) b.end)
            (le_of_eq o l (sym (ap (λ (z : V). o.shift z w) b.same ∙ shift_on o l b.end (lead_light o l c light ld) (walk_sum o l c light b.walk) big))))

        by_road : ((vs : List ℕ) × Road o c v vs (at o x v)) → Le o (at o x u) (o.shift (at o x v) w)
        by_road r = ⊎_elim (by_ring r.0 r.1) (λ (q : Passed u r.0 → ⊥). (values u).lowest (u ∷ r.0) (o.shift (at o x v) w) (goes ld r.1 q)) (passed_or_not u r.0)

    pub term_over : (u : ℕ) (t : Term V W) → Leads o c u t → Le o (at o x u) (term o x t)
    term_over u (Constant e) ld = (values u).lowest (u ∷ []) e (ends ld)
    term_over u (Shifted v w) ld = shifted_over u v w ld

    road_over : (u : ℕ) (a : Alternative V W) → c u ≡ Some a → (vs : List ℕ) (y : V) → Road o c u vs y → Le o (terms o x a.terms) y
    road_over u a e vs y (ends {e = f} ld) = subst (λ (b : Alternative V W). Le o (terms o x b.terms) f) (same_some ld.is e) (terms_under o l x ld.among)
    road_over u a e vs y (stops {v = v} {w = w} ld q) = absurd (closed u v w ld q)
    road_over u a e vs y (goes {v = v} {w = w} {vs = on} {x = z} ld r q) =
        le_trans o l (subst (λ (b : Alternative V W). Le o (terms o x b.terms) (o.shift (at o x v) w)) (same_some ld.is e) (terms_under o l x ld.among))
        (shift_mono o l (sum_light o l (lead_light o l c light ld)) ((values v).lowest on z r))

    pub bellman : (u : ℕ) (a : Alternative V W) → c u ≡ Some a → at o x u ≡ terms o x a.terms
    bellman u a e = l.antisymmetric _ _ down up
      where
        down : Le o (at o x u) (terms o x a.terms)
        down = let r = terms_met o l x a.terms in
            le_trans o l (term_over u r.0 (record { a = a; is = e; among = r.1 })) (le_of_eq o l (sym r.2))

        up : Le o (terms o x a.terms) (at o x u)
        up = ∥∥₁_rec (le_prop o _ _)
            (⊎_elim (λ (r : (vs : List ℕ) × Road o c u vs (at o x u)). road_over u a e r.0 (at o x u) r.1)
            (λ (r : at o x u ≡ o.greatest). subst (λ (z : V). Le o (terms o x a.terms) z) (sym r) (l.top _)))
            ((values u).met (λ f. no_option (sym f ∙ e)))

  -- the improved choice: what it reaches, that it leads to chosen unknowns only, and that its rings are heavy
  module _ (c c' : ℕ → Option (Alternative V W)) (light : (u : ℕ) (a : Alternative V W) → c' u ≡ Some a → Light o a.terms)
      (x : List V) (f : Feasible o c x) (im : Improves o x c c') where
    pub record Better (u : ℕ) (a : Alternative V W) : Type 0 where
      pub over : Le o (at o x u) (worth o x a)
      pub above : worth o x a ≡ o.least → ⊥
      pub true_test : holds o x a.test ≡ true
      pub is : worth o x a ≡ terms o x a.terms

    pub better : (u : ℕ) (a : Alternative V W) → c' u ≡ Some a → Better u a
    better u a e = go (im u)
      where
        go : (c' u ≡ c u) ⊎ ((b : Alternative V W) × (c' u ≡ Some b) × Less o (at o x u) (worth o x b)) → Better u a
        go (inl p) =
            let k = f.kept u a (sym p ∙ e) in
            let q = worth_is o l x a k.true_test in
            record { over = le_of_eq o l (k.same ∙ sym q); above = λ z. k.above (k.same ∙ sym q ∙ z); true_test = k.true_test; is = q }
        go (inr r) =
            let h : Less o (at o x u) (worth o x a) = subst (λ (b : Alternative V W). Less o (at o x u) (worth o x b)) (same_some r.1 e) r.2 in
            let t = worth_above o l x a (not_least o l h) in
            record { over = lt_le o l h; above = not_least o l h; true_test = t; is = worth_is o l x a t }

    pub better_term : (u : ℕ) (t : Term V W) → Leads o c' u t → Le o (at o x u) (term o x t)
    better_term u t ld = let b = better u ld.a ld.is in
        le_trans o l b.over (le_trans o l (le_of_eq o l b.is) (terms_under o l x ld.among))

    pub named_above : (u v : ℕ) (w : W) → Leads o c' u (Shifted v w) → at o x v ≡ o.least → ⊥
    named_above u v w ld = let b = better u ld.a ld.is in
        shift_keeps_least o l (sum_light o l (lead_light o l c' light ld))
        (stays_above o l b.above (le_trans o l (le_of_eq o l b.is) (terms_under o l x ld.among)))

    pub still_least : (u : ℕ) → Unchosen o c' u → at o x u ≡ o.least
    still_least u e = go (im u)
      where
        go : (c' u ≡ c u) ⊎ ((b : Alternative V W) × (c' u ≡ Some b) × Less o (at o x u) (worth o x b)) → at o x u ≡ o.least
        go (inl p) = (f.values u).none (sym p ∙ e)
        go (inr r) = absurd (no_option (sym e ∙ r.1))

    pub named_chosen : (u v : ℕ) (w : W) → Leads o c' u (Shifted v w) → Unchosen o c' v → ⊥
    named_chosen u v w ld e = named_above u v w ld (still_least v e)

    ring_new : {u z k : ℕ} {w : W} → Walk o c' u z k w → k ≤ most_items → (Walk o c u z k w) ⊎ (Less o (at o x u) (o.shift (at o x z) w))
    ring_new stay h = inl stay
    ring_new (step {u = u} {v = v} {z = z} {k = k} {w = w} {w' = w'} ld r) h = go (im u) (ring_new r (omega arith))
      where
        s : Sum o most_items w
        s = sum_light o l (lead_light o l c' light ld)

        two : o.shift (o.shift (at o x z) w') w ≡ o.shift (at o x z) (o.plus w w')
        two = shift_on o l (at o x z) (lead_light o l c' light ld) (walk_sum o l c' light r) h

        go : (c' u ≡ c u) ⊎ ((b : Alternative V W) × (c' u ≡ Some b) × Less o (at o x u) (worth o x b)) →
            (Walk o c v z k w') ⊎ (Less o (at o x v) (o.shift (at o x z) w')) → (Walk o c u z (suc k) (o.plus w w')) ⊎ (Less o (at o x u) (o.shift (at o x z) (o.plus w w')))
        go (inl p) (inl q) = inl (step (record { a = ld.a; is = sym p ∙ ld.is; among = ld.among }) q)
        go (inl p) (inr q) = inr (lt_of_lt_le o l (lt_of_le_lt o l (better_term u (Shifted v w) ld) (l.shift_strict _ _ w s q)) (le_of_eq o l two))
        go (inr b) q =
            let h₁ : Less o (at o x u) (worth o x ld.a) = subst (λ (a : Alternative V W). Less o (at o x u) (worth o x a)) (same_some b.1 ld.is) b.2 in
            let h₂ = better u ld.a ld.is in
            inr (lt_of_lt_le o l h₁ (le_trans o l (le_of_eq o l h₂.is) (le_trans o l (terms_under o l x ld.among)
            (le_trans o l (shift_mono o l s (chain_up o l c' light x (λ u₁ v₁ w₁ ld₁. better_term u₁ (Shifted v₁ w₁) ld₁) r (omega arith))) (le_of_eq o l two)))))

    pub rings_after : (u k : ℕ) (w : W) → Walk o c' u u (suc k) w → suc k ≤ most_items → o.lighter w o.zero ≡ false
    rings_after u k w r h = go (ring_new r h)
      where
        go : (Walk o c u u (suc k) w) ⊎ (Less o (at o x u) (o.shift (at o x u) w)) → o.lighter w o.zero ≡ false
        go (inl q) = f.rings u k w q h
        go (inr q) = raised o l (sum_more o l most_items h (walk_sum o l c' light r)) q

    -- its values: they are the smaller of their terms, no value falls, and they are feasible again
    module _ (n : ℕ) (small : n ≤ most_unknowns) (inside : (u : ℕ) (a : Alternative V W) → c' u ≡ Some a → u < n)
        (x' : List V) (values : (u : ℕ) → IsValue o c' u (at o x' u)) where
      pub bellman_after : (u : ℕ) (a : Alternative V W) → c' u ≡ Some a → at o x' u ≡ terms o x' a.terms
      bellman_after = bellman c' light n small inside rings_after named_chosen x' values

      under_road : {u : ℕ} {vs : List ℕ} {y : V} → Road o c' u vs y → Le o (at o x u) y
      under_road (ends {u = u} {e = e} ld) = better_term u (Constant e) ld
      under_road (stops {u = u} {v = v} {w = w} ld q) = absurd (named_chosen u v w ld q)
      under_road (goes {u = u} {v = v} {w = w} ld r q) = le_trans o l (better_term u (Shifted v w) ld) (shift_mono o l (sum_light o l (lead_light o l c' light ld)) (under_road r))

      pub rises : Under o l x x'
      rises u = go (option_cases (c' u))
        where
          go : (c' u ≡ None) ⊎ ((a : Alternative V W) × (c' u ≡ Some a)) → Le o (at o x u) (at o x' u)
          go (inl e) = subst (λ (z : V). Le o z (at o x' u)) (sym (still_least u e)) (l.bottom _)
          go (inr r) = ∥∥₁_rec (le_prop o _ _)
              (⊎_elim (λ (s : (vs : List ℕ) × Road o c' u vs (at o x' u)). under_road s.1)
              (λ (s : at o x' u ≡ o.greatest). subst (λ (z : V). Le o (at o x u) z) (sym s) (l.top _)))
              ((values u).met (λ e. no_option (sym e ∙ r.1)))

      pub rises_strictly : (u : ℕ) (a : Alternative V W) → c' u ≡ Some a → Less o (at o x u) (worth o x a) → Less o (at o x u) (at o x' u)
      rises_strictly u a e h =
          lt_of_lt_le o l h (le_trans o l (le_of_eq o l (better u a e).is)
          (le_trans o l (terms_mono o l x x' rises a.terms (light u a e)) (le_of_eq o l (sym (bellman_after u a e)))))

      pub feasible_after : Feasible o c' x'
      feasible_after = record {
        values = values;
        kept = λ u a e. let b = better u a e in record {
          above = λ z. stays_above o l b.above (le_trans o l (le_of_eq o l b.is) (le_trans o l (terms_mono o l x x' rises a.terms (light u a e)) (le_of_eq o l (sym (bellman_after u a e))))) z;
          true_test = holds_mono o l x x' rises a.test b.true_test;
          same = bellman_after u a e;
        };
        rings = rings_after;
      }
