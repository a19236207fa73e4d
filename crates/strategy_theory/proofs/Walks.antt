-- roads and walks along chosen terms
use Rattle.std.proofs.Common.{◌≡◌, ℕ, zero, suc, ◌<◌, ◌≤◌, true, ◌⊎◌, List, [], ◌∷◌, length, Some, None, Option, sym, refl, ap, ◌∙◌, subst, inl, inr, ⊎_elim, arith}
use Rattle.kinds.specs.Limits.{most_items}
use Rattle.kinds.specs.Kinds.{Ops, Laws, Sum, Less, Addable}
use Rattle.kinds.specs.Kinds.Sum.{none, more}
use Rattle.books.specs.Books.{at}
use Rattle.books.specs.Forms.{Light}
use Rattle.strategy_theory.specs.Strategies.{Passed, Leads, Road, IsValue, Walk}
use Rattle.strategy_theory.specs.Strategies.Road.{ends, stops, goes}
use Rattle.strategy_theory.specs.Strategies.Walk.{stay, step}
use Rattle.books.specs.declared.Term.TheVariants.{Shifted}
use Rattle.books.specs.declared.Alternative.{Alternative}
use Rattle.books.proofs.Order.{Le, le_prop, le_or_lt, le_of_eq, le_trans, lt_irrefl, sum_one, shift_mono}
use Rattle.strategy_theory.proofs.Lists.{Distinct, pigeonhole}
use Rattle.books.proofs.Worth.{no_option, option_cases, sum_light}

module _ {V W : Type 0} (o : Ops V W) (l : Laws o) where
  settled : (x y : V) → o.shift y o.zero ≡ y → o.shift x o.zero ≡ y → (Le o x y) ⊎ (Less o y x) → (Le o y x) ⊎ (Less o x y) → y ≡ x
  settled x y e f (inl p) (inl q) = l.antisymmetric y x q p
  settled x y e f (inr h) q = absurd (lt_irrefl o l (rw (e, f) at (l.shift_strict y x o.zero none h)))
  settled x y e f (inl p) (inr h) = absurd (lt_irrefl o l (rw (e, f) at (l.shift_strict x y o.zero none h)))

  pub shift_zero : (x : V) → o.shift x o.zero ≡ x
  shift_zero x = settled x (o.shift x o.zero) (l.shift_plus x o.zero o.zero (0, 0, none, none, omega arith) ∙ ap (λ (w : W). o.shift x w) (l.plus_zero o.zero none)) refl (le_or_lt o l x (o.shift x o.zero)) (le_or_lt o l (o.shift x o.zero) x)

  -- one more weight behind a sum of weights
  pub shift_on : (x : V) {k : ℕ} {w w' : W} → o.light w ≡ true → Sum o k w' → suc k ≤ most_items → o.shift (o.shift x w') w ≡ o.shift x (o.plus w w')
  shift_on x {k} {w} {w'} p s h = let d : Addable o w' w = (k, 1, s, sum_one o l p, omega arith) in l.shift_plus x w' w d ∙ ap (λ (z : W). o.shift x z) (l.plus_comm w' w d)

  module _ (c : ℕ → Option (Alternative V W)) where
    -- two values of a choice at an unknown are equal
    pub value_under : (u : ℕ) (x y : V) → IsValue o c u x → IsValue o c u y → Le o x y
    value_under u x y p q = go (option_cases (c u))
      where
        go : (c u ≡ None) ⊎ ((a : Alternative V W) × (c u ≡ Some a)) → Le o x y
        go (inl e) = subst (λ (z : V). Le o z y) (sym (p.none e)) (l.bottom y)
        go (inr r) = ∥∥₁_rec (le_prop o x y)
            (⊎_elim (λ (s : (vs : List ℕ) × Road o c u vs y). p.lowest s.0 y s.1)
            (λ (s : y ≡ o.greatest). subst (λ (z : V). Le o x z) (sym s) (l.top x)))
            (q.met (λ e. no_option (sym e ∙ r.1)))

    pub value_unique : (u : ℕ) (x y : V) → IsValue o c u x → IsValue o c u y → x ≡ y
    value_unique u x y p q = l.antisymmetric x y (value_under u x y p q) (value_under u y x q p)

    -- where the value is the greatest, each road leads there
    pub greatest_roads : (u : ℕ) (x : V) → IsValue o c u x → x ≡ o.greatest → (vs : List ℕ) (y : V) → Road o c u vs y → y ≡ o.greatest
    greatest_roads u x p e vs y r = l.antisymmetric y o.greatest (l.top y) (subst (λ (z : V). Le o z y) e (p.lowest vs y r))

    pub road_chosen : {u : ℕ} {vs : List ℕ} {y : V} → Road o c u vs y → (a : Alternative V W) × (c u ≡ Some a)
    road_chosen (ends ld) = (ld.a, ld.is)
    road_chosen (stops ld e) = (ld.a, ld.is)
    road_chosen (goes ld r q) = (ld.a, ld.is)

    pub road_apart : {u : ℕ} {vs : List ℕ} {y : V} → Road o c u vs y → Distinct vs
    road_apart (ends ld) = (λ p. p, tt)
    road_apart (stops ld e) = (λ p. p, tt)
    road_apart (goes ld r q) = (q, road_apart r)

    -- the weights that c leads along are of allowed size
    module _ (light : (u : ℕ) (a : Alternative V W) → c u ≡ Some a → Light o a.terms) where
      pub lead_light : {u v : ℕ} {w : W} → Leads o c u (Shifted v w) → o.light w ≡ true
      lead_light {u} {v} {w} ld = light u ld.a ld.is v w ld.among

      pub walk_sum : {u z k : ℕ} {w : W} → Walk o c u z k w → Sum o k w
      walk_sum stay = none
      walk_sum (step ld r) = more (lead_light ld) (walk_sum r)

      pub walk_end : {z u v k : ℕ} {w w' : W} → Walk o c z u k w → Leads o c u (Shifted v w') → suc k ≤ most_items → Walk o c z v (suc k) (o.plus w w')
      walk_end {v = v} {w' = w'} (stay {u = u}) ld h = subst (λ (x : W). Walk o c u v 1 x) (l.plus_comm w' o.zero (1, 0, sum_one o l (lead_light ld), none, omega arith)) (step ld stay)
      walk_end {v = v} {w' = w'} (step {u = u} {k = k} {w = w₁} {w' = w₂} le r) ld h =
          subst (λ (x : W). Walk o c u v (suc (suc k)) x) (sym (l.plus_assoc w₁ w₂ w' 1 k 1 (sum_one o l (lead_light le)) (walk_sum r) (sum_one o l (lead_light ld)) (omega arith))) (step le (walk_end r ld (omega arith)))

      -- values that no lead takes down
      pub chain_up : (x : List V) → ((u v : ℕ) (w : W) → Leads o c u (Shifted v w) → Le o (at o x u) (o.shift (at o x v) w)) →
          {u z k : ℕ} {w : W} → Walk o c u z k w → k ≤ most_items → Le o (at o x u) (o.shift (at o x z) w)
      chain_up x up (stay {u = u}) h = le_of_eq o l (sym (shift_zero (at o x u)))
      chain_up x up (step {u = u} {v = v} {z = z} {k = k} {w = w} {w' = w'} ld r) h =
          let s = sum_light o l (lead_light ld) in
          le_trans o l (up u v w ld)
          (le_trans o l (shift_mono o l s (chain_up x up r (omega arith))) (le_of_eq o l (shift_on (at o x z) (lead_light ld) (walk_sum r) h)))

      -- a walk from v to u, and a road on from there
      pub record Cut (v u : ℕ) (vs : List ℕ) (y : V) : Type 0 where
        pub k : ℕ
        pub w : W
        pub walk : Walk o c v u k w
        pub on : List ℕ
        pub end : V
        pub road : Road o c u on end
        pub same : y ≡ o.shift end w
        pub short : k ≤ length vs

      pub cut : (u : ℕ) {v : ℕ} {vs : List ℕ} {y : V} → Road o c v vs y → Passed u vs → length vs ≤ most_items → Cut v u vs y
      cut u {v} {vs} {y} (ends {e = e} ld) (inl p) h =
          record {
            k = zero;
            w = o.zero;
            walk = subst (λ (i : ℕ). Walk o c v i zero o.zero) (sym p) stay;
            on = v ∷ [];
            end = e;
            road = subst (λ (i : ℕ). Road o c i (v ∷ []) e) (sym p) (ends ld);
            same = sym (shift_zero e);
            short = omega arith;
          }
      cut u (ends ld) (inr p) h = absurd p
      cut u {v} (stops {w = w} ld q) (inl p) h =
          record {
            k = zero;
            w = o.zero;
            walk = subst (λ (i : ℕ). Walk o c v i zero o.zero) (sym p) stay;
            on = v ∷ [];
            end = o.shift o.least w;
            road = subst (λ (i : ℕ). Road o c i (v ∷ []) (o.shift o.least w)) (sym p) (stops ld q);
            same = sym (shift_zero (o.shift o.least w));
            short = omega arith;
          }
      cut u (stops ld q) (inr p) h = absurd p
      cut u {v} (goes {w = w} {vs = vs} {x = x} ld r q) (inl p) h =
          record {
            k = zero;
            w = o.zero;
            walk = subst (λ (i : ℕ). Walk o c v i zero o.zero) (sym p) stay;
            on = v ∷ vs;
            end = o.shift x w;
            road = subst (λ (i : ℕ). Road o c i (v ∷ vs) (o.shift x w)) (sym p) (goes ld r q);
            same = sym (shift_zero (o.shift x w));
            short = omega arith;
          }
      cut u {v} (goes {w = w} {vs = vs} {x = x} ld r q) (inr p) h =
          let b : Cut _ u vs x = cut u r p (omega arith) in
          let sh = b.short in
          record {
            k = suc b.k;
            w = o.plus w b.w;
            walk = step ld b.walk;
            on = b.on;
            end = b.end;
            road = b.road;
            same = ap (λ (z : V). o.shift z w) b.same ∙ shift_on b.end (lead_light ld) (walk_sum b.walk) (omega arith);
            short = omega arith;
          }

      module _ (n : ℕ) (inside : (u : ℕ) (a : Alternative V W) → c u ≡ Some a → u < n) where
        pub road_inside : {u : ℕ} {vs : List ℕ} {y : V} → Road o c u vs y → (z : ℕ) → Passed z vs → z < n
        road_inside (ends {u = u} ld) z (inl e) = subst (λ (i : ℕ). i < n) (sym e) (inside u ld.a ld.is)
        road_inside (ends ld) z (inr p) = absurd p
        road_inside (stops {u = u} ld q) z (inl e) = subst (λ (i : ℕ). i < n) (sym e) (inside u ld.a ld.is)
        road_inside (stops ld q) z (inr p) = absurd p
        road_inside (goes {u = u} ld r q) z (inl e) = subst (λ (i : ℕ). i < n) (sym e) (inside u ld.a ld.is)
        road_inside (goes ld r q) z (inr p) = road_inside r z p

        pub road_short : {u : ℕ} {vs : List ℕ} {y : V} → Road o c u vs y → length vs ≤ n
        road_short {vs = vs} r = pigeonhole n vs (road_apart r) (road_inside r)
