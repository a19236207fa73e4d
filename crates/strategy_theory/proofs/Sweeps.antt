-- sweeps in place compute the value of a choice
use Rattle.std.proofs.Common.{◌≡◌, ℕ, zero, suc, ◌<◌, ◌≤◌, false, ◌⊎◌, List, [], ◌∷◌, length, Some, None, Option, sym, refl, ap, ◌∙◌, subst, inl, inr, not-suc-le-zero, arith, length-set, get_or-set_other, get_or-set_same}
use Rattle.kinds.specs.Limits.{most_items, most_unknowns}
use Rattle.kinds.specs.Kinds.{Ops, Laws, Sum}
use Rattle.books.specs.Books.{at, term, terms}
use Rattle.books.specs.Forms.{Light}
use Rattle.strategy_theory.specs.Strategies.{Passed, Unchosen, Leads, Road, IsValue, Walk}
use Rattle.strategy_theory.specs.Strategies.Road.{ends, stops, goes}
use Rattle.strategy_theory.specs.Strategies.Walk.{step}
use Rattle.books.specs.declared.Term.{Term}
use Rattle.books.specs.declared.Term.TheVariants.{Constant, Shifted}
use Rattle.books.specs.declared.Alternative.{Alternative}
use Rattle.books.proofs.Order.{Le, le_of_eq, le_trans, sum_more, shift_mono, never_lowers}
use Rattle.strategy_theory.proofs.Lists.{passed_or_not}
use Rattle.books.proofs.Worth.{no_option, option_cases, sum_light, Under, terms_under, terms_met, terms_mono}
use native.Mathlib.Decide.{ℕ_discrete, dec_lt}
use Rattle.std.proofs.lemmas.List.FromFn.{length-map-range_with_len, get_or-map-range_with_len}
use Rattle.std.proofs.lemmas.List.{get_or_past}
use Rattle.strategy_theory.specs.Sweeping.{relaxed, relaxed_by, swept, sweeps, opened, opening}
use Rattle.strategy_theory.proofs.Walks.{shift_on, road_chosen, lead_light, walk_sum, Cut, cut, road_short}
use Rattle.strategy_theory.proofs.Rounds.{same_some}

module _ {V W : Type 0} (o : Ops V W) (l : Laws o) where
  module _ (c : ℕ → Option (Alternative V W)) where
    -- a way along chosen terms that may pass an unknown more than once
    pub data Trip : ℕ → V → Type 0 where
      t_ends : {u : ℕ} {e : V} → Leads o c u (Constant e) → Trip u e
      t_stops : {u v : ℕ} {w : W} → Leads o c u (Shifted v w) → Unchosen o c v → Trip u (o.shift o.least w)
      t_goes : {u v : ℕ} {w : W} {y : V} → Leads o c u (Shifted v w) → Trip v y → Trip u (o.shift y w)

    pub record Sound (n : ℕ) (z : List V) : Type 0 where
      pub long : length z ≡ n
      pub low : (u : ℕ) → c u ≡ None → at o z u ≡ o.least
      pub met : (u : ℕ) (a : Alternative V W) → c u ≡ Some a → (at o z u ≡ o.greatest) ⊎ Trip u (at o z u)

    pub record Shorter (u : ℕ) (y : V) : Type 0 where
      pub vs : List ℕ
      pub end : V
      pub road : Road o c u vs end
      pub under : Le o end y

    -- no road of up to k unknowns leads lower than z
    abbrev pub Low : ℕ → List V → Type 0
    Low k z = (u : ℕ) (vs : List ℕ) (y : V) → Road o c u vs y → length vs ≤ k → Le o (at o z u) y

    module _ (n : ℕ) (inside : (u : ℕ) (a : Alternative V W) → c u ≡ Some a → u < n) where
      pub relaxed_other : (z : List V) (u j : ℕ) → (j ≡ u → ⊥) → at o (relaxed o c z u) j ≡ at o z j
      relaxed_other z u j ne = go (c u)
        where
          go : (k : Option (Alternative V W)) → at o (relaxed_by o z u k) j ≡ at o z j
          go None = refl
          go (Some a) = get_or-set_other z u j (terms o z a.terms) o.least ne

      pub relaxed_none : (z : List V) (u : ℕ) → c u ≡ None → relaxed o c z u ≡ z
      relaxed_none z u e = ap (λ (k : Option (Alternative V W)). relaxed_by o z u k) e

      pub relaxed_same : (z : List V) (u : ℕ) (a : Alternative V W) → length z ≡ n → c u ≡ Some a → at o (relaxed o c z u) u ≡ terms o z a.terms
      relaxed_same z u a len e =
          let h = inside u a e in
          let g : u < length z = omega arith in
          ap (λ (k : Option (Alternative V W)). at o (relaxed_by o z u k) u) e ∙ get_or-set_same z u (terms o z a.terms) o.least g

      pub relaxed_cases : (z : List V) (u j : ℕ) → length z ≡ n →
          ((at o (relaxed o c z u) j ≡ at o z j) × (j ≡ u → c u ≡ None)) ⊎ ((a : Alternative V W) × (c j ≡ Some a) × (at o (relaxed o c z u) j ≡ terms o z a.terms))
      relaxed_cases z u j len = go (ℕ_discrete j u) (option_cases (c u))
        where
          go : Dec (j ≡ u) → (c u ≡ None) ⊎ ((a : Alternative V W) × (c u ≡ Some a)) →
              ((at o (relaxed o c z u) j ≡ at o z j) × (j ≡ u → c u ≡ None)) ⊎ ((a : Alternative V W) × (c j ≡ Some a) × (at o (relaxed o c z u) j ≡ terms o z a.terms))
          go d (inl e) = inl (ap (λ (y : List V). at o y j) (relaxed_none z u e), λ _. e)
          go (no ne) (inr r) = inl (relaxed_other z u j ne, λ e. absurd (ne e))
          go (yes e) (inr r) = inr (r.0, ap c e ∙ r.1, ap (λ (i : ℕ). at o (relaxed o c z u) i) e ∙ relaxed_same z u r.0 len r.1)

      pub relaxed_long : (z : List V) (u : ℕ) → length (relaxed o c z u) ≡ length z
      relaxed_long z u = go (c u)
        where
          go : (k : Option (Alternative V W)) → length (relaxed_by o z u k) ≡ length z
          go None = refl
          go (Some a) = length-set z u (terms o z a.terms)

      module _ (light : (u : ℕ) (a : Alternative V W) → c u ≡ Some a → Light o a.terms) where
        term_met : (z : List V) → Sound n z → (u : ℕ) (t : Term V W) → Leads o c u t → (term o z t ≡ o.greatest) ⊎ Trip u (term o z t)
        term_met z s u (Constant e) ld = inr (t_ends ld)
        term_met z s u (Shifted v w) ld = go (option_cases (c v))
          where
            more : (at o z v ≡ o.greatest) ⊎ Trip v (at o z v) → (o.shift (at o z v) w ≡ o.greatest) ⊎ Trip u (o.shift (at o z v) w)
            more (inl e) = inl (ap (λ (q : V). o.shift q w) e ∙ l.shift_greatest w (sum_light o l (lead_light o l c light ld)))
            more (inr t) = inr (t_goes ld t)

            go : (c v ≡ None) ⊎ ((a : Alternative V W) × (c v ≡ Some a)) → (o.shift (at o z v) w ≡ o.greatest) ⊎ Trip u (o.shift (at o z v) w)
            go (inl e) = inr (subst (λ (q : V). Trip u (o.shift q w)) (sym (s.low v e)) (t_stops ld e))
            go (inr r) = more (s.met v r.0 r.1)

        pub sound_relaxed : (z : List V) (u : ℕ) → Sound n z → Sound n (relaxed o c z u)
        sound_relaxed z u s = record { long = relaxed_long z u ∙ s.long; low = λ j e. low' j e (relaxed_cases z u j s.long); met = λ j a e. met' j a e (relaxed_cases z u j s.long) }
          where
            low' : (j : ℕ) → c j ≡ None → ((at o (relaxed o c z u) j ≡ at o z j) × (j ≡ u → c u ≡ None)) ⊎ ((a : Alternative V W) × (c j ≡ Some a) × (at o (relaxed o c z u) j ≡ terms o z a.terms)) →
                at o (relaxed o c z u) j ≡ o.least
            low' j e (inl p) = p.0 ∙ s.low j e
            low' j e (inr p) = absurd (no_option (sym e ∙ p.1))

            met' : (j : ℕ) (a : Alternative V W) → c j ≡ Some a → ((at o (relaxed o c z u) j ≡ at o z j) × (j ≡ u → c u ≡ None)) ⊎ ((b : Alternative V W) × (c j ≡ Some b) × (at o (relaxed o c z u) j ≡ terms o z b.terms)) →
                (at o (relaxed o c z u) j ≡ o.greatest) ⊎ Trip j (at o (relaxed o c z u) j)
            met' j a e (inl p) = subst (λ (q : V). (q ≡ o.greatest) ⊎ Trip j q) (sym p.0) (s.met j a e)
            met' j a e (inr p) =
                let t = terms_met o l z p.0.terms in
                subst (λ (q : V). (q ≡ o.greatest) ⊎ Trip j q) (sym (p.2 ∙ t.2)) (term_met z s j t.0 (record { a = p.0; is = p.1; among = t.1 }))

        pub sound_opening : Sound n (opening o c n)
        sound_opening = record {
          long = length-map-range_with_len (λ (u : ℕ). opened o (c u)) 0 n;
          low = λ u e. low' u e (dec_lt u n);
          met = λ u a e. inl (at_opening u (inside u a e) ∙ ap (λ (k : Option (Alternative V W)). opened o k) e);
        }
          where
            at_opening : (u : ℕ) → u < n → at o (opening o c n) u ≡ opened o (c u)
            at_opening u h = get_or-map-range_with_len (λ (i : ℕ). opened o (c i)) 0 n u u o.least h (omega arith)

            low' : (u : ℕ) → c u ≡ None → Dec (u < n) → at o (opening o c n) u ≡ o.least
            low' u e (yes h) = at_opening u h ∙ ap (λ (k : Option (Alternative V W)). opened o k) e
            low' u e (no h) = get_or_past (opening o c n) u o.least (simp (length-map-range_with_len (λ (i : ℕ). opened o (c i)) 0 n) (omega arith))

        -- the smaller of the terms leads no road lower, one unknown further
        terms_low : (z : List V) (k : ℕ) → Sound n z → Low k z → (u : ℕ) (a : Alternative V W) → c u ≡ Some a → (vs : List ℕ) (y : V) → Road o c u vs y → length vs ≤ suc k → Le o (terms o z a.terms) y
        terms_low z k s q u a e vs y (ends {e = f} ld) h = subst (λ (b : Alternative V W). Le o (terms o z b.terms) f) (same_some ld.is e) (terms_under o l z ld.among)
        terms_low z k s q u a e vs y (stops {v = v} {w = w} ld p) h =
            le_trans o l (subst (λ (b : Alternative V W). Le o (terms o z b.terms) (o.shift (at o z v) w)) (same_some ld.is e) (terms_under o l z ld.among))
            (le_of_eq o l (ap (λ (r : V). o.shift r w) (s.low v p)))
        terms_low z k s q u a e vs y (goes {v = v} {w = w} {vs = on} {x = x} ld r p) h =
            le_trans o l (subst (λ (b : Alternative V W). Le o (terms o z b.terms) (o.shift (at o z v) w)) (same_some ld.is e) (terms_under o l z ld.among))
            (shift_mono o l (sum_light o l (lead_light o l c light ld)) (q v on x r (omega arith)))

        pub record Sweeping (k i : ℕ) (z : List V) : Type 0 where
          pub sound : Sound n z
          pub low : Low k z
          pub more : (u : ℕ) → u < i → (vs : List ℕ) (y : V) → Road o c u vs y → length vs ≤ suc k → Le o (at o z u) y

        sweeping_step : (k i : ℕ) (z : List V) → Sweeping k i z → Sweeping k (suc i) (relaxed o c z i)
        sweeping_step k i z s = record {
          sound = sound_relaxed z i s.sound;
          low = λ u vs y r h. low' u vs y r h (relaxed_cases z i u s.sound.long);
          more = λ u lt vs y r h. more' u lt vs y r h (ℕ_discrete u i) (relaxed_cases z i u s.sound.long);
        }
          where
            Case : ℕ → Type 0
            Case u = ((at o (relaxed o c z i) u ≡ at o z u) × (u ≡ i → c i ≡ None)) ⊎ ((a : Alternative V W) × (c u ≡ Some a) × (at o (relaxed o c z i) u ≡ terms o z a.terms))

            low' : (u : ℕ) (vs : List ℕ) (y : V) → Road o c u vs y → length vs ≤ k → Case u → Le o (at o (relaxed o c z i) u) y
            low' u vs y r h (inl p) = le_trans o l (le_of_eq o l p.0) (s.low u vs y r h)
            low' u vs y r h (inr p) = le_trans o l (le_of_eq o l p.2) (terms_low z k s.sound s.low u p.0 p.1 vs y r (omega arith))

            more' : (u : ℕ) → u < suc i → (vs : List ℕ) (y : V) → Road o c u vs y → length vs ≤ suc k → Dec (u ≡ i) → Case u → Le o (at o (relaxed o c z i) u) y
            more' u lt vs y r h d (inr p) = le_trans o l (le_of_eq o l p.2) (terms_low z k s.sound s.low u p.0 p.1 vs y r h)
            more' u lt vs y r h (yes e) (inl p) = absurd (no_option (sym (ap c e ∙ p.1 e) ∙ (road_chosen o l c r).1))
            more' u lt vs y r h (no ne) (inl p) = le_trans o l (le_of_eq o l p.0) (s.more u (omega arith) vs y r h)

        sweeping : (k : ℕ) (z : List V) → Sound n z → Low k z → (i : ℕ) → Sweeping k i (swept o c z i)
        sweeping k z s q zero = record { sound = s; low = q; more = λ u lt. absurd (not-suc-le-zero lt) }
        sweeping k z s q (suc i) = sweeping_step k i (swept o c z i) (sweeping k z s q i)

        low_zero : (z : List V) → Low zero z
        low_zero z u vs y (ends ld) h = absurd (not-suc-le-zero h)
        low_zero z u vs y (stops ld p) h = absurd (not-suc-le-zero h)
        low_zero z u vs y (goes ld r p) h = absurd (not-suc-le-zero h)

        pub sweeps_low : (z : List V) → Sound n z → (k : ℕ) → Sound n (sweeps o c n z k) × Low k (sweeps o c n z k)
        sweeps_low z s zero = (s, low_zero z)
        sweeps_low z s (suc k) = go (sweeps_low z s k)
          where
            go : Sound n (sweeps o c n z k) × Low k (sweeps o c n z k) → Sound n (sweeps o c n z (suc k)) × Low (suc k) (sweeps o c n z (suc k))
            go p = let w = sweeping k (sweeps o c n z k) p.0 p.1 n in
                (w.sound, λ u vs y r h. let a = road_chosen o l c r in w.more u (inside u a.0 a.1) vs y r h)

        module _ (small : n ≤ most_unknowns) (rings : (u k : ℕ) (w : W) → Walk o c u u (suc k) w → suc k ≤ most_items → o.lighter w o.zero ≡ false) where
          -- a trip without its rings is a road that leads no higher
          pub shorten : {u : ℕ} {y : V} → Trip u y → Shorter u y
          shorten (t_ends {u = u} {e = e} ld) = record { vs = u ∷ []; end = e; road = ends ld; under = l.reflexive e }
          shorten (t_stops {u = u} {w = w} ld p) = record { vs = u ∷ []; end = o.shift o.least w; road = stops ld p; under = l.reflexive _ }
          shorten (t_goes {u = u} {v = v} {w = w} {y = y} ld t) = go (shorten t)
            where
              s : Sum o most_items w
              s = sum_light o l (lead_light o l c light ld)

              go : Shorter v y → Shorter u (o.shift y w)
              go r = by (passed_or_not u r.vs)
                where
                  by : (Passed u r.vs) ⊎ (Passed u r.vs → ⊥) → Shorter u (o.shift y w)
                  by (inr p) = record { vs = u ∷ r.vs; end = o.shift r.end w; road = goes ld r.road p; under = shift_mono o l s r.under }
                  by (inl p) =
                      let len = road_short o l c light n inside r.road in
                      let b : Cut o l c light v u r.vs r.end = cut o l c light u r.road p (omega arith) in
                      let sh = b.short in
                      let big : suc b.k ≤ most_items = omega arith in
                      let sum = sum_more o l most_items big (walk_sum o l c light (step ld b.walk)) in
                      record {
                        vs = b.on;
                        end = b.end;
                        road = b.road;
                        under =
                            le_trans o l (never_lowers o l sum (rings u b.k (o.plus w b.w) (step ld b.walk) big) b.end)
                            (le_trans o l (le_of_eq o l (sym (ap (λ (q : V). o.shift q w) b.same ∙ shift_on o l b.end (lead_light o l c light ld) (walk_sum o l c light b.walk) big)))
                            (shift_mono o l s r.under));
                      }

          pub sound_value : (z : List V) → Sound n z → ((u : ℕ) (vs : List ℕ) (y : V) → Road o c u vs y → Le o (at o z u) y) → (u : ℕ) → IsValue o c u (at o z u)
          sound_value z s q u = record { none = s.low u; lowest = q u; met = λ ne. go ne (option_cases (c u)) }
            where
              by : (at o z u ≡ o.greatest) ⊎ Trip u (at o z u) → ∥ ((vs : List ℕ) × Road o c u vs (at o z u)) ⊎ (at o z u ≡ o.greatest) ∥₁
              by (inl e) = ∣ inr e ∣₁
              by (inr t) = let r = shorten t in
                  ∣ inl (r.vs, subst (λ (y : V). Road o c u r.vs y) (l.antisymmetric r.end (at o z u) r.under (q u r.vs r.end r.road)) r.road) ∣₁

              go : (Unchosen o c u → ⊥) → (c u ≡ None) ⊎ ((a : Alternative V W) × (c u ≡ Some a)) → ∥ ((vs : List ℕ) × Road o c u vs (at o z u)) ⊎ (at o z u ≡ o.greatest) ∥₁
              go ne (inl e) = absurd (ne e)
              go ne (inr r) = by (s.met u r.0 r.1)

          -- n sweeps compute the value
          pub sweeps_value : (u : ℕ) → IsValue o c u (at o (sweeps o c n (opening o c n) n) u)
          sweeps_value = let p = sweeps_low (opening o c n) sound_opening n in
              sound_value (sweeps o c n (opening o c n) n) p.0 (λ u vs y r. p.1 u vs y r (road_short o l c light n inside r))

          -- values that no replacement changes are the value
          pub fixed_value : (z : List V) → Sound n z → ((u : ℕ) (a : Alternative V W) → c u ≡ Some a → at o z u ≡ terms o z a.terms) → (u : ℕ) → IsValue o c u (at o z u)
          fixed_value z s fx = sound_value z s (λ u vs y r. low u vs y r)
            where
              low : (u : ℕ) (vs : List ℕ) (y : V) → Road o c u vs y → Le o (at o z u) y
              low u vs y (ends {e = f} ld) = le_trans o l (le_of_eq o l (fx u ld.a ld.is)) (terms_under o l z ld.among)
              low u vs y (stops {v = v} {w = w} ld p) = le_trans o l (le_of_eq o l (fx u ld.a ld.is))
                  (le_trans o l (terms_under o l z ld.among) (le_of_eq o l (ap (λ (r : V). o.shift r w) (s.low v p))))
              low u vs y (goes {v = v} {w = w} {vs = on} {x = x} ld r p) = le_trans o l (le_of_eq o l (fx u ld.a ld.is))
                  (le_trans o l (terms_under o l z ld.among) (shift_mono o l (sum_light o l (lead_light o l c light ld)) (low v on x r)))

        -- a replacement stays at or above values that are the smaller of their terms
        pub relaxed_over : (x z : List V) → length z ≡ n → ((u : ℕ) (a : Alternative V W) → c u ≡ Some a → at o x u ≡ terms o x a.terms) → Under o l x z → (u : ℕ) → Under o l x (relaxed o c z u)
        relaxed_over x z len fx h u j = go (relaxed_cases z u j len)
          where
            go : ((at o (relaxed o c z u) j ≡ at o z j) × (j ≡ u → c u ≡ None)) ⊎ ((a : Alternative V W) × (c j ≡ Some a) × (at o (relaxed o c z u) j ≡ terms o z a.terms)) → Le o (at o x j) (at o (relaxed o c z u) j)
            go (inl p) = le_trans o l (h j) (le_of_eq o l (sym p.0))
            go (inr p) = le_trans o l (le_of_eq o l (fx j p.0 p.1)) (le_trans o l (terms_mono o l x z h p.0.terms (light j p.0 p.1)) (le_of_eq o l (sym p.2)))
