-- a round stays at or below what holds up
use Rattle.std.proofs.Common.{◌≡◌, ℕ, zero, suc, ◌+◌, ◌<◌, ◌≤◌, false, ◌⊎◌, List, [], ◌∷◌, length, Some, None, Option, sym, ap, ◌∙◌, subst, inl, inr, arith}
use Rattle.kinds.specs.Limits.{most_items, most_unknowns}
use Rattle.kinds.specs.Kinds.{Ops, Laws}
use Rattle.books.specs.Books.{at, term, terms, worth}
use Rattle.books.specs.Forms.{Light}
use Rattle.strategy_theory.specs.Strategies.{Passed, Leads, IsValue, Walk, Feasible, Improves}
use Rattle.strategy_theory.specs.Strategies.Walk.{stay, step}
use Rattle.books.specs.declared.Term.{Term}
use Rattle.books.specs.declared.Term.TheVariants.{Constant, Shifted}
use Rattle.books.specs.declared.Alternative.{Alternative}
use Rattle.books.proofs.Order.{Le, le_of_eq, le_trans, stays_above, sum_more, sum_one, shift_mono, not_raised}
use Rattle.strategy_theory.proofs.Lists.{Distinct, passed_or_not, pigeonhole}
use Rattle.books.proofs.Worth.{option_cases, sum_light, Under, terms_met, terms_mono, holds_mono, worth_is}
use Rattle.strategy_theory.proofs.Walks.{lead_light, walk_sum, walk_end}
use Rattle.strategy_theory.proofs.Rounds.{term_over, better, named_chosen, rings_after}

module _ {V W : Type 0} (o : Ops V W) (l : Laws o) where
  -- at or below what holds up: over a choice c whose rings are heavy and that leads only to chosen unknowns, with the values x
  module _ (c : ℕ → Option (Alternative V W)) (light : (u : ℕ) (a : Alternative V W) → c u ≡ Some a → Light o a.terms)
      (n : ℕ) (small : n ≤ most_unknowns) (inside : (u : ℕ) (a : Alternative V W) → c u ≡ Some a → u < n)
      (rings : (u k : ℕ) (w : W) → Walk o c u u (suc k) w → suc k ≤ most_items → o.lighter w o.zero ≡ false)
      (x : List V) (none : (u : ℕ) → c u ≡ None → at o x u ≡ o.least) (over : (u : ℕ) (t : Term V W) → Leads o c u t → Le o (at o x u) (term o x t))
      (y : List V) (y_over : (u : ℕ) (a : Alternative V W) → c u ≡ Some a → Le o (terms o y a.terms) (at o y u))
      (y-above : (u : ℕ) (a : Alternative V W) → c u ≡ Some a → at o y u ≡ o.least → ⊥) where
    record Back (z u b : ℕ) : Type 0 where
      pub k : ℕ
      pub w : W
      pub walk : Walk o c z u (suc k) w
      pub short : suc k ≤ b
      pub down : Le o (o.shift (at o y u) w) (at o y z)

    abbrev Follows : ℕ → Type 0
    Follows k = (u : ℕ) (vs : List ℕ) → Distinct vs → ((z : ℕ) → Passed z vs → z < n) → suc n ≤ length vs + k →
        ((z : ℕ) → Passed z vs → Back z u (length vs)) → Le o (at o x u) (at o y u)

    step_back : (u v : ℕ) (w : W) (vs : List ℕ) → length vs ≤ n → Leads o c u (Shifted v w) → Le o (o.shift (at o y v) w) (at o y u) →
        ((z : ℕ) → Passed z vs → Back z u (length vs)) → (z : ℕ) → Passed z (u ∷ vs) → Back z v (length (u ∷ vs))
    step_back u v w vs len ld dn back z (inl e) = record {
      k = zero;
      w = o.plus w o.zero;
      walk = subst (λ (i : ℕ). Walk o c i v 1 (o.plus w o.zero)) (sym e) (step ld stay);
      short = omega arith;
      down = subst (λ (i : ℕ). Le o (o.shift (at o y v) (o.plus w o.zero)) (at o y i)) (sym e)
          (le_trans o l (le_of_eq o l (ap (λ (q : W). o.shift (at o y v) q) (l.plus_zero w (sum_light o l (lead_light o l c light ld))))) dn);
    }
    step_back u v w vs len ld dn back z (inr p) =
        let b : Back z u (length vs) = back z p in
        let sh = b.short in
        let sum = walk_sum o l c light b.walk in
        record {
          k = suc b.k;
          w = o.plus b.w w;
          walk = walk_end o l c light b.walk ld (omega arith);
          short = omega arith;
          down = le_trans o l (le_of_eq o l (ap (λ (q : W). o.shift (at o y v) q) (l.plus_comm b.w w (suc b.k, 1, sum, sum_one o l (lead_light o l c light ld), omega arith)) ∙
              sym (l.shift_plus (at o y v) w b.w (1, suc b.k, sum_one o l (lead_light o l c light ld), sum, omega arith))))
              (le_trans o l (shift_mono o l (sum_more o l most_items (omega arith) sum) dn) b.down);
        }

    by_term : (k : ℕ) → Follows k → (u : ℕ) (vs : List ℕ) → Distinct vs → ((z : ℕ) → Passed z vs → z < n) → suc n ≤ length vs + suc k →
        ((z : ℕ) → Passed z vs → Back z u (length vs)) → u < n → (Passed u vs → ⊥) → (t : Term V W) → Leads o c u t → Le o (term o y t) (at o y u) → Le o (at o x u) (at o y u)
    by_term k ih u vs d b h back un np (Constant e) ld dn = le_trans o l (over u (Constant e) ld) dn
    by_term k ih u vs d b h back un np (Shifted v w) ld dn =
        le_trans o l (over u (Shifted v w) ld)
        (le_trans o l (shift_mono o l (sum_light o l (lead_light o l c light ld))
        (ih v (u ∷ vs) (np, d) (λ z. elim [ inl e ↦ subst (λ (i : ℕ). i < n) (sym e) un | inr p ↦ b z p ]) (omega arith)
        (step_back u v w vs (pigeonhole n vs d b) ld dn back)))
        dn)

    follow : (k : ℕ) → Follows k
    follow zero u vs d b h back = let p = pigeonhole n vs d b in absurd (omega arith)
    follow (suc k) u vs d b h back = go (follow k) (option_cases (c u)) (passed_or_not u vs)
      where
        go : Follows k → (c u ≡ None) ⊎ ((a : Alternative V W) × (c u ≡ Some a)) → (Passed u vs) ⊎ (Passed u vs → ⊥) → Le o (at o x u) (at o y u)
        go ih (inl e) p = subst (λ (z : V). Le o z (at o y u)) (sym (none u e)) (l.bottom _)
        go ih (inr r) (inl p) =
            let q : Back u u (length vs) = back u p in
            let sh = q.short in
            let len = pigeonhole n vs d b in
            let big : suc q.k ≤ most_items = omega arith in
            let top = not_raised o l (sum_more o l most_items big (walk_sum o l c light q.walk)) (rings u q.k q.w q.walk big) (at o y u) (y-above u r.0 r.1) q.down in
            subst (λ (z : V). Le o (at o x u) z) (sym top) (l.top _)
        go ih (inr r) (inr np) =
            let t = terms_met o l y r.0.terms in
            by_term k ih u vs d b h back (inside u r.0 r.1) np t.0 (record { a = r.0; is = r.1; among = t.1 })
            (le_trans o l (le_of_eq o l (sym t.2)) (y_over u r.0 r.1))

    pub under_all : (u : ℕ) → Le o (at o x u) (at o y u)
    under_all u = follow (suc n) u [] tt (λ z p. absurd p) (omega arith) (λ z p. absurd p)

  module _ (c c' : ℕ → Option (Alternative V W)) (light : (u : ℕ) (a : Alternative V W) → c' u ≡ Some a → Light o a.terms)
      (x : List V) (f : Feasible o c x) (im : Improves o x c c')
      (n : ℕ) (small : n ≤ most_unknowns) (inside : (u : ℕ) (a : Alternative V W) → c' u ≡ Some a → u < n)
      (x' : List V) (values : (u : ℕ) → IsValue o c' u (at o x' u)) where
    pub stays_under : (y : List V) → ((u : ℕ) (a : Alternative V W) → c' u ≡ Some a → Le o (worth o y a) (at o y u)) → Under o l x y → Under o l x' y
    stays_under y up h =
        under_all c' light n small inside (rings_after o l c c' light x f im) x' (λ u e. (values u).none e)
        (term_over o l c' light n small inside (rings_after o l c c' light x f im) (named_chosen o l c c' light x f im) x' values)
        y y_over (λ u a e. stays_above o l (y_low u a e) (y_over u a e))
      where
        y_over : (u : ℕ) (a : Alternative V W) → c' u ≡ Some a → Le o (terms o y a.terms) (at o y u)
        y_over u a e = le_trans o l (le_of_eq o l (sym (worth_is o l y a (holds_mono o l x y h a.test (better o l c c' light x f im u a e).true_test)))) (up u a e)

        y_low : (u : ℕ) (a : Alternative V W) → c' u ≡ Some a → terms o y a.terms ≡ o.least → ⊥
        y_low u a e = let b = better o l c c' light x f im u a e in
            stays_above o l b.above (le_trans o l (le_of_eq o l b.is) (terms_mono o l x y h a.terms (light u a e)))
