-- Points that are good, the first one among them, so that no edge carries anything to another once the values of all others are taken out: at all others the least bounds are least.
use Rattle.std.proofs.Common.{◌≡◌, ℕ, ◌+◌, ◌*◌, ◌/◌, ◌%◌, ◌<◌, ◌≤◌, Bool, true, false, cond, List, map, length, Contains, ℤ, sym, refl, ap, ◌∙◌, subst, subst₂, ⊎_elim, arith}
use Rattle.std.proofs.lemmas.Bool.{cases_lt, cond_both, false≢true}
use Rattle.std.proofs.lemmas.List.{get_or_past}
use Rattle.std.proofs.lemmas.List.FromFn.{length-map-range_with_len, get_or-map-range_with_len}
use Rattle.std.proofs.lemmas.Nat.{mod_below}
use Rattle.std.specs.List.{range_with_len}
use Rattle.kinds.specs.Values.{bounds}
use Rattle.kinds.specs.Laws.{bounds_laws}
use Rattle.kinds.specs.declared.bound.Bound.{Bound}
use Rattle.kinds.specs.declared.bound.Bound.TheVariants.{Least}
use Rattle.books.specs.Books.{at, holds, terms, worth, best, right, HoldsUp}
use Rattle.books.specs.Forms.{Light, WellAlternative}
use Rattle.books.specs.declared.Term.TheVariants.{Shifted}
use Rattle.books.specs.declared.Alternative.{Alternative}
use Rattle.books.proofs.Order.{le_of_eq}
use Rattle.books.proofs.Worth.{terms_mono, holds_mono, worth_is, best_over}
use Rattle.books.proofs.Bests.{best_under}
use Rattle.books.proofs.Rows.{row_inside}
use Rattle.strategy_theory.specs.Theory.{Below}
use Rattle.language_theory.specs.Graphs.{Graph}
use Rattle.language_theory.specs.declared.Edge.{Edge}
use Rattle.language_theory.specs.WellFormed.{WellFormed}
use Rattle.script_equations_theory.specs.Bounds.{upper, lower, upper_of, lower_of, variables_of, uppers, lowers, bound_unknown, bound_book}
use Rattle.script_equations_theory.proofs.Lists.{by_eq, all_incoming, best_least, nth_contains}
use Rattle.script_equations_theory.proofs.Places.{point_of, none_of, bound_count, book_long, upper_below, lower_below}
use Rattle.script_equations_theory.proofs.Forms.{bound_fine}
use Rattle.soundness_theory.proofs.Edges.{◌≼◌, trans}
use Rattle.soundness_theory.proofs.Passing.{Blocked}

-- values rise, and so does what an alternative is worth
pub worth_rises : (x y : List Bound) → Below bounds x y → (n : ℕ) (a : Alternative Bound ℤ) → WellAlternative bounds n a → worth bounds x a ≼ worth bounds y a
worth_rises x y b n a w = cond_both (holds bounds x a.test) (terms bounds x a.terms) Least (λ (z : Bound). z ≼ worth bounds y a)
    (λ e. subst (λ (z : Bound). terms bounds x a.terms ≼ z) (sym (worth_is bounds bounds_laws y a (holds_mono bounds bounds_laws x y b a.test e))) (terms_mono bounds bounds_laws x y b a.terms lights))
    (λ e. refl)
  where
    lights : Light bounds a.terms
    lights v w' am = (w.each (Shifted v w') am).1

module _ (g : Graph) (good : ℕ → Bool) (y : List Bound) where
  -- y with the points that are not good taken out
  abbrev kept : ℕ → Bound
  kept u = cond (good (u / 2 / variables_of g)) (at bounds y u) Least

  abbrev pub without : List Bound
  without = map kept (range_with_len 0 (bound_count g))

  without_at : (u : ℕ) → u < bound_count g → at bounds without u ≡ kept u
  without_at u h = get_or-map-range_with_len kept 0 (bound_count g) u u Least h (omega arith)

  kept_below : (u : ℕ) → kept u ≼ at bounds y u
  kept_below u = cond_both (good (u / 2 / variables_of g)) (at bounds y u) Least (λ (z : Bound). z ≼ at bounds y u) (λ e. bounds_laws.reflexive (at bounds y u)) (λ e. refl)

  pub without_below : Below bounds without y
  without_below u = ⊎_elim
      (λ (h : u < bound_count g). subst (λ (z : Bound). z ≼ at bounds y u) (sym (without_at u h)) (kept_below u))
      (λ (h : bound_count g ≤ u). let e = length-map-range_with_len kept 0 (bound_count g) in
      subst (λ (z : Bound). z ≼ at bounds y u) (sym (get_or_past without u Least (omega arith))) refl)
      (cases_lt u (bound_count g))

  -- where a point is not good, its values are taken out
  module _ (p v : ℕ) (hp : p < g.points) (hv : v < variables_of g) (f : good p ≡ false) where
    kept_not : (u : ℕ) → u / 2 ≡ variables_of g * p + v → kept u ≡ Least
    kept_not u e = ap (λ (j : ℕ). cond (good j) (at bounds y u) Least) (ap (λ (j : ℕ). j / variables_of g) e ∙ point_of (variables_of g) p v hv) ∙ ap (λ (b : Bool). cond b (at bounds y u) Least) f

    pub upper_not : at bounds without (upper (variables_of g) p v) ≡ Least
    upper_not = without_at (upper (variables_of g) p v) (upper_below g p v hp hv) ∙ kept_not (upper (variables_of g) p v) (omega arith)

    pub lower_not : at bounds without (lower (variables_of g) p v) ≡ Least
    lower_not = without_at (lower (variables_of g) p v) (lower_below g p v hp hv) ∙ kept_not (lower (variables_of g) p v) (omega arith)

  module _ (fits : WellFormed g) (first : good 0 ≡ true) (carries : (e : Edge) → Contains g.edges e → good e.target ≡ false → Blocked (variables_of g) without e.source e.action) where
    -- the alternatives of the unknowns of a point that is not good are least
    module _ (p v : ℕ) (hv : v < variables_of g) (f : good p ≡ false) (a : Alternative Bound ℤ) where
      not_first : p ≡ 0 → ⊥
      not_first e = false≢true (sym f ∙ subst (λ (j : ℕ). good j ≡ true) (sym e) first)

      here : (e : Edge) → e.target ≡ p → good e.target ≡ false
      here e t = subst (λ (j : ℕ). good j ≡ false) (sym t) f

      abbrev Low : Alternative Bound ℤ → Type 0
      Low b = worth bounds without b ≡ Least

      uppers_low : Contains (uppers g p v) a → Low a
      uppers_low = by_eq (λ (l : List (Alternative Bound ℤ)). Contains l a → Low a) p 0 _ _ (λ e. absurd (not_first e))
          (λ e. all_incoming Low (λ (d : Edge). upper_of (variables_of g) d.source v d.action) p g.edges (λ d k t. (carries d k (here d t) v hv).0) a)

      lowers_low : Contains (lowers g p v) a → Low a
      lowers_low = by_eq (λ (l : List (Alternative Bound ℤ)). Contains l a → Low a) p 0 _ _ (λ e. absurd (not_first e))
          (λ e. all_incoming Low (λ (d : Edge). lower_of (variables_of g) d.source v d.action) p g.edges (λ d k t. (carries d k (here d t) v hv).1) a)

    module _ (up : HoldsUp bounds (bound_book g) y) (u : ℕ) (h : u < bound_count g) where
      hv : u / 2 % variables_of g < variables_of g
      hv = mod_below (u / 2) (variables_of g) (none_of (variables_of g) g.points (u / 2) (omega arith))

      low_in : good (u / 2 / variables_of g) ≡ false → (a : Alternative Bound ℤ) → Contains (bound_unknown g u) a → worth bounds without a ≡ Least
      low_in f a = by_eq (λ (l : List (Alternative Bound ℤ)). Contains l a → worth bounds without a ≡ Least) (u % 2) 0 _ _
          (λ e. uppers_low (u / 2 / variables_of g) (u / 2 % variables_of g) hv f a) (λ e. lowers_low (u / 2 / variables_of g) (u / 2 % variables_of g) hv f a)

      right_is : (x : List Bound) → right bounds (bound_book g) x u ≡ best bounds x (bound_unknown g u)
      right_is x = ap (λ (l : List (Alternative Bound ℤ)). best bounds x l) (row_inside (bound_unknown g) (bound_count g) u h)

      inside : u < length (bound_book g)
      inside = subst (λ (j : ℕ). u < j) (sym (book_long g)) h

      below : best bounds without (bound_unknown g u) ≼ at bounds y u
      below = best_under bounds bounds_laws without (at bounds y u) (bound_unknown g u)
          (λ k a e. trans (worth bounds without a) (worth bounds y a) (at bounds y u)
          (worth_rises without y without_below (bound_count g) a (bound_fine g fits u h a (nth_contains (bound_unknown g u) k a e)))
          (trans (worth bounds y a) (best bounds y (bound_unknown g u)) (at bounds y u)
          (best_over bounds bounds_laws y (bound_unknown g u) k a e) (subst (λ (z : Bound). z ≼ at bounds y u) (right_is y) (up.under u inside))))

      kept_up : best bounds without (bound_unknown g u) ≼ kept u
      kept_up = cond_both (good (u / 2 / variables_of g)) (at bounds y u) Least (λ (z : Bound). best bounds without (bound_unknown g u) ≼ z)
          (λ e. below) (λ e. le_of_eq bounds bounds_laws (best_least bounds bounds_laws without (bound_unknown g u) (low_in e)))

      holds_at : right bounds (bound_book g) without u ≼ at bounds without u
      holds_at = subst₂ (λ (a b : Bound). a ≼ b) (sym (right_is without)) (sym (without_at u h)) kept_up

    without_holds : HoldsUp bounds (bound_book g) y → HoldsUp bounds (bound_book g) without
    without_holds up = record {
      long = length-map-range_with_len kept 0 (bound_count g) ∙ sym (book_long g);
      under = λ u h. holds_at up u (subst (λ (j : ℕ). u < j) (book_long g) h);
    }

    pub least_outside : HoldsUp bounds (bound_book g) y → ((x : List Bound) → HoldsUp bounds (bound_book g) x → Below bounds y x) →
        (p v : ℕ) → p < g.points → v < variables_of g → good p ≡ false → (at bounds y (upper (variables_of g) p v) ≡ Least) × (at bounds y (lower (variables_of g) p v) ≡ Least)
    least_outside up least p v hp hv f = (low_at (upper (variables_of g) p v) (upper_not p v hp hv f), low_at (lower (variables_of g) p v) (lower_not p v hp hv f))
      where
        low_at : (u : ℕ) → at bounds without u ≡ Least → at bounds y u ≡ Least
        low_at u e = bounds_laws.antisymmetric (at bounds y u) Least (subst (λ (z : Bound). at bounds y u ≼ z) e (least without (without_holds up) u)) refl
