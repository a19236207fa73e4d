-- the largest value of alternatives, and the first that reaches a value, one alternative after another
use Rattle.std.proofs.Common.{◌≡◌, ℕ, zero, suc, ◌+◌, ◌<◌, Bool, true, false, cond, not, List, [], ◌∷◌, ◌++◌, length, take, is_some, Some, None, Ok, Option, sym, refl, ap, ◌∙◌, subst, subst₂, ⊎_elim, true≢false, arith}
use native.Mathlib.Decide.{ℕ_discrete}
use Rattle.std.proofs.lemmas.List.{length-take-le}
use Rattle.kinds.specs.Limits.{most_items}
use Rattle.kinds.specs.Kinds.{Ops, Laws, Less, Made}
use Rattle.books.specs.Books.{smaller, greater, worth, best, nth, next, reach, Largest, Betters}
use Rattle.books.specs.Forms.{WellAlternative}
use Rattle.books.specs.Questions.{found}
use Rattle.books.specs.Entries.{Short}
use Rattle.books.specs.declared.Alternative.{Alternative}
use Rattle.books.specs.declared.evaluation.RightSide.{RightSide}
use Rattle.books.proofs.Order.{Le, never_both, le_of_eq, le_trans, lt_of_le_lt, lt_of_lt_le, greater_left, greater_right, greater_either, smaller_either}
use Rattle.books.proofs.Worth.{no_option, best_over}
use Rattle.books.proofs.Sizes.{made_worth, made_best}
use Rattle.books.proofs.Asked.{some_same, found_ok, inside_nth, take_nth}

module _ {V W : Type 0} (o : Ops V W) (l : Laws o) where
  -- the greater of two is the least upper bound
  pub greater_under : {x y z : V} → Le o x z → Le o y z → Le o (greater o x y) z
  greater_under {x} {y} {z} p q = ⊎_elim (λ (e : greater o x y ≡ x). le_trans o l (le_of_eq o l e) p) (λ (e : greater o x y ≡ y). le_trans o l (le_of_eq o l e) q) (greater_either o l x y)

  pub smaller_over : {x y z : V} → Le o z x → Le o z y → Le o z (smaller o x y)
  smaller_over {x} {y} {z} p q = ⊎_elim (λ (e : smaller o x y ≡ x). le_trans o l p (le_of_eq o l (sym e))) (λ (e : smaller o x y ≡ y). le_trans o l q (le_of_eq o l (sym e))) (smaller_either o l x y)

  -- a running maximum over alternatives
  pub best_push : (x : List V) (bs : List (Alternative V W)) (a : Alternative V W) → best o x (bs ++ a ∷ []) ≡ greater o (best o x bs) (worth o x a)
  best_push x [] a = l.antisymmetric _ _ (greater_under (greater_right o l o.least (worth o x a)) (greater_left o l o.least (worth o x a)))
      (greater_under (l.bottom _) (greater_left o l (worth o x a) o.least))
  best_push x (b ∷ bs) a =
      let e = best_push x bs a in
      let B = best o x bs in
      let A = worth o x a in
      let C = worth o x b in
      ap (λ (z : V). greater o C z) e ∙
      l.antisymmetric (greater o C (greater o B A)) (greater o (greater o C B) A)
      (greater_under (le_trans o l (greater_left o l C B) (greater_left o l (greater o C B) A))
      (greater_under (le_trans o l (greater_right o l C B) (greater_left o l (greater o C B) A)) (greater_right o l (greater o C B) A)))
      (greater_under (greater_under (greater_left o l C (greater o B A)) (le_trans o l (greater_left o l B A) (greater_right o l C (greater o B A))))
      (le_trans o l (greater_right o l B A) (greater_right o l C (greater o B A))))

  pub best_under : (x : List V) (y : V) (bs : List (Alternative V W)) → ((k : ℕ) (a : Alternative V W) → nth bs k ≡ Some a → Le o (worth o x a) y) → Le o (best o x bs) y
  best_under x y [] h = l.bottom y
  best_under x y (b ∷ bs) h = greater_under (h zero b refl) (best_under x y bs (λ k. h (suc k)))

  -- the first that reaches a value stays so, whatever comes behind
  reach_left : (x : List V) (r : V) (bs cs : List (Alternative V W)) (k : ℕ) → reach o x r bs ≡ Some k → reach o x r (bs ++ cs) ≡ Some k
  reach_left x r [] cs k e = absurd (no_option e)
  reach_left x r (b ∷ bs) cs k e = go (o.at_most r (worth o x b)) (reach o x r bs) refl e (λ j. reach_left x r bs cs j)
    where
      go : (t : Bool) (f : Option ℕ) → reach o x r bs ≡ f → cond t (Some zero) (next f) ≡ Some k →
          ((j : ℕ) → reach o x r bs ≡ Some j → reach o x r (bs ++ cs) ≡ Some j) → cond t (Some zero) (next (reach o x r (bs ++ cs))) ≡ Some k
      go true f q e ih = e
      go false None q e ih = absurd (no_option e)
      go false (Some j) q e ih = ap next (ih j q) ∙ e

  -- the first that reaches a value that none before it does
  reach_last : (x : List V) (r : V) (bs : List (Alternative V W)) (a : Alternative V W) → Le o r (worth o x a) →
      ((k : ℕ) (b : Alternative V W) → nth bs k ≡ Some b → Less o (worth o x b) r) → reach o x r (bs ++ a ∷ []) ≡ Some (length bs)
  reach_last x r [] a p f = ap (λ (t : Bool). cond t (Some zero) None) p
  reach_last x r (b ∷ bs) a p f =
      ap (λ (t : Bool). cond t (Some zero) (next (reach o x r (bs ++ a ∷ [])))) (f zero b refl) ∙ ap next (reach_last x r bs a p (λ k. f (suc k)))

  -- the largest value is reached, if there is an alternative
  reach_some : (x : List V) (r : V) (bs : List (Alternative V W)) → Le o r (best o x bs) → reach o x r bs ≡ None → bs ≡ []
  reach_some x r [] p e = refl
  reach_some x r (b ∷ bs) p e = go (o.at_most r (worth o x b)) refl (reach o x r bs) refl e (reach_some x r bs)
    where
      over : Less o (worth o x b) r → Le o r (best o x bs)
      over h = ⊎_elim (λ (q : greater o (worth o x b) (best o x bs) ≡ worth o x b). absurd (never_both (le_trans o l p (le_of_eq o l q)) h))
          (λ (q : greater o (worth o x b) (best o x bs) ≡ best o x bs). le_trans o l p (le_of_eq o l q)) (greater_either o l (worth o x b) (best o x bs))

      go : (t : Bool) → o.at_most r (worth o x b) ≡ t → (f : Option ℕ) → reach o x r bs ≡ f → cond t (Some zero) (next f) ≡ None →
          (Le o r (best o x bs) → reach o x r bs ≡ None → bs ≡ []) → b ∷ bs ≡ []
      go true h f q e ih = absurd (no_option (sym e))
      go false h (Some j) q e ih = absurd (no_option (sym e))
      go false h None q e ih =
          let nil = ih (over h) q in
          let low : Le o r o.least = subst (λ (cs : List (Alternative V W)). Le o r (best o x cs)) nil (over h) in
          absurd (never_both (le_trans o l low (l.bottom (worth o x b))) h)

  -- one alternative more
  module _ (x : List V) (bs : List (Alternative V W)) (r : RightSide V) (g : Largest o x bs r) (a : Alternative V W) where
    pub largest_first : r.first ≡ None → Largest o x (bs ++ a ∷ []) (record { value = worth o x a; first = Some (length bs) })
    largest_first e = subst (λ (cs : List (Alternative V W)). Largest o x (cs ++ a ∷ []) (record { value = worth o x a; first = Some (length cs) }))
        (sym (reach_some x (best o x bs) bs (l.reflexive _) (sym g.first ∙ e)))
        (record { value = sym alone; first = sym (ap (λ (y : V). reach o x y (a ∷ [])) alone ∙ ap (λ (t : Bool). cond t (Some zero) None) (l.reflexive (worth o x a))) })
      where
        alone : best o x (a ∷ []) ≡ worth o x a
        alone = ap (λ (t : Bool). cond t (worth o x a) o.least) (l.bottom (worth o x a))

    pub largest_stays : (k : ℕ) → r.first ≡ Some k → Le o (worth o x a) r.value → Largest o x (bs ++ a ∷ []) r
    largest_stays k e p = record {
      value = g.value ∙ sym same;
      first = g.first ∙ e' ∙ sym (ap (λ (y : V). reach o x y (bs ++ a ∷ [])) same ∙ reach_left x (best o x bs) bs (a ∷ []) k e');
    }
      where
        e' : reach o x (best o x bs) bs ≡ Some k
        e' = sym g.first ∙ e

        same : best o x (bs ++ a ∷ []) ≡ best o x bs
        same = best_push x bs a ∙ ap (λ (t : Bool). cond t (best o x bs) (worth o x a)) (subst (λ (y : V). Le o (worth o x a) y) g.value p)

    pub largest_more : Less o r.value (worth o x a) → Largest o x (bs ++ a ∷ []) (record { value = worth o x a; first = Some (length bs) })
    largest_more p = record {
      value = sym same;
      first = sym (ap (λ (y : V). reach o x y (bs ++ a ∷ [])) same ∙ reach_last x (worth o x a) bs a (l.reflexive _) (λ k b q. lt_of_le_lt o l (best_over o l x bs k b q) lt));
    }
      where
        lt : Less o (best o x bs) (worth o x a)
        lt = subst (λ (y : V). Less o y (worth o x a)) g.value p

        same : best o x (bs ++ a ∷ []) ≡ worth o x a
        same = best_push x bs a ∙ ap (λ (t : Bool). cond t (best o x bs) (worth o x a)) lt

  -- by the comparison b: what is known stays, or the alternative takes its place
  module _ (known : RightSide V) (k : ℕ) (v : V) (b : Bool) (is : Made o most_items v → Made o most_items known.value → b ≡ o.at_most v known.value) where
    pub betters_stays : is_some known.first ≡ true → b ≡ true → Betters o known k v known
    betters_stays s e = record {
      more = λ x bs a g n f d d'.
          let p : Le o v known.value = sym (is d d') ∙ e in
          go x bs a g known.first refl s (subst (λ (y : V). Le o y known.value) f p);
    }
      where
        go : (x : List V) (bs : List (Alternative V W)) (a : Alternative V W) → Largest o x bs known → (j : Option ℕ) → known.first ≡ j → is_some known.first ≡ true →
            Le o (worth o x a) known.value → Largest o x (bs ++ a ∷ []) known
        go x bs a g None q s p = absurd (true≢false (sym s ∙ ap is_some q))
        go x bs a g (Some j) q s p = largest_stays x bs known g a j q p

    pub betters_more : b ≡ false → Betters o known k v (record { value = v; first = Some k })
    betters_more e = record {
      more = λ x bs a g n f d d'.
          subst₂ (λ (y : V) (j : ℕ). Largest o x (bs ++ a ∷ []) (record { value = y; first = Some j })) (sym f) (sym n)
          (largest_more x bs known g a (subst (λ (y : V). Less o known.value y) f (sym (is d d') ∙ e)));
    }

  pub betters_first : (known : RightSide V) (k : ℕ) (v : V) → is_some known.first ≡ false → Betters o known k v (record { value = v; first = Some k })
  betters_first known k v s = record {
    more = λ x bs a g n f d d'.
        subst₂ (λ (y : V) (j : ℕ). Largest o x (bs ++ a ∷ []) (record { value = y; first = Some j })) (sym f) (sym n) (largest_first x bs known g a (none known.first s));
  }
    where
      none : (j : Option ℕ) → is_some j ≡ false → j ≡ None
      none None s = refl
      none (Some j) s = absurd (true≢false s)

  -- one alternative more of an unknown
  pub largest_next : (n : ℕ) (x : List V) → Short o x → (bs : List (Alternative V W)) → ((j : ℕ) (b : Alternative V W) → nth bs j ≡ Some b → WellAlternative o n b) →
      (k : ℕ) (a : Alternative V W) (v : V) (known r : RightSide V) → Ok a ≡ found (nth bs k) → (WellAlternative o n a → v ≡ worth o x a) → Betters o known k v r →
      Largest o x (take k bs) known → Largest o x (take (k + 1) bs) r
  largest_next n x h bs fine k a v known r e f g q =
      let at = found_ok (nth bs k) a e in
      let inside = inside_nth bs k a at in
      let w = fine k a at in
      rw (take_nth bs k a at) (g.more x (take k bs) a q (sym (length-take-le k bs (omega arith))) (f w)
      (subst (λ (y : V). Made o most_items y) (sym (f w)) (made_worth o l n x _ h a w))
      (subst (λ (y : V). Made o most_items y) (sym q.value) (made_best o l n x _ h (take k bs) (λ j b p. fine j b (nth_take bs k j b p)))))
    where
      nth_take : (cs : List (Alternative V W)) (i j : ℕ) (b : Alternative V W) → nth (take i cs) j ≡ Some b → nth cs j ≡ Some b
      nth_take cs zero j b p = absurd (no_option p)
      nth_take [] (suc i) j b p = absurd (no_option p)
      nth_take (c ∷ cs) (suc i) zero b p = p
      nth_take (c ∷ cs) (suc i) (suc j) b p = nth_take cs i j b p

  -- a right side that is greater, and one that is not
  pub right_rises : (x : List V) (bs : List (Alternative V W)) (k : ℕ) (a : Alternative V W) (y : V) → nth bs k ≡ Some a → Less o y (worth o x a) → true ≡ not (o.at_most (best o x bs) y)
  right_rises x bs k a y e p = sym (ap not (lt_of_lt_le o l p (best_over o l x bs k a e)))

  pub right_stays : (x : List V) (bs : List (Alternative V W)) (y : V) → ((k : ℕ) (a : Alternative V W) → k < length bs → nth bs k ≡ Some a → Le o (worth o x a) y) → false ≡ not (o.at_most (best o x bs) y)
  right_stays x bs y h = sym (ap not (best_under x y bs (λ k a e. h k a (inside_nth bs k a e) e)))

  -- the alternative k of bs, its computed value v and the comparison b of v with y
  module _ (n : ℕ) (x : List V) (h : Short o x) (bs : List (Alternative V W)) (fine : (j : ℕ) (b : Alternative V W) → nth bs j ≡ Some b → WellAlternative o n b)
      (k : ℕ) (a : Alternative V W) (v y : V) (b : Bool) (e : Ok a ≡ found (nth bs k)) (f : WellAlternative o n a → v ≡ worth o x a)
      (d : Made o most_items y) (is : Made o most_items v → Made o most_items y → b ≡ o.at_most v y) where
    pub compared : o.at_most (worth o x a) y ≡ b
    compared =
        let w = fine k a (found_ok (nth bs k) a e) in
        ap (λ (z : V). o.at_most z y) (sym (f w)) ∙ sym (is (subst (λ (z : V). Made o most_items z) (sym (f w)) (made_worth o l n x _ h a w)) d)

    pub stays_more : b ≡ true → ((j : ℕ) (c : Alternative V W) → j < k → nth bs j ≡ Some c → Le o (worth o x c) y) →
        (j : ℕ) (c : Alternative V W) → j < k + 1 → nth bs j ≡ Some c → Le o (worth o x c) y
    stays_more p below j c lt q = go (ℕ_discrete j k)
      where
        go : Dec (j ≡ k) → Le o (worth o x c) y
        go (yes s) = subst (λ (z : Alternative V W). Le o (worth o x z) y) (some_same (sym (found_ok (nth bs k) a e) ∙ ap (λ (i : ℕ). nth bs i) (sym s) ∙ q)) (compared ∙ p)
        go (no ne) = below j c (omega arith) q
