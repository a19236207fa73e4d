-- What a function gives of the items up to a place, and how it is filled into a list. The findings are what `found_of` gives of the reads.
use Rattle.std.proofs.Common.{Contains, vec_items, ◌≡◌, ℕ, ◌+◌, ◌<◌, ◌≤◌, true, false, List, [], ◌∷◌, ◌++◌, length, get_or, take, drop, set, Some, None, Option, sym, ap, subst, ◌∙◌, arith, length-append}
use Rattle.std.proofs.lemmas.Bool.{false≢true}
use Rattle.std.proofs.lemmas.List.{append-nil, take_more, take-append-drop}
use Rattle.std.proofs.lemmas.List.Elements.{filter_map-append, Contains-get_or}
use Rattle.std.specs.List.{filter_map, cons_option}
use Rattle.std.specs.Option.{is_some}
use Rattle.base.specs.Fronts.{Front}
use Rattle.language_theory.specs.WellFormed.{LookupFits}
use Rattle.language_theory.specs.declared.Lookup.{Lookup}
use Rattle.script_graph.specs.Meaning.{meaning}
use Rattle.script_graph.specs.declared.graph.Graph.{Graph}
use Rattle.script_books.specs.Fitted.{graph_fits}
use Rattle.base.proofs.Front.{front_room, front_more}

module _ {A B : Type 0} (f : A → Option B) (l : List A) (i : ℕ) where
  -- what f gives of the front is no more than what it gives of all
  pub front_least : length (filter_map f (take i l)) ≤ length (filter_map f l)
  front_least =
      let e = ap length (ap (filter_map f) (sym (take-append-drop i l)) ∙ filter_map-append f (take i l) (drop i l)) ∙ length-append (filter_map f (take i l)) (filter_map f (drop i l)) in
      omega (arith, e)

module _ {A B : Type 0} (f : A → Option B) (l : List A) (i : ℕ) (d : A) (h : i < length l) where
  -- what f gives of one item more
  more : (r : Option B) → r ≡ f (get_or l i d) → filter_map f (take (i + 1) l) ≡ filter_map f (take i l) ++ cons_option r []
  more r e = ap (filter_map f) (take_more l i d h) ∙ filter_map-append f (take i l) (get_or l i d ∷ []) ∙ ap (λ (x : Option B). filter_map f (take i l) ++ cons_option x []) (sym e)

  count_more : (r : Option B) → r ≡ f (get_or l i d) → length (filter_map f (take (i + 1) l)) ≡ length (filter_map f (take i l)) + length (cons_option r [])
  count_more r e = ap length (more r e) ∙ length-append (filter_map f (take i l)) (cons_option r [])

  -- how much that is: nothing or one more
  pub count_none : (r : Option B) → r ≡ f (get_or l i d) → is_some r ≡ false → length (filter_map f (take (i + 1) l)) ≡ length (filter_map f (take i l))
  count_none None e n = omega (arith, count_more None e)
  count_none (Some b) e n = absurd (false≢true (sym n))

  pub count_some : (r : Option B) → r ≡ f (get_or l i d) → is_some r ≡ true → length (filter_map f (take (i + 1) l)) ≡ length (filter_map f (take i l)) + 1
  count_some None e s = absurd (false≢true s)
  count_some (Some b) e s = omega (arith, count_more (Some b) e)

  -- what f gave stands at the front of the list es', which was es before
  module _ (es es' : List B) (n : ℕ) (w : Front (filter_map f (take i l)) es es' n) where
    pub fill_none : None ≡ f (get_or l i d) → Front (filter_map f (take (i + 1) l)) es es' n
    fill_none e = subst (λ (bs : List B). Front bs es es' n) (sym (more None e ∙ append-nil (filter_map f (take i l)))) w

    pub fill_some : (b : B) → Some b ≡ f (get_or l i d) → n < length es' → Front (filter_map f (take (i + 1) l)) es (set es' n b) (n + 1)
    fill_some b e r = subst (λ (bs : List B). Front bs es (set es' n b) (n + 1)) (sym (more (Some b) e)) (front_more (filter_map f (take i l)) es es' n w b ((front_room (filter_map f (take i l)) es es' n w).0 r))

    -- there is room for it where there is room for all
    pub never_full : (b : B) → Some b ≡ f (get_or l i d) → length (filter_map f l) ≤ length es → n < length es'
    never_full b e r = (front_room (filter_map f (take i l)) es es' n w).1 (omega (arith, w.count, count_more (Some b) e, front_least f l (i + 1), r))

-- a read of a graph fits, by its place
pub lookup_fits : (g : Graph) (ls : List Lookup) (i : ℕ) (d : Lookup) → ls ≡ vec_items g.lookups → i < length ls → LookupFits (meaning g) (get_or ls i d)
lookup_fits g ls i d e h = (graph_fits g).lookups _ (subst (λ (xs : List Lookup). Contains xs (get_or ls i d)) e (Contains-get_or ls i d h))
