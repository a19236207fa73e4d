-- improvement of a strategy in the list of entries, one unknown after another
use Rattle.std.proofs.Common.{◌≡◌, ℕ, ◌+◌, ◌<◌, ◌≤◌, Bool, true, false, cond, not, ◌||◌, ◌↔◌, MatchBool, List, [], length, get_or, set, None, Option, sym, refl, ap, ◌∙◌, subst, true≢false, arith, get_or-set_other, get_or-set_same}
use mathlib.Core.Bool.{false≢true}
use native.Mathlib.Decide.{ℕ_discrete}
use Rattle.std.specs.List.{AllWithin, HoldsAt, enumerate_from}
use Rattle.std.proofs.lemmas.Bool.{or_parts}
use Rattle.std.proofs.lemmas.List.FromFn.{length-map-range_with_len, get_or-map-range_with_len, length-enumerate_from, get_or-enumerate_from}
use Rattle.std.proofs.lemmas.List.{length-map, get_or-map, map-set, set-get_or, ext_get_or}
use Rattle.kinds.specs.Limits.{most_items}
use Rattle.kinds.specs.Kinds.{Ops, Laws, Made}
use Rattle.books.specs.Books.{at, right, reach, Largest}
use Rattle.books.specs.Forms.{Well}
use Rattle.books.specs.Entries.{values, choices, Short}
use Rattle.books.specs.declared.Alternative.{Alternative}
use Rattle.books.specs.declared.Entry.{Entry}
use Rattle.books.specs.declared.evaluation.RightSide.{RightSide}
use Rattle.books.proofs.Order.{Le}
use Rattle.books.proofs.Sizes.{made_more, made_best}
use Rattle.strategy_theory.specs.Solving.{switched, improved, Settled}
use Rattle.strategy_theory.specs.Steps.{Switches, ImprovesAll}

not_false : (b : Bool) → false ≡ not b → b ≡ true
not_false true e = refl
not_false false e = absurd (false≢true e)

not_true : (b : Bool) → true ≡ not b → b ≡ false
not_true true e = absurd (true≢false e)
not_true false e = refl

one_of : (a b : Bool) → (a || b) ≡ true → (a ≡ true → ⊥) → (b ≡ true → ⊥) → ⊥
one_of true b e f g = f refl
one_of false b e f g = g e

-- entries
pub value_is : {V W : Type 0} (o : Ops V W) (es : List (Entry V)) (u : ℕ) (d : Entry V) → u < length es → (get_or es u d).value ≡ at o (values es) u
value_is {V} o es u d h = sym (get_or-map (λ (e : Entry V). e.value) es u d o.least h)

-- the entry u with another choice
abbrev pub rechosen : {V : Type 0} → List (Entry V) → ℕ → Entry V → Option ℕ → List (Entry V)
rechosen es u d k = set es u (record { value = (get_or es u d).value; choice = k })

module _ {V W : Type 0} (o : Ops V W) (l : Laws o) (m : List (List (Alternative V W))) where
  module _ (well : Well o m) (es : List (Entry V)) (h : Short o (values es)) (u : ℕ) (r : RightSide V) (g : Largest o (values es) (get_or m u []) r) (b : Bool) where
    compared : (v : V) → v ≡ at o (values es) u → (Made o most_items r.value → Made o most_items v → b ≡ o.at_most r.value v) → b ≡ o.at_most (right o m (values es) u) (at o (values es) u)
    compared v e is =
        is (subst (λ (y : V). Made o most_items y) (sym g.value) (made_best o l (length m) (values es) _ h (get_or m u []) (well.fine u)))
        (subst (λ (y : V). Made o most_items y) (sym e) (made_more o l most_items (omega arith) (h u)))
        ∙ ap (λ (y : V). o.at_most y v) g.value ∙ ap (λ (y : V). o.at_most (right o m (values es) u) y) e

    module _ (v : V) (e : v ≡ at o (values es) u) (is : Made o most_items r.value → Made o most_items v → b ≡ o.at_most r.value v) where
      pub switch_stays : b ≡ true → Switches o m es u false es
      switch_stays p = record {
        kept = refl;
        choice = sym (ap (λ (k : Option ℕ). set (choices es) u k) (ap (λ (t : Bool). cond t (get_or (choices es) u None) (reach o (values es) (right o m (values es) u) (get_or m u []))) under) ∙ set-get_or (choices es) u None);
        said = sym (ap not under);
      }
        where
          under : o.at_most (right o m (values es) u) (at o (values es) u) ≡ true
          under = sym (compared v e is) ∙ p

      pub switch_moves : b ≡ false → u < length es → (d : Entry V) → Switches o m es u true (rechosen es u d r.first)
      switch_moves p lt d = record {
        kept = map-set (λ (q : Entry V). q.value) es u _ ∙ ap (λ (y : V). set (values es) u y) (value_is o es u d lt) ∙ set-get_or (values es) u o.least;
        choice = map-set (λ (q : Entry V). q.choice) es u _ ∙ ap (λ (k : Option ℕ). set (choices es) u k)
            (g.first ∙ sym (ap (λ (t : Bool). cond t (get_or (choices es) u None) (reach o (values es) (right o m (values es) u) (get_or m u []))) over));
        said = sym (ap not over);
      }
        where
          over : o.at_most (right o m (values es) u) (at o (values es) u) ≡ false
          over = sym (compared v e is) ∙ p

  -- the unknowns below i are improved, those from i on are as they were; t says whether any switched
  pub record Improving (es₀ : List (Entry V)) (i : ℕ) (t : Bool) (es : List (Entry V)) : Type 0 where
    pub kept : values es ≡ values es₀
    pub done : (j : ℕ) → j < i → get_or (choices es) j None ≡ switched o m (values es₀) (choices es₀) j
    pub ahead : (j : ℕ) → i ≤ j → get_or (choices es) j None ≡ get_or (choices es₀) j None
    pub none : t ≡ false → (j : ℕ) → j < i → Le o (right o m (values es₀) j) (at o (values es₀) j)
    pub some : t ≡ true → ((j : ℕ) → j < i → Le o (right o m (values es₀) j) (at o (values es₀) j)) → ⊥

  module _ (es₀ : List (Entry V)) (i : ℕ) (t : Bool) (es es' : List (Entry V)) (p : Improving es₀ i t es) (lt : i < length es) (r : Bool) (q : Switches o m es i r es') where
    same : switched o m (values es) (choices es) i ≡ switched o m (values es₀) (choices es₀) i
    same = ap (λ (y : List V). cond (o.at_most (right o m y i) (at o y i)) (get_or (choices es) i None) (reach o y (right o m y i) (get_or m i []))) p.kept
        ∙ ap (λ (k : Option ℕ). cond (o.at_most (right o m (values es₀) i) (at o (values es₀) i)) k (reach o (values es₀) (right o m (values es₀) i) (get_or m i []))) (p.ahead i (omega arith))

    inside : i < length (choices es)
    inside = simp length-map lt

    done_more : (j : ℕ) → j < i + 1 → get_or (choices es') j None ≡ switched o m (values es₀) (choices es₀) j
    done_more j h = ap (λ (k : List (Option ℕ)). get_or k j None) q.choice ∙ go (ℕ_discrete j i)
      where
        go : Dec (j ≡ i) → get_or (set (choices es) i (switched o m (values es) (choices es) i)) j None ≡ switched o m (values es₀) (choices es₀) j
        go (yes e) = ap (λ (k : ℕ). get_or (set (choices es) i (switched o m (values es) (choices es) i)) k None) e ∙ get_or-set_same (choices es) i _ None inside ∙ same ∙ ap (λ (k : ℕ). switched o m (values es₀) (choices es₀) k) (sym e)
        go (no ne) = get_or-set_other (choices es) i j _ None ne ∙ p.done j (omega arith)

    ahead_more : (j : ℕ) → i + 1 ≤ j → get_or (choices es') j None ≡ get_or (choices es₀) j None
    ahead_more j h = ap (λ (k : List (Option ℕ)). get_or k j None) q.choice ∙ get_or-set_other (choices es) i j _ None (omega arith) ∙ p.ahead j (omega arith)

    pub improving_more : Improving es₀ (i + 1) (t || r) es'
    improving_more = record {
      kept = q.kept ∙ p.kept;
      done = done_more;
      ahead = ahead_more;
      none = λ f j h. let no = or_parts t r f in below j h (ℕ_discrete j i) no.0 no.1;
      some = λ f all. one_of t r f (λ e. p.some e (λ j h. all j (omega arith)))
          (λ e. true≢false (sym (all i (omega arith)) ∙ ap (λ (y : List V). o.at_most (right o m y i) (at o y i)) (sym p.kept) ∙ not_true _ (sym e ∙ q.said)));
    }
      where
        below : (j : ℕ) → j < i + 1 → Dec (j ≡ i) → t ≡ false → r ≡ false → Le o (right o m (values es₀) j) (at o (values es₀) j)
        below j h (yes s) f e =
            subst (λ (k : ℕ). Le o (right o m (values es₀) k) (at o (values es₀) k)) (sym s) (ap (λ (y : List V). o.at_most (right o m y i) (at o y i)) (sym p.kept) ∙ not_false _ (sym e ∙ q.said))
        below j h (no s) f e = p.none f j (omega arith)

  pub improved_all : (es₀ : List (Entry V)) (i : ℕ) (t : Bool) (es : List (Entry V)) → Improving es₀ i t es → length es₀ ≡ length m → length es ≡ length es₀ → i ≡ length es → ImprovesAll o m es₀ t es
  improved_all es₀ i t es p len long end = record {
    kept = p.kept;
    choice = ext_get_or None (choices es) (improved o m (values es₀) (choices es₀)) (length-map es (λ (e : Entry V). e.choice) ∙ long ∙ len ∙ sym (length-map-range_with_len (switched o m (values es₀) (choices es₀)) 0 (length m))) place;
    settled = λ e u h. p.none e u (omega arith);
    unsettled = λ e all. p.some e (λ j h. all j (omega arith));
  }
    where
      place : (j : ℕ) → j < length (choices es) → get_or (choices es) j None ≡ get_or (improved o m (values es₀) (choices es₀)) j None
      place j h = let lt : j < length es = rw (length-map es (λ (e : Entry V). e.choice)) at h in
          p.done j (omega arith) ∙ sym (get_or-map-range_with_len (switched o m (values es₀) (choices es₀)) 0 (length m) j j None (omega arith) (omega arith))

  -- whether the right side of a numbered entry is at most its value
  abbrev pub Under : List V → Bool → ℕ × Entry V → Type 0
  Under x b p = Made o most_items p.1.value → o.at_most (right o m x p.0) p.1.value ≡ b

  module _ (es : List (Entry V)) (h : Short o (values es)) where
    under_at : (b : Bool) (k : ℕ) → k < length es → HoldsAt (Under (values es) b) (enumerate_from 0 es) k → o.at_most (right o m (values es) k) (at o (values es) k) ≡ b
    under_at b k lt f =
        let d : Entry V = record { value = o.least; choice = None } in
        let e = value_is o es k d lt in
        let z : 0 + k ≡ k = omega arith in
        subst (λ (y : V). o.at_most (right o m (values es) k) y ≡ b) e
        (subst (λ (p : ℕ × Entry V). Under (values es) b p) (get_or-enumerate_from 0 es k (0, d) lt ∙ ap (λ (j : ℕ). (j, get_or es k d)) z) (f (0, d)) (subst (λ (y : V). Made o most_items y) (sym e) (made_more o l most_items (omega arith) (h k))))

    -- the settled test of all of them
    pub settled_all : length es ≡ length m → (r : Bool) →
        MatchBool r (AllWithin (Under (values es) true) (enumerate_from 0 es) 0 (length (enumerate_from 0 es))) ((k : ℕ) × (k < length (enumerate_from 0 es)) × HoldsAt (Under (values es) false) (enumerate_from 0 es) k) →
        (r ≡ true) ↔ Settled o m (values es)
    settled_all len true all = (λ e u lt. under_at true u (omega arith) (λ d. all u d (omega arith) (let n = length-enumerate_from 0 es in omega arith)), λ s. refl)
    settled_all len false w =
        let n = length-enumerate_from 0 es in
        let lt : w.0 < length es = omega (arith, w.1) in (
          λ e. absurd (false≢true e),
          λ s. absurd (true≢false (sym (s w.0 (omega arith)) ∙ under_at false w.0 lt w.2)),
        )
