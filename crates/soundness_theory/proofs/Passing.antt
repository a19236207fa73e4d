-- What an edge makes of the pairs at the point where it begins: where all of them meet, all that it makes meet or all are least; where all are least, so is what it makes.
use Rattle.std.proofs.Common.{◌≡◌, ℕ, ◌<◌, Bool, true, false, cond, eqb, ◌⊎◌, List, ℤ, pos, neg_ℤ, sym, refl, ap, ◌∙◌, subst, ⊎_elim, inl, inr, eqb-true}
use Rattle.std.proofs.lemmas.Bool.{cases_Bool, cond_both, eqb-false}
use Rattle.std.specs.Prelude.{int_le}
use Rattle.kinds.specs.Values.{under, moved, added, reaches, bounds}
use Rattle.kinds.specs.declared.bound.Bound.{Bound}
use Rattle.kinds.specs.declared.bound.Bound.TheVariants.{Least, Whole}
use Rattle.books.specs.Books.{at, holds, terms, worth}
use Rattle.books.specs.declared.Term.{Term}
use Rattle.books.specs.declared.Term.TheVariants.{Constant, Shifted}
use Rattle.books.specs.declared.Test.{Test}
use Rattle.books.specs.declared.Terms.{Terms}
use Rattle.books.specs.declared.Terms.TheVariants.{One, Two}
use Rattle.books.specs.declared.Alternative.{Alternative}
use Rattle.language_theory.specs.declared.Action.{Action}
use Rattle.language_theory.specs.declared.Action.TheVariants.{Skip, Assign, Assume}
use Rattle.language_theory.specs.declared.Guard.{Guard}
use Rattle.language_theory.specs.declared.Guard.TheVariants.{AtMost, AtLeast, Difference}
use Rattle.language_theory.specs.declared.Value.{Value}
use Rattle.language_theory.specs.declared.Value.TheVariants.{AnyOf, TableEntry, Sum, Negation}
use Rattle.language_theory.specs.WellFormed.{ValueFits, GuardFits, ActionFits}
use Rattle.script_equations_theory.specs.Bounds.{under_test, as_is, copied, upper, lower, reached, given, limited, can_hold, upper_assigned, upper_assumed, upper_of, lower_assigned, lower_assumed, lower_of}
use Rattle.script_equations_theory.proofs.Lists.{by_eq}
use Rattle.soundness_theory.proofs.Meeting.{Meets, meets_moved, meets_swap, meets_smaller, meets_smaller', range_meets, at_most_meets, at_least_meets, before_meets}

-- two choices by whether the same two numbers are equal
by_eq₂ : {X : Type 0} (P : X → X → Type 0) (v k : ℕ) (a b c d : X) → (v ≡ k → P a c) → ((v ≡ k → ⊥) → P b d) → P (cond (eqb v k) a b) (cond (eqb v k) c d)
by_eq₂ P v k a b c d f g = go (eqb v k) refl
  where
    go : (t : Bool) → eqb v k ≡ t → P (cond t a b) (cond t c d)
    go true e = f (eqb-true v k e)
    go false e = g (eqb-false v k e)

module _ (n : ℕ) (y : List Bound) (q : ℕ) where
  abbrev U : ℕ → Bound
  U v = at bounds y (upper n q v)

  abbrev L : ℕ → Bound
  L v = at bounds y (lower n q v)

  abbrev value : Alternative Bound ℤ → Bound
  value a = worth bounds y a

  abbrev Both : Alternative Bound ℤ → Alternative Bound ℤ → Type 0
  Both a b = Meets (value a) (value b)

  abbrev Neither : Alternative Bound ℤ → Alternative Bound ℤ → Type 0
  Neither a b = (value a ≡ Least) × (value b ≡ Least)

  -- what an edge with this action makes of each variable meets, or is least
  abbrev pub Passes : Action → Type 0
  Passes a = (v : ℕ) → v < n → Both (upper_of n q v a) (lower_of n q v a)

  abbrev pub Blocked : Action → Type 0
  Blocked a = (v : ℕ) → v < n → Neither (upper_of n q v a) (lower_of n q v a)

  -- under a test
  when_true : (t : Test Bound) (a b : Terms Bound ℤ) → holds bounds y t ≡ true → Meets (terms bounds y a) (terms bounds y b) → Both (under_test t a) (under_test t b)
  when_true t a b e h = subst (λ (c : Bool). Meets (cond c (terms bounds y a) Least) (cond c (terms bounds y b) Least)) (sym e) h

  when_false : (t : Test Bound) (a b : Terms Bound ℤ) → holds bounds y t ≡ false → Neither (under_test t a) (under_test t b)
  when_false t a b e = (ap (λ (c : Bool). cond c (terms bounds y a) Least) e, ap (λ (c : Bool). cond c (terms bounds y b) Least) e)

  -- U and L of v where a guard limits U of i, or L
  abbrev limited_upper : ℕ → ℕ → Term Bound ℤ → Terms Bound ℤ
  limited_upper v i r = limited (eqb v i) (upper n q v) r

  abbrev limited_lower : ℕ → ℕ → Term Bound ℤ → Terms Bound ℤ
  limited_lower v i r = limited (eqb v i) (lower n q v) r

  -- a guard whose test fails
  guard_blocked : (g : Guard) → holds bounds y (can_hold n q g) ≡ false → Blocked (Assume g)
  guard_blocked g e v hv = when_false (can_hold n q g) (upper_assumed n q v g) (lower_assumed n q v g) e

  module _ (good : (v : ℕ) → v < n → Meets (U v) (L v)) where
    copies : (v : ℕ) → v < n → Both (copied (upper n q v)) (copied (lower n q v))
    copies v h = meets_moved (U v) (L v) (pos 0) (good v h)

    -- a variable k gets a new pair, the others keep theirs
    sets : (k : ℕ) (a b : Alternative Bound ℤ) → Both a b → (v : ℕ) → v < n → Both (cond (eqb v k) a (copied (upper n q v))) (cond (eqb v k) b (copied (lower n q v)))
    sets k a b h v hv = by_eq₂ Both v k a (copied (upper n q v)) b (copied (lower n q v)) (λ e. h) (λ e. copies v hv)

    -- any number of a range
    gives : (k : ℕ) (a b : ℤ) → k < n → int_le a b ≡ true → Both (given n q k b) (given n q k (neg_ℤ a))
    gives k a b hk h = when_true (reached n q k) (One (Constant (Whole b))) (One (Constant (Whole (neg_ℤ a)))) (good k hk) (range_meets a b h)

    -- U of v where U of i is limited by a term that meets L of i, and the same of L
    limits_upper : (i : ℕ) (r : Term Bound ℤ) → Meets (terms bounds y (One r)) (moved (L i) (pos 0)) → (v : ℕ) → v < n → Meets (terms bounds y (limited_upper v i r)) (moved (L v) (pos 0))
    limits_upper i r h v hv = by_eq (λ (ts : Terms Bound ℤ). Meets (terms bounds y ts) (moved (L v) (pos 0))) v i (Two (as_is (upper n q v)) r) (One (as_is (upper n q v)))
        (λ e. meets_smaller (moved (U v) (pos 0)) (terms bounds y (One r)) (moved (L v) (pos 0)) (copies v hv) (subst (λ (j : ℕ). Meets (terms bounds y (One r)) (moved (L j) (pos 0))) (sym e) h))
        (λ e. copies v hv)

    limits_lower : (i : ℕ) (r : Term Bound ℤ) → Meets (moved (U i) (pos 0)) (terms bounds y (One r)) → (v : ℕ) → v < n → Meets (moved (U v) (pos 0)) (terms bounds y (limited_lower v i r))
    limits_lower i r h v hv = by_eq (λ (ts : Terms Bound ℤ). Meets (moved (U v) (pos 0)) (terms bounds y ts)) v i (Two (as_is (lower n q v)) r) (One (as_is (lower n q v)))
        (λ e. meets_smaller' (moved (U v) (pos 0)) (moved (L v) (pos 0)) (terms bounds y (One r)) (copies v hv) (subst (λ (j : ℕ). Meets (moved (U j) (pos 0)) (terms bounds y (One r))) (sym e) h))
        (λ e. copies v hv)

    -- no variable is limited on both sides
    limits_one : (i k : ℕ) → (i ≡ k → ⊥) → (r s : Term Bound ℤ) → Meets (terms bounds y (One r)) (moved (L i) (pos 0)) → Meets (moved (U k) (pos 0)) (terms bounds y (One s)) →
        (v : ℕ) → v < n → Meets (terms bounds y (limited_upper v i r)) (terms bounds y (limited_lower v k s))
    limits_one i k ne r s h g v hv = cond_both (eqb v k) (Two (as_is (lower n q v)) s) (One (as_is (lower n q v))) (λ (ts : Terms Bound ℤ). Meets (terms bounds y (limited_upper v i r)) (terms bounds y ts))
        (λ e. subst (λ (b : Bool). Meets (terms bounds y (cond b (Two (as_is (upper n q v)) r) (One (as_is (upper n q v))))) (terms bounds y (Two (as_is (lower n q v)) s)))
        (sym (apart e)) (meets_smaller' (moved (U v) (pos 0)) (moved (L v) (pos 0)) (terms bounds y (One s)) (copies v hv) (subst (λ (j : ℕ). Meets (moved (U j) (pos 0)) (terms bounds y (One s))) (sym (eqb-true v k e)) g)))
        (λ e. limits_upper i r h v hv)
      where
        apart : eqb v k ≡ true → eqb v i ≡ false
        apart e = ⊎_elim (λ (f : eqb v i ≡ true). absurd (ne (sym (eqb-true v i f) ∙ eqb-true v k e))) (λ f. f) (cases_Bool (eqb v i))

    -- what is given to a variable, and where a guard's test holds what it leaves
    value_passes : (k : ℕ) → k < n → (x : Value) → ValueFits n x → Both (upper_assigned n q k x) (lower_assigned n q k x)
    value_passes k h (AnyOf r s) f = gives k r.low r.high h f.rises
    value_passes k h (TableEntry i r) f = gives k r.low r.high h f.1.rises
    value_passes k h (Sum i c) f = meets_moved (U i) (L i) c (good i f.0)
    value_passes k h (Negation i) f = meets_swap (moved (U i) (pos 0)) (moved (L i) (pos 0)) (copies i f)

    guard_passes : (g : Guard) → GuardFits n g → holds bounds y (can_hold n q g) ≡ true → (v : ℕ) → v < n → Meets (terms bounds y (upper_assumed n q v g)) (terms bounds y (lower_assumed n q v g))
    guard_passes (AtMost i c) f e = limits_upper i (Constant (Whole c)) (at_most_meets c (L i) e)
    guard_passes (AtLeast i c) f e = limits_lower i (Constant (Whole (neg_ℤ c))) (at_least_meets c (U i) e)
    guard_passes (Difference i k d) f e =
        let h = before_meets (U k) (L i) d e in
        limits_one i k f.2 (Shifted (upper n q k) d) (Shifted (lower n q i) d) h.0 h.1

    -- from a point where all pairs meet
    pub passes : (a : Action) → ActionFits n a → Passes a ⊎ Blocked a
    passes Skip f = inl copies
    passes (Assign k x) f = inl (sets k (upper_assigned n q k x) (lower_assigned n q k x) (value_passes k f.0 x f.1))
    passes (Assume g) f = ⊎_elim (λ e. inl (λ v hv. when_true (can_hold n q g) (upper_assumed n q v g) (lower_assumed n q v g) e (guard_passes g f e v hv))) (λ e. inr (guard_blocked g e))
        (cases_Bool (holds bounds y (can_hold n q g)))

  module _ (ul : (v : ℕ) → v < n → U v ≡ Least) (ll : (v : ℕ) → v < n → L v ≡ Least) where
    low_u : (i : ℕ) (c : ℤ) → i < n → moved (U i) c ≡ Least
    low_u i c h = ap (λ (b : Bound). moved b c) (ul i h)

    low_l : (i : ℕ) (c : ℤ) → i < n → moved (L i) c ≡ Least
    low_l i c h = ap (λ (b : Bound). moved b c) (ll i h)

    leaves : (k : ℕ) (a b : Alternative Bound ℤ) → Neither a b → (v : ℕ) → v < n → Neither (cond (eqb v k) a (copied (upper n q v))) (cond (eqb v k) b (copied (lower n q v)))
    leaves k a b h v hv = by_eq₂ Neither v k a (copied (upper n q v)) b (copied (lower n q v)) (λ e. h) (λ e. (low_u v (pos 0) hv, low_l v (pos 0) hv))

    gives_none : (k : ℕ) (a b : ℤ) → k < n → Neither (given n q k b) (given n q k a)
    gives_none k a b h = when_false (reached n q k) (One (Constant (Whole b))) (One (Constant (Whole a))) (ap (λ (x : Bound). reaches (added x (L k)) (Whole (pos 0))) (ul k h))

    value_blocked : (k : ℕ) → k < n → (x : Value) → ValueFits n x → Neither (upper_assigned n q k x) (lower_assigned n q k x)
    value_blocked k h (AnyOf r s) f = gives_none k (neg_ℤ r.low) r.high h
    value_blocked k h (TableEntry i r) f = gives_none k (neg_ℤ r.low) r.high h
    value_blocked k h (Sum i c) f = (low_u i c f.0, low_l i (neg_ℤ c) f.0)
    value_blocked k h (Negation i) f = (low_l i (pos 0) f, low_u i (pos 0) f)

    guard_fails : (g : Guard) → GuardFits n g → holds bounds y (can_hold n q g) ≡ false
    guard_fails (AtMost i c) f = ap (λ (x : Bound). under (Whole (neg_ℤ c)) x) (ll i f.0)
    guard_fails (AtLeast i c) f = ap (λ (x : Bound). under (Whole c) x) (ul i f.0)
    guard_fails (Difference i k d) f = ap (λ (x : Bound). reaches (added x (U k)) (Whole (neg_ℤ d))) (ll i f.0)

    -- from a point where all are least
    pub blocked : (a : Action) → ActionFits n a → Blocked a
    blocked Skip f = λ v hv. (low_u v (pos 0) hv, low_l v (pos 0) hv)
    blocked (Assign k x) f = leaves k (upper_assigned n q k x) (lower_assigned n q k x) (value_blocked k f.0 x f.1)
    blocked (Assume g) f = guard_blocked g (guard_fails g f)
