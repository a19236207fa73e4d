-- the order of values, the smaller and the greater, sums of weights and shifts
use Rattle.std.proofs.Common.{◌≡◌, ℕ, zero, suc, ◌≤◌, Bool, true, false, ◌⊎◌, sym, refl, ap, ◌∙◌, subst, inl, inr, ⊎_elim, true≢false, le_of_suc-le-suc, not-suc-le-zero}
use Rattle.std.proofs.lemmas.Bool.{cases_Bool, cond_both}
use mathlib.Core.Bool.{Bool-set}
use Rattle.kinds.specs.Limits.{most_items}
use Rattle.kinds.specs.Kinds.{Ops, Laws, Sum, Less}
use Rattle.kinds.specs.Kinds.Sum.{none, one, more}
use Rattle.books.specs.Books.{smaller, greater}

abbrev pub Le : {V W : Type 0} → Ops V W → V → V → Type 0
Le o x y = o.at_most x y ≡ true

pub never_both : {b : Bool} → b ≡ true → b ≡ false → ⊥
never_both p q = true≢false (sym p ∙ q)

pub le_prop : {V W : Type 0} (o : Ops V W) (x y : V) → IsProp (Le o x y)
le_prop o x y = Bool-set (o.at_most x y) true

module _ {V W : Type 0} (o : Ops V W) (l : Laws o) where
  pub le_or_lt : (x y : V) → (Le o x y) ⊎ (Less o y x)
  le_or_lt x y = cases_Bool (o.at_most x y)

  pub lt_le : {x y : V} → Less o x y → Le o x y
  lt_le {x} {y} h = ⊎_elim (λ p. p) (λ q. absurd (never_both q h)) (l.total x y)

  pub le_of_eq : {x y : V} → x ≡ y → Le o x y
  le_of_eq {x} {y} e = subst (λ (z : V). Le o x z) e (l.reflexive x)

  pub le_trans : {x y z : V} → Le o x y → Le o y z → Le o x z
  le_trans {x} {y} {z} p q = l.transitive x y z p q

  pub lt_of_lt_le : {x y z : V} → Less o x y → Le o y z → Less o x z
  lt_of_lt_le {x} {y} {z} p q = ⊎_elim (λ (r : Le o z x). absurd (never_both (l.transitive y z x q r) p)) (λ r. r) (cases_Bool (o.at_most z x))

  pub lt_of_le_lt : {x y z : V} → Le o x y → Less o y z → Less o x z
  lt_of_le_lt {x} {y} {z} p q = ⊎_elim (λ (r : Le o z x). absurd (never_both (l.transitive z x y r p) q)) (λ r. r) (cases_Bool (o.at_most z x))

  pub lt_irrefl : {x : V} → Less o x x → ⊥
  lt_irrefl {x} p = never_both (l.reflexive x) p

  pub not_least : {x y : V} → Less o x y → y ≡ o.least → ⊥
  not_least {x} {y} p e = never_both (l.bottom x) (subst (λ (z : V). Less o x z) e p)

  pub above_least : {x : V} → (x ≡ o.least → ⊥) → Less o o.least x
  above_least {x} n = ⊎_elim (λ (r : Le o x o.least). absurd (n (l.antisymmetric x o.least r (l.bottom x)))) (λ r. r) (cases_Bool (o.at_most x o.least))

  pub stays_above : {x y : V} → (x ≡ o.least → ⊥) → Le o x y → y ≡ o.least → ⊥
  stays_above n p = not_least (lt_of_lt_le (above_least n) p)

  pub least_or_not : (x : V) → (x ≡ o.least) ⊎ (x ≡ o.least → ⊥)
  least_or_not x = ⊎_elim (λ (r : Le o x o.least). inl (l.antisymmetric x o.least r (l.bottom x))) (λ r. inr (not_least r)) (le_or_lt x o.least)

  pub greatest_or_not : (x : V) → (x ≡ o.greatest) ⊎ (x ≡ o.greatest → ⊥)
  greatest_or_not x = ⊎_elim (λ (r : Le o o.greatest x). inl (l.antisymmetric x o.greatest (l.top x) r))
      (λ r. inr (λ e. lt_irrefl (subst (λ (z : V). Less o z o.greatest) e r))) (le_or_lt o.greatest x)

  -- the smaller and the greater of two values
  pub smaller_left : (x y : V) → Le o (smaller o x y) x
  smaller_left x y = cond_both (o.at_most x y) x y (λ z. Le o z x) (λ e. l.reflexive x) lt_le

  pub smaller_right : (x y : V) → Le o (smaller o x y) y
  smaller_right x y = cond_both (o.at_most x y) x y (λ z. Le o z y) (λ e. e) (λ e. l.reflexive y)

  pub smaller_either : (x y : V) → (smaller o x y ≡ x) ⊎ (smaller o x y ≡ y)
  smaller_either x y = cond_both (o.at_most x y) x y (λ z. (z ≡ x) ⊎ (z ≡ y)) (λ e. inl refl) (λ e. inr refl)

  pub greater_left : (x y : V) → Le o x (greater o x y)
  greater_left x y = cond_both (o.at_most y x) x y (Le o x) (λ e. l.reflexive x) lt_le

  pub greater_right : (x y : V) → Le o y (greater o x y)
  greater_right x y = cond_both (o.at_most y x) x y (Le o y) (λ e. e) (λ e. l.reflexive y)

  pub greater_either : (x y : V) → (greater o x y ≡ x) ⊎ (greater o x y ≡ y)
  greater_either x y = cond_both (o.at_most y x) x y (λ z. (z ≡ x) ⊎ (z ≡ y)) (λ e. inl refl) (λ e. inr refl)

  -- sums
  pub sum_more : {a : ℕ} {w : W} (b : ℕ) → a ≤ b → Sum o a w → Sum o b w
  sum_more b h none = none
  sum_more zero h (one p) = absurd (not-suc-le-zero h)
  sum_more (suc b) h (one p) = one p
  sum_more zero h (more p s) = absurd (not-suc-le-zero h)
  sum_more (suc b) h (more p s) = more p (sum_more b (le_of_suc-le-suc h) s)

  pub sum_one : {w : W} → o.light w ≡ true → Sum o 1 w
  sum_one {w} p = one p

  -- shifts
  module _ {w : W} (s : Sum o most_items w) where
    pub shift_mono : {x y : V} → Le o x y → Le o (o.shift x w) (o.shift y w)
    shift_mono {x} {y} p =
        ⊎_elim (λ (q : Le o y x). le_of_eq (ap (λ (z : V). o.shift z w) (l.antisymmetric x y p q)))
        (λ (q : Less o x y). lt_le (l.shift_strict x y w s q)) (le_or_lt y x)

    pub shift_keeps_least : {x : V} → (o.shift x w ≡ o.least → ⊥) → x ≡ o.least → ⊥
    shift_keeps_least {x} n e = n (ap (λ (z : V). o.shift z w) e ∙ l.shift_least w s)

    -- a value that its shift raises is proper, and the weight is greater than zero
    pub raised : {x : V} → Less o x (o.shift x w) → o.lighter w o.zero ≡ false
    raised {x} h = (l.raises x w s (not_low, not_high)).0 h
      where
        not_low : x ≡ o.least → ⊥
        not_low e = not_least h (ap (λ (z : V). o.shift z w) e ∙ l.shift_least w s)

        not_high : x ≡ o.greatest → ⊥
        not_high e = never_both (l.top (o.shift x w)) (subst (λ (z : V). Less o z (o.shift x w)) e h)

    -- a weight greater than zero never lowers
    pub never_lowers : o.lighter w o.zero ≡ false → (x : V) → Le o x (o.shift x w)
    never_lowers h x =
        ⊎_elim (λ (e : x ≡ o.least). subst (λ (z : V). Le o z (o.shift x w)) (sym e) (l.bottom _))
        (λ (n : x ≡ o.least → ⊥).
        ⊎_elim (λ (e : x ≡ o.greatest). le_of_eq (e ∙ sym (l.shift_greatest w s) ∙ ap (λ (z : V). o.shift z w) (sym e)))
        (λ (g : x ≡ o.greatest → ⊥). lt_le ((l.raises x w s (n, g)).1 h)) (greatest_or_not x))
        (least_or_not x)

    -- a value above least that such a weight does not raise is the greatest
    pub not_raised : o.lighter w o.zero ≡ false → (x : V) → (x ≡ o.least → ⊥) → Le o (o.shift x w) x → x ≡ o.greatest
    not_raised h x n p =
        ⊎_elim (λ (e : x ≡ o.greatest). e)
        (λ (g : x ≡ o.greatest → ⊥). absurd (never_both p ((l.raises x w s (n, g)).1 h))) (greatest_or_not x)
