-- terms, tests and the worth of an alternative
use Rattle.std.proofs.Common.{◌≡◌, ℕ, zero, suc, Bool, true, false, cond, ◌⊎◌, List, [], ◌∷◌, Some, None, Option, sym, refl, ap, subst, inl, inr, ⊎_elim, arith}
use Rattle.kinds.specs.Limits.{most_items}
use Rattle.kinds.specs.Kinds.{Ops, Laws, Sum}
use Rattle.books.specs.Books.{at, holds, term, terms, worth, best, nth}
use Rattle.books.specs.Forms.{Among, Light}
use Rattle.books.specs.Forms.Among.{only, first, second}
use Rattle.books.specs.declared.Term.{Term}
use Rattle.books.specs.declared.Term.TheVariants.{Constant, Shifted}
use Rattle.books.specs.declared.Terms.{Terms}
use Rattle.books.specs.declared.Terms.TheVariants.{One, Two}
use Rattle.books.specs.declared.Test.{Test}
use Rattle.books.specs.declared.Test.TheVariants.{Always, Single, Joint}
use Rattle.books.specs.declared.Alternative.{Alternative}
use Rattle.std.proofs.lemmas.Bool.{cases_Bool}
use Rattle.books.proofs.Order.{Le, le_of_eq, le_trans, smaller_left, smaller_right, smaller_either, greater_left, greater_right, sum_more, sum_one, shift_mono}

pub no_option : {A : Type 0} {a : A} → None ≡ Some a → ⊥
no_option {A} {a} e = subst code e tt
  where
    code : Option A → Type 0
    code None = Unit {0}
    code (Some b) = ⊥

pub option_cases : {A : Type 0} (x : Option A) → (x ≡ None) ⊎ ((a : A) × (x ≡ Some a))
option_cases None = inl refl
option_cases (Some a) = inr (a, refl)

module _ {V W : Type 0} (o : Ops V W) (l : Laws o) where
  pub sum_light : {w : W} → o.light w ≡ true → Sum o most_items w
  sum_light p = sum_more o l most_items (omega arith) (sum_one o l p)

  -- x lies at or below y
  abbrev pub Under : List V → List V → Type 0
  Under x y = (u : ℕ) → Le o (at o x u) (at o y u)

  pub terms_under : (x : List V) {t : Term V W} {ts : Terms V W} → Among t ts → Le o (terms o x ts) (term o x t)
  terms_under x {t} only = l.reflexive _
  terms_under x {t} (first {s = s}) = smaller_left o l (term o x t) (term o x s)
  terms_under x {t} (second {s = s}) = smaller_right o l (term o x s) (term o x t)

  pub terms_met : (x : List V) (ts : Terms V W) → (t : Term V W) × Among t ts × (terms o x ts ≡ term o x t)
  terms_met x (One t) = (t, only, refl)
  terms_met x (Two t s) = go (smaller_either o l (term o x t) (term o x s))
    where
      go : (terms o x (Two t s) ≡ term o x t) ⊎ (terms o x (Two t s) ≡ term o x s) → (r : Term V W) × Among r (Two t s) × (terms o x (Two t s) ≡ term o x r)
      go (inl e) = (t, first, e)
      go (inr e) = (s, second, e)

  pub term_mono : (x y : List V) → Under x y → (t : Term V W) {ts : Terms V W} → Light o ts → Among t ts → Le o (term o x t) (term o y t)
  term_mono x y h (Constant e) li am = l.reflexive e
  term_mono x y h (Shifted v w) li am = shift_mono o l (sum_light (li v w am)) (h v)

  pub terms_mono : (x y : List V) → Under x y → (ts : Terms V W) → Light o ts → Le o (terms o x ts) (terms o y ts)
  terms_mono x y h ts li =
      let r = terms_met y ts in
      le_trans o l (terms_under x r.1) (le_trans o l (term_mono x y h r.0 li r.1) (le_of_eq o l (sym r.2)))

  pub holds_mono : (x y : List V) → Under x y → (t : Test V) → holds o x t ≡ true → holds o y t ≡ true
  holds_mono x y h Always p = refl
  holds_mono x y h (Single u t) p = le_trans o l p (h u)
  holds_mono x y h (Joint u v t) p = l.joint_rises (at o x u) (at o x v) (at o y u) (at o y v) t (h u) (h v) p

  pub worth_is : (x : List V) (a : Alternative V W) → holds o x a.test ≡ true → worth o x a ≡ terms o x a.terms
  worth_is x a p = ap (λ (b : Bool). cond b (terms o x a.terms) o.least) p

  pub worth_above : (x : List V) (a : Alternative V W) → (worth o x a ≡ o.least → ⊥) → holds o x a.test ≡ true
  worth_above x a n = ⊎_elim (λ p. p) (λ (q : holds o x a.test ≡ false). absurd (n (ap (λ (b : Bool). cond b (terms o x a.terms) o.least) q))) (cases_Bool (holds o x a.test))

  pub best_over : (x : List V) (bs : List (Alternative V W)) (k : ℕ) (a : Alternative V W) → nth bs k ≡ Some a → Le o (worth o x a) (best o x bs)
  best_over x [] k a e = absurd (no_option e)
  best_over x (b ∷ bs) zero a e = subst (λ (c : Option (Alternative V W)). Le o (value c) (best o x (b ∷ bs))) e (greater_left o l _ _)
    where
      value : Option (Alternative V W) → V
      value None = o.least
      value (Some c) = worth o x c
  best_over x (b ∷ bs) (suc k) a e = le_trans o l (best_over x bs k a e) (greater_right o l (worth o x b) (best o x bs))
