-- Constants and ranges, passed or refused.
use Rattle.std.proofs.Common.{◌≡◌, ℕ, Bool, true, false, cond, List, [], ◌∷◌, ◌++◌, ℤ, pos, neg_ℤ, sym, refl, ap, ◌∙◌, subst, append_assoc}
use lib.Signed.{lt_z}
use Rattle.base.specs.declared.Place.{Place}
use Rattle.base.specs.declared.Refusal.{Refusal}
use Rattle.lexer.specs.Words.{Word, Text}
use Rattle.lexer.specs.Words.Word.{number, mark}
use Rattle.lexer.specs.Words.Text.{reads}
use Rattle.lexer.specs.declared.Mark.TheVariants.{Dots, Minus}
use Rattle.language_theory.specs.Grammar.{Const}
use Rattle.language_theory.specs.Grammar.Const.{plain as a_plain, signed as a_signed}
use Rattle.language_theory.specs.Grammar.Span.{span as a_span}
use Rattle.language_theory.specs.Names.{signed as with_sign, next_is_bracket}
use Rattle.language_theory.specs.Expected.{Expect, one, refusal, refuse}
use Rattle.language_theory.specs.Expected.Expect.{just, span, const}
use Rattle.language_theory.specs.Expected.Terminal.{any_number}
use Rattle.language_theory.specs.Readings.{before, passed, first_is, Refuses, Anywhere, Alike, Over, Spells, Constant, Quiet, is_span}
use Rattle.language_theory.specs.Readings.Spells.{plain, signed}
use Rattle.language_theory.proofs.Passing.{pass_word, decided_word}
use Rattle.language_theory.proofs.Steps.{before-++, passed-++, plain_const, span_const}
use Rattle.language_theory.proofs.Pasts.{quiet_rule, quiet_signed}

pub const_derived : {ws : List Word} {z : ℤ} {p : Place} → Spells ws z p → (r : List Word) → Const (ws ++ r) r z
const_derived plain r = a_plain
const_derived signed r = a_signed

pub const_alike : {ws : List Word} {z : ℤ} {p : Place} → Spells ws z p → (past : List Word) → Alike (passed ws past) past
const_alike plain past = record { vars = refl; tabs = refl; lev = refl }
const_alike signed past = record { vars = refl; tabs = refl; lev = refl }

const_passes : {ws : List Word} {z : ℤ} {p : Place} → Spells ws z p → (k : List Expect) (past : List Word) (t : Text) → Quiet past →
    refusal (const ∷ k) past (before ws t) ≡ refusal k (passed ws past) t
const_passes (plain {n = n} {p = p}) k past t q = pass_word (const ∷ k) past (number n p) t k refl (quiet_rule past n p (next_is_bracket t) q)
const_passes (signed {n = n} {p = p} {q = s}) k past t q =
    pass_word (just any_number ∷ k) (mark Minus s ∷ past) (number n p) t k refl (quiet_signed past s n p (next_is_bracket t) q)

pub const_goes : {z : ℤ} {p : Place} {t t₂ : Text} (c : Constant z p t t₂) (k : List Expect) (past : List Word) → Quiet past →
    refusal (const ∷ k) past t ≡ refusal k (passed c.words past) t₂
const_goes {t₂ = t₂} c k past q = ap (refusal (const ∷ k) past) c.joined ∙ const_passes c.spells k past t₂ q

-- a plain constant, and one with a sign
pub constant_plain : (n : ℕ) (p : Place) (z : ℤ) (t t₂ : Text) → z ≡ pos n → t ≡ reads (number n p) t₂ → Constant z p t t₂
constant_plain n p z t t₂ e f = record { words = number n p ∷ []; joined = f; spells = subst (λ (x : ℤ). Spells (number n p ∷ []) x p) (sym e) plain }

pub constant_signed : (n : ℕ) (p s : Place) (z : ℤ) (t t₁ t₂ : Text) → z ≡ neg_ℤ (pos n) → t ≡ reads (mark Minus s) t₁ → t₁ ≡ reads (number n p) t₂ → Constant z p t t₂
constant_signed n p s z t t₁ t₂ e f g =
    record {
      words = mark Minus s ∷ number n p ∷ [];
      joined = f ∙ ap (reads (mark Minus s)) g;
      spells = subst (λ (x : ℤ). Spells (mark Minus s ∷ number n p ∷ []) x p) (sym e) signed;
    }

pub refuses_plain : (t : Text) (r : Refusal) → first_is Minus t ≡ false → Refuses (just any_number ∷ []) Anywhere t r → Refuses (const ∷ []) Anywhere t r
refuses_plain t r e h k past u = plain_const k past t e ∙ h k past u

pub refuses_signed : (s : Place) (t t₁ : Text) (r : Refusal) → t ≡ reads (mark Minus s) t₁ → Refuses (just any_number ∷ []) Anywhere t₁ r → Refuses (const ∷ []) Anywhere t r
refuses_signed s t t₁ r e h k past u = ap (refusal (const ∷ k) past) e ∙ h k (mark Minus s ∷ past) u

-- the second constant of a range
at_second : {ws ws₂ : List Word} {a b : ℤ} {p q : Place} → Spells ws a p → Spells ws₂ b q → (d : Place) (k : List Expect) (past : List Word) (t : Text) → Quiet past →
    refusal (const ∷ k) (mark Dots d ∷ passed ws past) (before ws₂ t) ≡ cond (lt_z b a) (refuse 9 q) (refusal k (passed ws₂ (mark Dots d ∷ passed ws past)) t)
at_second (plain {n = n} {p = p}) (plain {n = m} {p = q}) d k past t y =
    decided_word (const ∷ k) (mark Dots d ∷ number n p ∷ past) (number m q) t k 8 (lt_z (pos m) (pos n)) refl
    (ap (λ (s : Bool). cond (lt_z (pos m) (with_sign s n)) 9 0) y.minus)
at_second (plain {n = n} {p = p}) (signed {n = m} {p = q} {q = s}) d k past t y =
    decided_word (just any_number ∷ k) (mark Minus s ∷ mark Dots d ∷ number n p ∷ past) (number m q) t k 8 (lt_z (neg_ℤ (pos m)) (pos n)) refl
    (ap (λ (s : Bool). cond (lt_z (neg_ℤ (pos m)) (with_sign s n)) 9 0) y.minus)
at_second (signed {n = n} {p = p} {q = o}) (plain {n = m} {p = q}) d k past t y =
    decided_word (const ∷ k) (mark Dots d ∷ number n p ∷ mark Minus o ∷ past) (number m q) t k 8 (lt_z (pos m) (neg_ℤ (pos n))) refl refl
at_second (signed {n = n} {p = p} {q = o}) (signed {n = m} {p = q} {q = s}) d k past t y =
    decided_word (just any_number ∷ k) (mark Minus s ∷ mark Dots d ∷ number n p ∷ mark Minus o ∷ past) (number m q) t k 8 (lt_z (neg_ℤ (pos m)) (neg_ℤ (pos n))) refl refl

-- up to the dots, and behind them
pub span_first : {a : ℤ} {p : Place} {t t₁ : Text} (c : Constant a p t t₁) (k : List Expect) (past : List Word) → Quiet past →
    refusal (span ∷ k) past t ≡ refusal (one Dots ∷ const ∷ k) (passed c.words past) t₁
span_first {t = t} c k past q = span_const k past t ∙ const_goes c (one Dots ∷ const ∷ k) past q

pub span_second : {a : ℤ} {p d : Place} {t t₁ t₂ : Text} (first : Constant a p t t₁) → t₁ ≡ reads (mark Dots d) t₂ → (k : List Expect) (past : List Word) → Quiet past →
    refusal (span ∷ k) past t ≡ refusal (const ∷ k) (mark Dots d ∷ passed first.words past) t₂
span_second first e k past y = span_first first k past y ∙ ap (refusal (one Dots ∷ const ∷ k) (passed first.words past)) e

both_alike : {ws ws₂ : List Word} {a b : ℤ} {p q : Place} → Spells ws a p → Spells ws₂ b q → (d : Place) (past : List Word) → Alike (passed ws₂ (mark Dots d ∷ passed ws past)) past
both_alike plain plain d past = record { vars = refl; tabs = refl; lev = refl }
both_alike plain signed d past = record { vars = refl; tabs = refl; lev = refl }
both_alike signed plain d past = record { vars = refl; tabs = refl; lev = refl }
both_alike signed signed d past = record { vars = refl; tabs = refl; lev = refl }

module _ {a b : ℤ} {p q d : Place} {t t₁ t₂ t₃ : Text} (first : Constant a p t t₁) (e : t₁ ≡ reads (mark Dots d) t₂) (second : Constant b q t₂ t₃) where
  span_decided : (x : Bool) → lt_z b a ≡ x → (k : List Expect) (past : List Word) → Quiet past →
      refusal (span ∷ k) past t ≡ cond x (refuse 9 q) (refusal k (passed second.words (mark Dots d ∷ passed first.words past)) t₃)
  span_decided x h k past y =
      span_second first e k past y ∙ ap (refusal (const ∷ k) (mark Dots d ∷ passed first.words past)) second.joined ∙
      at_second first.spells second.spells d k past t₃ y ∙
      ap (λ (v : Bool). cond v (refuse 9 q) (refusal k (passed second.words (mark Dots d ∷ passed first.words past)) t₃)) h

  pub span_falls : lt_z b a ≡ true → (k : List Expect) (past : List Word) → Quiet past → refusal (span ∷ k) past t ≡ refuse 9 q
  span_falls = span_decided true

  pub span_over : lt_z b a ≡ false → Over (span ∷ []) Quiet (is_span (record { low = a; high = b })) t t₃
  span_over h =
      let xs = first.words in
      let ys = second.words in
      record {
        words = xs ++ (mark Dots d ∷ ys);
        joined = first.joined ∙ ap (before xs) (e ∙ ap (reads (mark Dots d)) second.joined) ∙ sym (before-++ xs (mark Dots d ∷ ys) t₃);
        derived = λ r. rw append_assoc (a_span (const_derived first.spells (mark Dots d ∷ (ys ++ r))) (const_derived second.spells r));
        alike = λ past _. rw passed-++ (both_alike first.spells second.spells d past);
        goes = λ k past y. span_decided false h k past y ∙ ap (λ (z : List Word). refusal k z t₃) (sym (passed-++ xs (mark Dots d ∷ ys) past));
      }
