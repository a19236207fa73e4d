-- One word of a one-pass reader: what is left to refuse does not change over a word that passes.
use Rattle.std.proofs.Common.{◌≡◌, ℕ, zero, suc, Bool, true, false, cond, List, ◌∷◌, Some, None, Option, ap, ◌∙◌}
use Rattle.lexer.specs.Words.{Word, Text, place}
use Rattle.lexer.specs.Words.Text.{reads}
use Rattle.language_theory.specs.Names.{rule, next_is_bracket}
use Rattle.language_theory.specs.Expected.{Expect, step, Refusal, refusal, refuse}

abbrev pub by_rule : List Word → Word → Text → List Expect → ℕ → Option Refusal
by_rule past w t k₂ m = elim m [ zero ↦ refusal k₂ (w ∷ past) t | suc n ↦ refuse (suc n) (place w) ]

abbrev pub by_step : List Word → Word → Text → Option (List Expect) → Option Refusal
by_step past w t o =
    elim o [
      | None ↦ refuse 5 (place w)
      | Some k₂ ↦ elim (rule past w (next_is_bracket t)) [ zero ↦ refusal k₂ (w ∷ past) t | suc n ↦ refuse (suc n) (place w) ]
    ]

pub pass_word : (k : List Expect) (past : List Word) (w : Word) (t : Text) (k₂ : List Expect) → step k w ≡ Some k₂ → rule past w (next_is_bracket t) ≡ 0 →
    refusal k past (reads w t) ≡ refusal k₂ (w ∷ past) t
pass_word k past w t k₂ e f = ap (by_step past w t) e ∙ ap (by_rule past w t k₂) f

pub unfit_word : (k : List Expect) (past : List Word) (w : Word) (t : Text) → step k w ≡ None → refusal k past (reads w t) ≡ refuse 5 (place w)
unfit_word k past w t e = ap (by_step past w t) e

pub broken_word : (k : List Expect) (past : List Word) (w : Word) (t : Text) (k₂ : List Expect) (n : ℕ) → step k w ≡ Some k₂ → rule past w (next_is_bracket t) ≡ suc n →
    refusal k past (reads w t) ≡ refuse (suc n) (place w)
broken_word k past w t k₂ n e f = ap (by_step past w t) e ∙ ap (by_rule past w t k₂) f

-- a word at which one rule decides
pub decided_word : (k : List Expect) (past : List Word) (w : Word) (t : Text) (k₂ : List Expect) (n : ℕ) (b : Bool) → step k w ≡ Some k₂ →
    rule past w (next_is_bracket t) ≡ cond b (suc n) 0 → refusal k past (reads w t) ≡ cond b (refuse (suc n) (place w)) (refusal k₂ (w ∷ past) t)
decided_word k past w t k₂ n true e f = broken_word k past w t k₂ n e f
decided_word k past w t k₂ n false e f = pass_word k past w t k₂ e f
