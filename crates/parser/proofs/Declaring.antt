-- Declarations as the reader takes them: up to their ending, and the ending.
use Rattle.std.proofs.Common.{◌≡◌, ℕ, Bool, false, cond, ◌||◌, eqb, ltb, leb, List, [], ◌∷◌, ◌++◌, length, refl, ap, ◌∙◌}
use Rattle.base.specs.declared.Place.{Place}
use Rattle.base.specs.declared.Refusal.{Refusal}
use Rattle.lexer.specs.Words.{Word, Text, among}
use Rattle.lexer.specs.Words.Word.{name, number, mark}
use Rattle.lexer.specs.Words.Text.{reads}
use Rattle.lexer.specs.declared.Mark.TheVariants.{Equals, OpenBracket, CloseBracket, Semicolon, Var, Table}
use Rattle.language_theory.specs.declared.Range.{Range}
use Rattle.language_theory.specs.Graphs.{Variable, Table as ATable, var_names, table_names}
use Rattle.language_theory.specs.Expected.{Expect, one, refusal, refuse}
use Rattle.language_theory.specs.Expected.Terminal.{any_number}
use Rattle.language_theory.specs.Expected.Expect.{just, span}
use Rattle.language_theory.specs.Readings.{Refuses, Anywhere, Over, Quiet, is_span, Starts, varying, tabling}
use Rattle.language_theory.specs.Readings.New.{new_variable, new_table}
use Rattle.language_theory.proofs.Heads.{new_decides}
use Rattle.language_theory.proofs.Passing.{decided_word}
use Rattle.parser.specs.Scripts.{ending, sizing, Sizing}

quiet : (p : Place) (past : List Word) → Quiet (mark Equals p ∷ past)
quiet p past = record { minus = refl; dots = refl; bracket = refl }

-- = range ;
module _ {p : Place} {t t₁ : Text} (e : t ≡ reads (mark Equals p) t₁) where
  pub refuses_ending_range : (r : Refusal) → Refuses (span ∷ []) Quiet t₁ r → Refuses ending Anywhere t r
  refuses_ending_range r h k past y = ap (refusal (ending ++ k) past) e ∙ h (one Semicolon ∷ k) _ (quiet p past)

  pub refuses_ending_last : {g : Range} {t₂ : Text} → Over (span ∷ []) Quiet (is_span g) t₁ t₂ → (r : Refusal) → Refuses (one Semicolon ∷ []) Anywhere t₂ r → Refuses ending Anywhere t r
  refuses_ending_last o r h k past y = ap (refusal (ending ++ k) past) e ∙ o.goes (one Semicolon ∷ k) _ (quiet p past) ∙ h k _ tt

-- [ size ]
module _ {q : Place} {t t₁ : Text} (e : t ≡ reads (mark OpenBracket q) t₁) where
  pub refuses_size_number : (r : Refusal) → Refuses (just any_number ∷ []) Anywhere t₁ r → Refuses sizing Anywhere t r
  refuses_size_number r h k past y = ap (refusal (sizing ++ k) past) e ∙ h (one CloseBracket ∷ k) _ tt

  module _ {c : ℕ} {u : Place} {t₂ : Text} (m : t₁ ≡ reads (number c u) t₂) where
    pub size_decides : (wrong : Bool) → (eqb c 0 || ltb 65536 c) ≡ wrong → (k : List Expect) (past : List Word) →
        refusal (sizing ++ k) past t ≡ cond wrong (refuse 10 u) (refusal (one CloseBracket ∷ k) (number c u ∷ mark OpenBracket q ∷ past) t₂)
    size_decides wrong w k past =
        ap (refusal (sizing ++ k) past) e ∙ ap (refusal (just any_number ∷ one CloseBracket ∷ k) (mark OpenBracket q ∷ past)) m ∙
        decided_word (just any_number ∷ one CloseBracket ∷ k) (mark OpenBracket q ∷ past) (number c u) t₂ (one CloseBracket ∷ k) 9 wrong refl (ap (λ (b : Bool). cond b 10 0) w)

    pub refuses_size_last : (eqb c 0 || ltb 65536 c) ≡ false → (r : Refusal) → Refuses (one CloseBracket ∷ []) Anywhere t₂ r → Refuses sizing Anywhere t r
    refuses_size_last w r h k past y = size_decides false w k past ∙ h k _ tt

sized : {c : ℕ} {t t₂ : Text} (z : Sizing c t t₂) (k : List Expect) (past : List Word) →
    refusal (sizing ++ k) past t ≡ refusal k (mark CloseBracket z.closed ∷ number c z.at ∷ mark OpenBracket z.opened ∷ past) t₂
sized {c} z k past =
    size_decides z.opens z.size false z.fits k past ∙ ap (refusal (one CloseBracket ∷ k) (number c z.at ∷ mark OpenBracket z.opened ∷ past)) z.closes

module _ (vs : List Variable) (ts : List ATable) {v : Place} {t t₁ : Text} where
  -- var name, and then the ending
  pub refuses_variable_ending : t ≡ reads (mark Var v) t₁ → {n : List ℕ} {p : Place} {t₂ : Text} → t₁ ≡ reads (name n p) t₂ →
      (among n (var_names vs) || among n (table_names ts)) ≡ false → leb 8 (length vs) ≡ false →
      (r : Refusal) → Refuses ending Anywhere t₂ r → Refuses varying (Starts vs ts 8) t r
  refuses_variable_ending e {n} {p} {t₂} f a i r h k past y =
      ap (refusal (varying ++ k) past) e ∙ new_decides vs ts false false n p t₁ t₂ f a (ending ++ k) (mark Var v ∷ past) (new_variable y.known i) ∙ h k _ tt

module _ (vs : List Variable) (ts : List ATable) {v : Place} {t t₁ : Text} (e : t ≡ reads (mark Table v) t₁) {n : List ℕ} {p : Place} {t₂ : Text} (f : t₁ ≡ reads (name n p) t₂)
    (a : (among n (var_names vs) || among n (table_names ts)) ≡ false) (i : leb 8 (length ts) ≡ false) where
  -- table name, and then its size
  at_size : (k : List Expect) (past : List Word) → Starts vs ts 8 past → refusal (tabling ++ k) past t ≡ refusal (sizing ++ (ending ++ k)) (name n p ∷ mark Table v ∷ past) t₂
  at_size k past y = ap (refusal (tabling ++ k) past) e ∙ new_decides vs ts false false n p t₁ t₂ f a (sizing ++ (ending ++ k)) (mark Table v ∷ past) (new_table y.known i)

  pub refuses_table_size : (r : Refusal) → Refuses sizing Anywhere t₂ r → Refuses tabling (Starts vs ts 8) t r
  refuses_table_size r h k past y = at_size k past y ∙ h (ending ++ k) _ tt

  pub refuses_table_ending : {c : ℕ} {t₃ : Text} → Sizing c t₂ t₃ → (r : Refusal) → Refuses ending Anywhere t₃ r → Refuses tabling (Starts vs ts 8) t r
  refuses_table_ending z r h k past y = at_size k past y ∙ sized z (ending ++ k) (name n p ∷ mark Table v ∷ past) ∙ h k _ tt
