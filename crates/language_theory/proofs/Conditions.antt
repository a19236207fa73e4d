-- Conditions, passed or refused.
use Rattle.std.proofs.Common.{◌≡◌, ℕ, Bool, true, false, cond, not, List, [], ◌∷◌, ◌++◌, ℤ, sym, refl, ap, ◌∙◌, append_assoc}
use Rattle.std.proofs.lemmas.Bool.{false≢true}
use Rattle.base.specs.declared.Place.{Place}
use Rattle.base.specs.declared.Refusal.{Refusal}
use Rattle.lexer.specs.Words.{Word, Text, among, same}
use Rattle.lexer.specs.Words.Word.{name, number, mark}
use Rattle.lexer.specs.Words.Text.{ends, fails, reads}
use Rattle.lexer.specs.declared.Mark.{Mark}
use Rattle.lexer.specs.declared.Mark.TheVariants.{Less, LessEqual, Greater, GreaterEqual}
use Rattle.language_theory.specs.Grammar.{Order, Operand, Compare}
use Rattle.language_theory.specs.Grammar.Operand.{against, limit}
use Rattle.language_theory.specs.Grammar.Condition.{compares}
use Rattle.language_theory.specs.Grammar.Compare.{less, less_equal, greater, greater_equal}
use Rattle.language_theory.specs.Grammar.Compared.{named, fixed}
use Rattle.language_theory.specs.Grammar.Cond.{condition as a_condition}
use Rattle.language_theory.specs.Graphs.{Variable, Table as ATable, var_names}
use Rattle.language_theory.specs.Names.{rule, next_is_bracket}
use Rattle.language_theory.specs.Expected.{Expect, one, refusal, refuse}
use Rattle.language_theory.specs.Expected.Expect.{just, const, condition, operator, operand}
use Rattle.language_theory.specs.Expected.Terminal.{any_name}
use Rattle.language_theory.specs.Readings.{before, passed, first_is, first_names, Refuses, Anywhere, Over, Constant, is_operator, is_operand, is_condition, Orders, KnowsAsks, KnowsCompares}
use Rattle.language_theory.specs.Readings.Orders.{less_than, at_most_than, greater_than, at_least_than}
use Rattle.language_theory.specs.Readings.Compares.{comparing}
use Rattle.language_theory.proofs.Passing.{decided_word}
use Rattle.language_theory.proofs.Steps.{before-++, passed-++, alike_then, last_operator, operand_const, condition_name}
use Rattle.language_theory.proofs.Numbers.{const_derived, const_alike, const_goes}
use Rattle.language_theory.proofs.Pasts.{order_alike, compares_rule, compares_alike, compares_quiet, asks_rule, asks_alike}
use Rattle.language_theory.proofs.Sides.{variable_decides}

-- comparisons
pub over_order : {m : Mark} {o : Order} → Orders m o → (p : Place) (t t₂ : Text) → t ≡ reads (mark m p) t₂ → Over (operator ∷ []) Anywhere (is_operator o) t t₂
over_order {m} {o} a p t t₂ e =
    record {
      words = mark m p ∷ [];
      joined = e;
      derived = (compared a, (λ n q past. comparing a));
      alike = λ past c. order_alike a past p;
      goes = λ k past c. ap (refusal (operator ∷ k) past) e ∙ passes a k past;
    }
  where
    compared : {m : Mark} {o : Order} → Orders m o → (r : List Word) → Compare (mark m p ∷ r) r o
    compared less_than r = less
    compared at_most_than r = less_equal
    compared greater_than r = greater
    compared at_least_than r = greater_equal

    passes : {m : Mark} {o : Order} → Orders m o → (k : List Expect) (past : List Word) → refusal (operator ∷ k) past (reads (mark m p) t₂) ≡ refusal k (mark m p ∷ past) t₂
    passes less_than k past = refl
    passes at_most_than k past = refl
    passes greater_than k past = refl
    passes at_least_than k past = refl

pub refuses_operator : (t : Text) (r : Refusal) → first_is Less t ≡ false → first_is LessEqual t ≡ false → first_is Greater t ≡ false →
    Refuses (one GreaterEqual ∷ []) Anywhere t r → Refuses (operator ∷ []) Anywhere t r
refuses_operator t r a b c h k past u = last_operator k past t a b c ∙ h k past u

module _ (vs : List Variable) (ts : List ATable) where
  pub against_decides : (n₀ n : List ℕ) (p : Place) (t t₁ : Text) (x y : Bool) → t ≡ reads (name n p) t₁ → among n (var_names vs) ≡ x → same n n₀ ≡ y →
      (k : List Expect) (past : List Word) → KnowsCompares vs ts n₀ past →
      refusal (operand ∷ k) past t ≡ cond (not x) (refuse 8 p) (cond y (refuse 11 p) (refusal k (name n p ∷ past) t₁))
  against_decides n₀ n p t t₁ x y e h i k past c = ap (refusal (operand ∷ k) past) e ∙ go x y (decide x y h i)
    where
      decide : (x y : Bool) → among n (var_names vs) ≡ x → same n n₀ ≡ y → rule past (name n p) (next_is_bracket t₁) ≡ cond (not x) 8 (cond y 11 0)
      decide x y h i =
          compares_rule c.compares n p (next_is_bracket t₁) ∙ ap (λ (ns : List (List ℕ)). cond (not (among n ns)) 8 (cond (same n n₀) 11 0)) c.known.vars ∙
          ap (λ (b : Bool). cond (not b) 8 (cond (same n n₀) 11 0)) h ∙ ap (λ (b : Bool). cond (not x) 8 (cond b 11 0)) i

      go : (x y : Bool) → rule past (name n p) (next_is_bracket t₁) ≡ cond (not x) 8 (cond y 11 0) →
          refusal (operand ∷ k) past (reads (name n p) t₁) ≡ cond (not x) (refuse 8 p) (cond y (refuse 11 p) (refusal k (name n p ∷ past) t₁))
      go false y q = decided_word (operand ∷ k) past (name n p) t₁ k 7 true refl q
      go true true q = decided_word (operand ∷ k) past (name n p) t₁ k 10 true refl q
      go true false q = decided_word (operand ∷ k) past (name n p) t₁ k 0 false refl q

  pub over_against : (n₀ n : List ℕ) (p : Place) (t t₁ : Text) → t ≡ reads (name n p) t₁ → among n (var_names vs) ≡ true → same n n₀ ≡ false →
      Over (operand ∷ []) (KnowsCompares vs ts n₀) (is_operand (against n)) t t₁
  over_against n₀ n p t t₁ e h i =
      record {
        words = name n p ∷ [];
        joined = e;
        derived = λ r. named;
        alike = λ past c. compares_alike c.compares n p;
        goes = against_decides n₀ n p t t₁ true false e h i;
      }

  pub over_limit : (n₀ : List ℕ) (z : ℤ) (p : Place) (t t₁ : Text) → first_names t ≡ false → Constant z p t t₁ →
      Over (operand ∷ []) (KnowsCompares vs ts n₀) (is_operand (limit z)) t t₁
  over_limit n₀ z p t t₁ a c =
      record {
        words = c.words;
        joined = c.joined;
        derived = λ r. fixed (const_derived c.spells r);
        alike = λ past y. const_alike c.spells past;
        goes = λ k past y. operand_const k past t a ∙ const_goes c k past (compares_quiet y.compares);
      }

  pub refuses_against : (n₀ : List ℕ) (t : Text) (r : Refusal) → first_names t ≡ true → Refuses (just any_name ∷ []) Anywhere t r → Refuses (operand ∷ []) (KnowsCompares vs ts n₀) t r
  refuses_against n₀ (ends p) r a h k past y = absurd (false≢true a)
  refuses_against n₀ (fails n p) r a h k past y = absurd (false≢true a)
  refuses_against n₀ (reads (name n p) t) r a h k past y = h k past tt
  refuses_against n₀ (reads (number n p) t) r a h k past y = absurd (false≢true a)
  refuses_against n₀ (reads (mark m p) t) r a h k past y = absurd (false≢true a)

  pub refuses_limit : (n₀ : List ℕ) (t : Text) (r : Refusal) → first_names t ≡ false → Refuses (const ∷ []) Anywhere t r → Refuses (operand ∷ []) (KnowsCompares vs ts n₀) t r
  refuses_limit n₀ t r a h k past y = operand_const k past t a ∙ h k past tt

  -- whole conditions
  pub refuses_left : (t : Text) (r : Refusal) → Refuses (just any_name ∷ []) Anywhere t r → Refuses (condition ∷ []) (KnowsAsks vs ts) t r
  refuses_left t r h k past y = condition_name k past t ∙ h (operator ∷ operand ∷ k) past tt

  module _ {n : List ℕ} {p : Place} {t t₁ : Text} (e : t ≡ reads (name n p) t₁) where
    pub left_decides : (x : Bool) → among n (var_names vs) ≡ x → (k : List Expect) (past : List Word) → KnowsAsks vs ts past →
        refusal (condition ∷ k) past t ≡ cond (not x) (refuse 8 p) (refusal (operator ∷ operand ∷ k) (name n p ∷ past) t₁)
    left_decides x h k past c =
        ap (refusal (condition ∷ k) past) e ∙
        variable_decides vs ts x (condition ∷ k) (operator ∷ operand ∷ k) past n p t₁ refl (asks_rule c.asks n p (next_is_bracket t₁)) c.known h

    module _ (h : among n (var_names vs) ≡ true) where
      pub refuses_order : (r : Refusal) → Refuses (operator ∷ []) Anywhere t₁ r → Refuses (condition ∷ []) (KnowsAsks vs ts) t r
      refuses_order r i k past y = left_decides true h k past y ∙ i (operand ∷ k) (name n p ∷ past) tt

      module _ {o : Order} {t₂ : Text} (by : Over (operator ∷ []) Anywhere (is_operator o) t₁ t₂) where
        behind_order : (past : List Word) → KnowsAsks vs ts past → KnowsCompares vs ts n (passed by.words (name n p ∷ past))
        behind_order past y =
            let a = alike_then _ (name n p ∷ past) past (by.alike (name n p ∷ past) tt) (asks_alike y.asks n p) in
            record { compares = by.derived.1 n p past; known = record { vars = a.vars ∙ y.known.vars; tabs = a.tabs ∙ y.known.tabs } }

        pub refuses_right : (r : Refusal) → Refuses (operand ∷ []) (KnowsCompares vs ts n) t₂ r → Refuses (condition ∷ []) (KnowsAsks vs ts) t r
        refuses_right r i k past y = left_decides true h k past y ∙ by.goes (operand ∷ k) (name n p ∷ past) tt ∙ i k _ (behind_order past y)

        pub over_condition : (v : Operand) (t₃ : Text) → Over (operand ∷ []) (KnowsCompares vs ts n) (is_operand v) t₂ t₃ →
            Over (condition ∷ []) (KnowsAsks vs ts) (is_condition (compares n o v)) t t₃
        over_condition v t₃ w =
            let xs = by.words in
            let ys = w.words in
            record {
              words = name n p ∷ (xs ++ ys);
              joined = e ∙ ap (reads (name n p)) (by.joined ∙ ap (before xs) w.joined ∙ sym (before-++ xs ys t₃));
              derived = λ r. rw append_assoc (a_condition (by.derived.0 (ys ++ r)) (w.derived r));
              alike = λ past y. rw passed-++ (alike_then _ _ past (w.alike _ (behind_order past y)) (alike_then _ (name n p ∷ past) past (by.alike (name n p ∷ past) tt) (asks_alike y.asks n p)));
              goes = λ k past y.
                  left_decides true h k past y ∙ by.goes (operand ∷ k) (name n p ∷ past) tt ∙ w.goes k _ (behind_order past y) ∙
                  ap (λ (z : List Word). refusal k z t₃) (sym (passed-++ xs ys (name n p ∷ past)));
            }
