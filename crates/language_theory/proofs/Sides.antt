-- Right sides of assignments, passed or refused.
use Rattle.std.proofs.Common.{◌≡◌, ℕ, Bool, true, false, cond, not, List, [], ◌∷◌, ℤ, pos, neg_ℤ, Some, sym, refl, ap, ◌∙◌, subst}
use Rattle.std.proofs.lemmas.Bool.{false≢true}
use Rattle.base.specs.declared.Place.{Place}
use Rattle.base.specs.declared.Refusal.{Refusal}
use Rattle.lexer.specs.Words.{Word, Text, among}
use Rattle.lexer.specs.Words.Word.{name, number, mark}
use Rattle.lexer.specs.Words.Text.{ends, fails, reads}
use Rattle.lexer.specs.declared.Mark.{Mark}
use Rattle.lexer.specs.declared.Mark.TheVariants.{Becomes, Plus, Minus, OpenBracket, CloseBracket, Hear, Sense}
use Rattle.language_theory.specs.declared.Range.{Range}
use Rattle.language_theory.specs.declared.Source.{Source}
use Rattle.language_theory.specs.Grammar.{Side, Span, Right}
use Rattle.language_theory.specs.Grammar.Side.{constant, shifted, negated, any, reading}
use Rattle.language_theory.specs.Grammar.Const.{plain as a_plain, signed as a_signed}
use Rattle.language_theory.specs.Grammar.Right.{a_const, a_copy, a_sum, a_difference, a_negation, a_hear, a_sense, a_lookup}
use Rattle.language_theory.specs.Graphs.{Variable, Table as ATable, var_names, table_names}
use Rattle.language_theory.specs.Names.{rule, is_variable, is_table, next_is_bracket}
use Rattle.language_theory.specs.Expected.{Expect, one, step, refusal, refuse}
use Rattle.language_theory.specs.Expected.Expect.{just, span, right, behind_minus, behind_name}
use Rattle.language_theory.specs.Expected.Terminal.{any_name, any_number}
use Rattle.language_theory.specs.Readings.{first_is, first_names, said, Refuses, Anywhere, Alike, Over, Quiet, is_span, is_right, is_negative, is_index, Announces, Shifts, Behind, Negates, Known, KnowsBehind, KnowsNegates}
use Rattle.language_theory.specs.Readings.Announces.{heard, sensed}
use Rattle.language_theory.specs.Readings.Shifts.{plus, minus}
use Rattle.language_theory.specs.Readings.Behind.{behind}
use Rattle.language_theory.specs.Readings.Negates.{negates}
use Rattle.language_theory.proofs.Passing.{decided_word}
use Rattle.language_theory.proofs.Steps.{alike_name, alike_then, no_shift, right_number, minus_number}

-- a bracket is next
pub bracket_next : (t : Text) → next_is_bracket t ≡ first_is OpenBracket t
bracket_next (ends p) = refl
bracket_next (fails n p) = refl
bracket_next (reads w t) = refl

module _ (vs : List Variable) (ts : List ATable) where
  -- a name that has to be a variable's
  pub variable_decides : (x : Bool) (k k₂ : List Expect) (past : List Word) (n : List ℕ) (p : Place) (t : Text) → step k (name n p) ≡ Some k₂ →
      rule past (name n p) (next_is_bracket t) ≡ cond (not (is_variable n past)) 8 0 → Known vs ts past → among n (var_names vs) ≡ x →
      refusal k past (reads (name n p) t) ≡ cond (not x) (refuse 8 p) (refusal k₂ (name n p ∷ past) t)
  variable_decides x k k₂ past n p t s e y h =
      decided_word k past (name n p) t k₂ 7 (not x) s
      (e ∙ ap (λ (ns : List (List ℕ)). cond (not (among n ns)) 8 0) y.vars ∙ ap (λ (b : Bool). cond (not b) 8 0) h)

  pub side_number : (n : ℕ) (p : Place) (z : ℤ) (t t₂ : Text) → z ≡ pos n → t ≡ reads (number n p) t₂ →
      Over (right ∷ []) (KnowsBehind vs ts Becomes) (is_right (constant z)) t t₂
  side_number n p z t t₂ f e =
      record {
        words = number n p ∷ [];
        joined = e;
        derived = λ r. subst (λ (x : ℤ). Right (number n p ∷ r) r (constant x)) (sym f) (a_const a_plain);
        alike = λ past c. record { vars = refl; tabs = refl; lev = refl };
        goes = λ k past c. go k past c.follows;
      }
    where
      go : (k : List Expect) (past : List Word) → Behind Becomes past → refusal (right ∷ k) past t ≡ refusal k (number n p ∷ past) t₂
      go k past (behind {p = b} {past = past₂}) = ap (refusal (right ∷ k) (mark Becomes b ∷ past₂)) e

  pub refuses_number : (t : Text) (r : Refusal) → first_names t ≡ false → first_is Hear t ≡ false → first_is Sense t ≡ false → first_is Minus t ≡ false →
      Refuses (just any_number ∷ []) Anywhere t r → Refuses (right ∷ []) (KnowsBehind vs ts Becomes) t r
  refuses_number t r a b c d h k past y = right_number k past t a b c d ∙ h k past tt

  -- behind a sign
  pub negative_number : (n : ℕ) (p : Place) (z : ℤ) (t t₂ : Text) → z ≡ neg_ℤ (pos n) → t ≡ reads (number n p) t₂ →
      Over (behind_minus ∷ []) (KnowsNegates vs ts) (is_negative (constant z)) t t₂
  negative_number n p z t t₂ f e =
      record {
        words = number n p ∷ [];
        joined = e;
        derived = λ q r. subst (λ (x : ℤ). Right (mark Minus q ∷ number n p ∷ r) r (constant x)) (sym f) (a_const a_signed);
        alike = λ past c. record { vars = refl; tabs = refl; lev = refl };
        goes = λ k past c. go k past c.negates;
      }
    where
      go : (k : List Expect) (past : List Word) → Negates past → refusal (behind_minus ∷ k) past t ≡ refusal k (number n p ∷ past) t₂
      go k past (negates {p = b} {q = q} {past = past₂}) = ap (refusal (behind_minus ∷ k) (mark Minus q ∷ mark Becomes b ∷ past₂)) e

  pub negative_decides : (x : Bool) (n : List ℕ) (p : Place) (t t₂ : Text) → t ≡ reads (name n p) t₂ → among n (var_names vs) ≡ x →
      (k : List Expect) (past : List Word) → KnowsNegates vs ts past → refusal (behind_minus ∷ k) past t ≡ cond (not x) (refuse 8 p) (refusal k (name n p ∷ past) t₂)
  negative_decides x n p t t₂ e h k past c = go past c.negates c.known
    where
      go : (past : List Word) → Negates past → Known vs ts past → refusal (behind_minus ∷ k) past t ≡ cond (not x) (refuse 8 p) (refusal k (name n p ∷ past) t₂)
      go past (negates {p = b} {q = q} {past = past₂}) y =
          ap (refusal (behind_minus ∷ k) (mark Minus q ∷ mark Becomes b ∷ past₂)) e ∙
          variable_decides x (behind_minus ∷ k) k (mark Minus q ∷ mark Becomes b ∷ past₂) n p t₂ refl refl y h

  pub negative_name : (n : List ℕ) (p : Place) (t t₂ : Text) → t ≡ reads (name n p) t₂ → among n (var_names vs) ≡ true →
      Over (behind_minus ∷ []) (KnowsNegates vs ts) (is_negative (negated n)) t t₂
  negative_name n p t t₂ e h =
      record {
        words = name n p ∷ [];
        joined = e;
        derived = λ q r. a_negation;
        alike = λ past c. go past c.negates;
        goes = negative_decides true n p t t₂ e h;
      }
    where
      go : (past : List Word) → Negates past → Alike (name n p ∷ past) past
      go past (negates {p = b} {q = q} {past = past₂}) = alike_name n p (mark Minus q ∷ mark Becomes b ∷ past₂) refl refl

  pub refuses_negative : (t : Text) (r : Refusal) → first_names t ≡ false → Refuses (just any_number ∷ []) Anywhere t r → Refuses (behind_minus ∷ []) (KnowsNegates vs ts) t r
  refuses_negative t r a h k past y = minus_number k past t a ∙ h k past tt

  -- where a name is the first word behind the sign, it is expected
  pub refuses_negated : (t : Text) (r : Refusal) → first_names t ≡ true → Refuses (just any_name ∷ []) Anywhere t r → Refuses (behind_minus ∷ []) (KnowsNegates vs ts) t r
  refuses_negated (ends p) r a h k past y = absurd (false≢true a)
  refuses_negated (fails n p) r a h k past y = absurd (false≢true a)
  refuses_negated (reads (name n p) t) r a h k past y = h k past tt
  refuses_negated (reads (number n p) t) r a h k past y = absurd (false≢true a)
  refuses_negated (reads (mark m p) t) r a h k past y = absurd (false≢true a)

  negating : (past : List Word) (q : Place) → KnowsBehind vs ts Becomes past → KnowsNegates vs ts (mark Minus q ∷ past)
  negating past q c = record { negates = go past c.follows; known = record { vars = c.known.vars; tabs = c.known.tabs } }
    where
      go : (past : List Word) → Behind Becomes past → Negates (mark Minus q ∷ past)
      go past (behind {p = b} {past = past₂}) = negates

  pub side_negative : (q : Place) (e : Side) (t t₁ t₂ : Text) → t ≡ reads (mark Minus q) t₁ → Over (behind_minus ∷ []) (KnowsNegates vs ts) (is_negative e) t₁ t₂ →
      Over (right ∷ []) (KnowsBehind vs ts Becomes) (is_right e) t t₂
  side_negative q e t t₁ t₂ f o =
      record {
        words = mark Minus q ∷ o.words;
        joined = f ∙ ap (reads (mark Minus q)) o.joined;
        derived = λ r. o.derived q r;
        alike = λ past c. alike_then _ (mark Minus q ∷ past) past (o.alike (mark Minus q ∷ past) (negating past q c)) (record { vars = refl; tabs = refl; lev = refl });
        goes = λ k past c. ap (refusal (right ∷ k) past) f ∙ o.goes k (mark Minus q ∷ past) (negating past q c);
      }

  pub refuses_side_negative : (q : Place) (t t₁ : Text) (r : Refusal) → t ≡ reads (mark Minus q) t₁ → Refuses (behind_minus ∷ []) (KnowsNegates vs ts) t₁ r → Refuses (right ∷ []) (KnowsBehind vs ts Becomes) t r
  refuses_side_negative q t t₁ r f h k past c = ap (refusal (right ∷ k) past) f ∙ h k (mark Minus q ∷ past) (negating past q c)

  -- hear and sense
  module _ {m : Mark} {from : Source} (a : Announces m from) {q : Place} {t t₁ : Text} (e : t ≡ reads (mark m q) t₁) where
    announced : (past : List Word) → Quiet (mark m q ∷ past)
    announced past = go a
      where
        go : {m : Mark} {from : Source} → Announces m from → Quiet (mark m q ∷ past)
        go heard = record { minus = refl; dots = refl; bracket = refl }
        go sensed = record { minus = refl; dots = refl; bracket = refl }

    announcing : (k : List Expect) (past : List Word) → refusal (right ∷ k) past t ≡ refusal (span ∷ k) (mark m q ∷ past) t₁
    announcing k past = ap (refusal (right ∷ k) past) e ∙ go a
      where
        go : {m : Mark} {from : Source} → Announces m from → refusal (right ∷ k) past (reads (mark m q) t₁) ≡ refusal (span ∷ k) (mark m q ∷ past) t₁
        go heard = refl
        go sensed = refl

    pub side_any : (g : Range) (t₂ : Text) → Over (span ∷ []) Quiet (is_span g) t₁ t₂ → Over (right ∷ []) (KnowsBehind vs ts Becomes) (is_right (any from g)) t t₂
    side_any g t₂ o =
        record {
          words = mark m q ∷ o.words;
          joined = e ∙ ap (reads (mark m q)) o.joined;
          derived = λ r. derived a (o.derived r);
          alike = λ past c. alike_then _ (mark m q ∷ past) past (o.alike (mark m q ∷ past) (announced past)) (alike a past);
          goes = λ k past c. announcing k past ∙ o.goes k (mark m q ∷ past) (announced past);
        }
      where
        derived : {m : Mark} {from : Source} → Announces m from → {ws r : List Word} → Span ws r g → Right (mark m q ∷ ws) r (any from g)
        derived heard s = a_hear s
        derived sensed s = a_sense s

        alike : {m : Mark} {from : Source} → Announces m from → (past : List Word) → Alike (mark m q ∷ past) past
        alike heard past = record { vars = refl; tabs = refl; lev = refl }
        alike sensed past = record { vars = refl; tabs = refl; lev = refl }

    pub refuses_any : (r : Refusal) → Refuses (span ∷ []) Quiet t₁ r → Refuses (right ∷ []) (KnowsBehind vs ts Becomes) t r
    refuses_any r h k past c = announcing k past ∙ h k (mark m q ∷ past) (announced past)

  -- a right side that begins with a name
  pub refuses_named : (t : Text) (r : Refusal) → first_names t ≡ true → Refuses (just any_name ∷ []) Anywhere t r → Refuses (right ∷ []) (KnowsBehind vs ts Becomes) t r
  refuses_named (ends p) r a h k past y = absurd (false≢true a)
  refuses_named (fails n p) r a h k past y = absurd (false≢true a)
  refuses_named (reads (name n p) t) r a h k past y = h (behind_name ∷ k) past tt
  refuses_named (reads (number n p) t) r a h k past y = absurd (false≢true a)
  refuses_named (reads (mark m p) t) r a h k past y = absurd (false≢true a)

  module _ {n : List ℕ} {p : Place} {t t₁ : Text} (e : t ≡ reads (name n p) t₁) where
    -- a variable's, where no bracket follows
    pub named_decides : (x : Bool) → first_is OpenBracket t₁ ≡ false → among n (var_names vs) ≡ x → (k : List Expect) (past : List Word) → KnowsBehind vs ts Becomes past →
        refusal (right ∷ k) past t ≡ cond (not x) (refuse 8 p) (refusal (behind_name ∷ k) (name n p ∷ past) t₁)
    named_decides x b h k past c = go past c.follows c.known
      where
        go : (past : List Word) → Behind Becomes past → Known vs ts past → refusal (right ∷ k) past t ≡ cond (not x) (refuse 8 p) (refusal (behind_name ∷ k) (name n p ∷ past) t₁)
        go past (behind {p = q} {past = past₂}) y =
            ap (refusal (right ∷ k) (mark Becomes q ∷ past₂)) e ∙
            variable_decides x (right ∷ k) (behind_name ∷ k) (mark Becomes q ∷ past₂) n p t₁ refl
            (ap (λ (z : Bool). cond (not (cond z (is_table n past₂) (is_variable n past₂))) 8 0) (bracket_next t₁ ∙ b)) y h

    -- a table's, where one does
    pub table_decides : (x : Bool) → first_is OpenBracket t₁ ≡ true → among n (table_names ts) ≡ x → (k : List Expect) (past : List Word) → KnowsBehind vs ts Becomes past →
        refusal (right ∷ k) past t ≡ cond (not x) (refuse 8 p) (refusal (behind_name ∷ k) (name n p ∷ past) t₁)
    table_decides x b h k past c = go past c.follows c.known
      where
        go : (past : List Word) → Behind Becomes past → Known vs ts past → refusal (right ∷ k) past t ≡ cond (not x) (refuse 8 p) (refusal (behind_name ∷ k) (name n p ∷ past) t₁)
        go past (behind {p = q} {past = past₂}) y =
            ap (refusal (right ∷ k) (mark Becomes q ∷ past₂)) e ∙
            decided_word (right ∷ k) (mark Becomes q ∷ past₂) (name n p) t₁ (behind_name ∷ k) 7 (not x) refl
            (ap (λ (z : Bool). cond (not (cond z (is_table n past₂) (is_variable n past₂))) 8 0) (bracket_next t₁ ∙ b) ∙
            ap (λ (ns : List (List ℕ)). cond (not (among n ns)) 8 0) y.tabs ∙ ap (λ (z : Bool). cond (not z) 8 0) h)

    named_alike : (past : List Word) → KnowsBehind vs ts Becomes past → Alike (name n p ∷ past) past
    named_alike past c = go past c.follows
      where
        go : (past : List Word) → Behind Becomes past → Alike (name n p ∷ past) past
        go past (behind {p = q} {past = past₂}) = alike_name n p (mark Becomes q ∷ past₂) refl refl

    module _ (b : first_is OpenBracket t₁ ≡ false) (h : among n (var_names vs) ≡ true) where
      pub side_copy : (z : ℤ) → z ≡ pos 0 → first_is Plus t₁ ≡ false → first_is Minus t₁ ≡ false → Over (right ∷ []) (KnowsBehind vs ts Becomes) (is_right (shifted n z)) t t₁
      side_copy z f a c =
          record {
            words = name n p ∷ [];
            joined = e;
            derived = λ r. subst (λ (x : ℤ). Right (name n p ∷ r) r (shifted n x)) (sym f) a_copy;
            alike = named_alike;
            goes = λ k past y. named_decides true b h k past y ∙ no_shift k (name n p ∷ past) t₁ a c b;
          }

      pub side_shifted : {m : Mark} {c : ℕ} {z : ℤ} → Shifts m c z → (q s : Place) (t₂ t₃ : Text) → t₁ ≡ reads (mark m q) t₂ → t₂ ≡ reads (number c s) t₃ →
          Over (right ∷ []) (KnowsBehind vs ts Becomes) (is_right (shifted n z)) t t₃
      side_shifted {m} {c} a q s t₂ t₃ g i =
          record {
            words = name n p ∷ mark m q ∷ number c s ∷ [];
            joined = e ∙ ap (reads (name n p)) (g ∙ ap (reads (mark m q)) i);
            derived = λ r. derived a r;
            alike = λ past y. alike_then _ (name n p ∷ past) past (alike a past) (named_alike past y);
            goes = λ k past y. named_decides true b h k past y ∙ ap (refusal (behind_name ∷ k) (name n p ∷ past)) (g ∙ ap (reads (mark m q)) i) ∙ passes a k past;
          }
        where
          derived : {m : Mark} {c : ℕ} {z : ℤ} → Shifts m c z → (r : List Word) → Right (name n p ∷ mark m q ∷ number c s ∷ r) r (shifted n z)
          derived plus r = a_sum
          derived minus r = a_difference

          alike : {m : Mark} {c : ℕ} {z : ℤ} → Shifts m c z → (past : List Word) → Alike (number c s ∷ mark m q ∷ name n p ∷ past) (name n p ∷ past)
          alike plus past = record { vars = refl; tabs = refl; lev = refl }
          alike minus past = record { vars = refl; tabs = refl; lev = refl }

          passes : {m : Mark} {c : ℕ} {z : ℤ} → Shifts m c z → (k : List Expect) (past : List Word) →
              refusal (behind_name ∷ k) (name n p ∷ past) (reads (mark m q) (reads (number c s) t₃)) ≡ refusal k (number c s ∷ mark m q ∷ name n p ∷ past) t₃
          passes plus k past = refl
          passes minus k past = refl

      pub refuses_shifted : {m : Mark} {c : ℕ} {z : ℤ} → Shifts m c z → (q : Place) (t₂ : Text) (r : Refusal) → t₁ ≡ reads (mark m q) t₂ → Refuses (just any_number ∷ []) Anywhere t₂ r →
          Refuses (right ∷ []) (KnowsBehind vs ts Becomes) t r
      refuses_shifted a q t₂ r g i k past y = named_decides true b h k past y ∙ ap (refusal (behind_name ∷ k) (name n p ∷ past)) g ∙ go a k past
        where
          go : {m : Mark} {c : ℕ} {z : ℤ} → Shifts m c z → (k : List Expect) (past : List Word) → refusal (behind_name ∷ k) (name n p ∷ past) (reads (mark m q) t₂) ≡ said r
          go plus k past = i k (mark Plus q ∷ name n p ∷ past) tt
          go minus k past = i k (mark Minus q ∷ name n p ∷ past) tt

    module _ (b : first_is OpenBracket t₁ ≡ true) (h : among n (table_names ts) ≡ true) {q : Place} {t₂ : Text} (g : t₁ ≡ reads (mark OpenBracket q) t₂) where
      indexed : (past : List Word) → KnowsBehind vs ts Becomes past → KnowsBehind vs ts OpenBracket (mark OpenBracket q ∷ name n p ∷ past)
      indexed past y =
          record { follows = behind; known = record { vars = (named_alike past y).vars ∙ y.known.vars; tabs = (named_alike past y).tabs ∙ y.known.tabs } }

      pub side_reading : (i : List ℕ) (s : Place) (t₃ : Text) → Over (just any_name ∷ one CloseBracket ∷ []) (KnowsBehind vs ts OpenBracket) (is_index i s) t₂ t₃ →
          Over (right ∷ []) (KnowsBehind vs ts Becomes) (is_right (reading n i s)) t t₃
      side_reading i s t₃ o =
          record {
            words = name n p ∷ mark OpenBracket q ∷ o.words;
            joined = e ∙ ap (reads (name n p)) (g ∙ ap (reads (mark OpenBracket q)) o.joined);
            derived = λ r. o.derived n p q r;
            alike = λ past y. alike_then _ _ past (o.alike _ (indexed past y)) (alike_then _ (name n p ∷ past) past (record { vars = refl; tabs = refl; lev = refl }) (named_alike past y));
            goes = λ k past y. table_decides true b h k past y ∙ ap (refusal (behind_name ∷ k) (name n p ∷ past)) g ∙ o.goes k _ (indexed past y);
          }

      pub refuses_reading : (r : Refusal) → Refuses (just any_name ∷ one CloseBracket ∷ []) (KnowsBehind vs ts OpenBracket) t₂ r → Refuses (right ∷ []) (KnowsBehind vs ts Becomes) t r
      refuses_reading r o k past y = table_decides true b h k past y ∙ ap (refusal (behind_name ∷ k) (name n p ∷ past)) g ∙ o k _ (indexed past y)

  -- the index of a table read, and its bracket
  pub index_decides : (x : Bool) (n : List ℕ) (p : Place) (t t₁ : Text) → t ≡ reads (name n p) t₁ → among n (var_names vs) ≡ x → (k : List Expect) (past : List Word) → KnowsBehind vs ts OpenBracket past →
      refusal (just any_name ∷ one CloseBracket ∷ k) past t ≡ cond (not x) (refuse 8 p) (refusal (one CloseBracket ∷ k) (name n p ∷ past) t₁)
  index_decides x n p t t₁ e h k past c = go past c.follows c.known
    where
      go : (past : List Word) → Behind OpenBracket past → Known vs ts past →
          refusal (just any_name ∷ one CloseBracket ∷ k) past t ≡ cond (not x) (refuse 8 p) (refusal (one CloseBracket ∷ k) (name n p ∷ past) t₁)
      go past (behind {p = q} {past = past₂}) y =
          ap (refusal (just any_name ∷ one CloseBracket ∷ k) (mark OpenBracket q ∷ past₂)) e ∙
          variable_decides x (just any_name ∷ one CloseBracket ∷ k) (one CloseBracket ∷ k) (mark OpenBracket q ∷ past₂) n p t₁ refl refl y h

  pub index_over : (n : List ℕ) (p u : Place) (t t₁ t₂ : Text) → t ≡ reads (name n p) t₁ → among n (var_names vs) ≡ true → t₁ ≡ reads (mark CloseBracket u) t₂ →
      Over (just any_name ∷ one CloseBracket ∷ []) (KnowsBehind vs ts OpenBracket) (is_index n p) t t₂
  index_over n p u t t₁ t₂ e h g =
      record {
        words = name n p ∷ mark CloseBracket u ∷ [];
        joined = e ∙ ap (reads (name n p)) g;
        derived = λ m s q r. a_lookup;
        alike = λ past c. alike_then _ (name n p ∷ past) past (record { vars = refl; tabs = refl; lev = refl }) (go past c.follows);
        goes = λ k past c. index_decides true n p t t₁ e h k past c ∙ ap (refusal (one CloseBracket ∷ k) (name n p ∷ past)) g;
      }
    where
      go : (past : List Word) → Behind OpenBracket past → Alike (name n p ∷ past) past
      go past (behind {p = q} {past = past₂}) = alike_name n p (mark OpenBracket q ∷ past₂) refl refl
