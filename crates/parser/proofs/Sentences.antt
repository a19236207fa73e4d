-- One word of a sentence, taken or refused.
use Rattle.std.proofs.Common.{◌≡◌, ℕ, Bool, true, false, ◌||◌, List, [], ◌∷◌, Some, None, Option, Ok, Err, Result, IsErrAnd, MatchResult, sym, refl, ap, ◌∙◌, Bor}
use Rattle.std.proofs.lemmas.Bool.{false≢true}
use Rattle.base.specs.declared.Place.{Place}
use Rattle.base.specs.declared.Refusal.{Refusal}
use Rattle.base.specs.declared.Reason.TheVariants.{Unexpected}
use Rattle.base.specs.Reasons.{located}
use Rattle.lexer.specs.Words.{Next, Text, place}
use Rattle.lexer.specs.Words.Word.{name, number, mark}
use Rattle.lexer.specs.Words.Text.{ends, reads}
use Rattle.lexer.specs.Words.Next.{word, fault, end}
use Rattle.lexer.specs.Reader.{as_word, as_next, ahead, leads}
use Rattle.lexer.specs.declared.Mark.{Mark}
use Rattle.lexer.specs.declared.Mark.TheVariants.{If, While, Var, Table}
use Rattle.lexer.specs.declared.Word.{Word}
use Rattle.lexer.specs.declared.Word.TheVariants.{Name, Number, Sign}
use Rattle.lexer.specs.declared.Fault.{Fault}
use Rattle.lexer.proofs.Told.{mark_same}
use Rattle.language_theory.specs.Expected.{Expect, Terminal, fits, pick, step, refusal, refuse}
use Rattle.language_theory.specs.Expected.Expect.{just}
use Rattle.language_theory.specs.Expected.Terminal.{the, any_name, any_number}
use Rattle.language_theory.specs.Readings.{first_is, first_names, begins_statement, begins_declaration, Anywhere, TurnsBack}
use Rattle.language_theory.proofs.Passing.{unfit_word}
use Rattle.language_theory.proofs.Turning.{turns_at}
use Rattle.parser.specs.Models.{left}
use Rattle.parser.specs.declared.sentence.Sentence.{Sentence}

-- the exit of the `?` that hands on a fault
pub fault_exit : {T : Type 0} (P : T → Type 0) (f : Fault) (t t₂ : Text) (x : Result T Refusal) → t ≡ leads (as_next (Err f)) t₂ →
    IsErrAnd x (λ y. y ≡ located f.reason f.place) → MatchResult x P (λ e. (m : Terminal) → TurnsBack (just m ∷ []) Anywhere t e)
fault_exit P f t t₂ (Ok v) e h = absurd h
fault_exit P f t t₂ (Err y) e h = λ m. turns_at (just m ∷ []) Anywhere t y f.reason f.place h (λ k past _. ap (refusal (just m ∷ k) past) e)

-- no word is left
pub at_end : (m : Terminal) (p : Place) (t : Text) (r : Refusal) → t ≡ ends p → r ≡ located Unexpected p → TurnsBack (just m ∷ []) Anywhere t r
at_end m p t r e g = turns_at (just m ∷ []) Anywhere t r Unexpected p g (λ k past _. ap (refusal (just m ∷ k) past) e)

-- the word does not fit
pub at_word : (m : Terminal) (w : Word) (p : Place) (t t₂ : Text) (r : Refusal) → t ≡ reads (as_word w p) t₂ → r ≡ located Unexpected p → fits m (as_word w p) ≡ false →
    TurnsBack (just m ∷ []) Anywhere t r
at_word m w p t t₂ r e g h =
    turns_at (just m ∷ []) Anywhere t r Unexpected p g (λ k past _. ap (refusal (just m ∷ k) past) e ∙ unfit_word (just m ∷ k) past (as_word w p) t₂ (go (fits m (as_word w p)) h k) ∙ ap (refuse 5) (place_of w))
  where
    go : (b : Bool) → b ≡ false → (k : List Expect) → pick (mathlib.Core.Bool.cond b (Some []) None) false k (step k (as_word w p)) ≡ None
    go true e k = absurd (false≢true (sym e))
    go false e k = refl

    place_of : (w : Word) → place (as_word w p) ≡ p
    place_of (Name bs) = refl
    place_of (Number n) = refl
    place_of (Sign m) = refl

pub no_number : (w : Word) (p : Place) → ((n : ℕ) → w ≡ Number n → ⊥) → fits any_number (as_word w p) ≡ false
no_number (Name bs) p n = refl
no_number (Number m) p n = absurd (n m refl)
no_number (Sign m) p n = refl

pub no_name : (w : Word) (p : Place) → ((bs : Bor (List ℕ)) → w ≡ Name bs → ⊥) → fits any_name (as_word w p) ≡ false
no_name (Name bs) p n = absurd (n bs refl)
no_name (Number m) p n = refl
no_name (Sign m) p n = refl

pub no_sign : (m : Mark) (w : Word) (p : Place) → ((m₂ : Mark) → w ≡ Sign m₂ → ⊥) → fits (the m) (as_word w p) ≡ false
no_sign m (Name bs) p n = refl
no_sign m (Number k) p n = refl
no_sign m (Sign m₂) p n = absurd (n m₂ refl)

-- nothing is left
pub all_read : (s : Sentence) (w : Option Word) (p : Place) → s.present ≡ Ok (w, p) → w ≡ None → (q : Place) × (left s ≡ ends q)
all_read s w p e f = (p, ap (λ (x : Result (Option Word × Place) Fault). leads (as_next x) (ahead s.words)) (e ∙ ap (λ (o : Option Word). Ok (o, p)) f))

-- the mark that is known to be the present word is the one taken
pub taken_mark : (m : Mark) (n : Next) (t t₂ : Text) → t ≡ leads n t₂ → first_is m t ≡ true → (p : Place) × (t ≡ reads (mark m p) t₂)
taken_mark m (word (name bs p)) t t₂ e h = absurd (false≢true (sym (ap (first_is m) e) ∙ h))
taken_mark m (word (number n p)) t t₂ e h = absurd (false≢true (sym (ap (first_is m) e) ∙ h))
taken_mark m (word (mark m₂ p)) t t₂ e h = (p, e ∙ ap (λ (x : Mark). reads (mark x p) t₂) (sym (mark_same m m₂ (sym (ap (first_is m) e) ∙ h))))
taken_mark m (fault n p) t t₂ e h = absurd (false≢true (sym (ap (first_is m) e) ∙ h))
taken_mark m (end p) t t₂ e h = absurd (false≢true (sym (ap (first_is m) e) ∙ h))

-- what begins a statement, and is no `if` and no `while`, is a name
pub a_name : (t : Text) → begins_statement t ≡ true → first_is If t ≡ false → first_is While t ≡ false → first_names t ≡ true
a_name t e f g = go (first_names t) (first_is If t) (first_is While t) e f g
  where
    go : (a b c : Bool) → (a || b || c) ≡ true → b ≡ false → c ≡ false → a ≡ true
    go true b c e f g = refl
    go false true c e f g = absurd (false≢true (sym f))
    go false false true e f g = absurd (false≢true (sym g))
    go false false false e f g = absurd (false≢true e)

-- what begins a declaration, and is no `var`, is `table`
pub ATable : (t : Text) → begins_declaration t ≡ true → first_is Var t ≡ false → first_is Table t ≡ true
ATable t e f = go (first_is Var t) (first_is Table t) e f
  where
    go : (a b : Bool) → (a || b) ≡ true → a ≡ false → b ≡ true
    go true b e f = absurd (false≢true (sym f))
    go false b e f = e
