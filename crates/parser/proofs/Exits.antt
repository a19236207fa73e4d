-- The exit of a `?`: what is said of the error of the call holds of the error that is handed on.
use Rattle.std.proofs.Common.{◌≡◌, List, IsErrAnd, Ok, Err, Result, sym, subst, MatchResult}
use Rattle.base.specs.declared.Refusal.{Refusal}
use Rattle.lexer.specs.Words.{Word, Text}
use Rattle.language_theory.specs.Expected.{Expect}
use Rattle.language_theory.specs.Readings.{TurnsBack}

pub handed_on : {T : Type 0} (P : T → Type 0) (Q : Refusal → Type 0) (r : Result T Refusal) (x : Refusal) → IsErrAnd r (λ y. y ≡ x) → Q x → MatchResult r P Q
handed_on P Q (Ok v) x h q = absurd h
handed_on P Q (Err y) x h q = subst Q (sym h) q

-- a call that takes nothing leaves the text as it was: what is refused of it is refused of that
pub back_at : {es : List Expect} {C : List Word → Type 0} {t t₂ : Text} {r : Refusal} → t ≡ t₂ → TurnsBack es C t r → TurnsBack es C t₂ r
back_at {es} {C} {t} {t₂} {r} e h = subst (λ (x : Text). TurnsBack es C x r) e h
