-- Refusals handed on.
use Rattle.std.proofs.Common.{◌≡◌, List, ◌++◌, sym, ap, ◌∙◌}
use Rattle.base.specs.Reasons.{number_of, located}
use Rattle.base.specs.declared.Place.{Place}
use Rattle.base.specs.declared.Reason.{Reason}
use Rattle.base.specs.declared.Refusal.{Refusal}
use Rattle.lexer.specs.Words.{Word, Text}
use Rattle.language_theory.specs.Expected.{Expect, refusal, refuse}
use Rattle.language_theory.specs.Readings.{said, Refuses, TurnsBack}
use Rattle.language_theory.specs.Readings.TurnsBack.{by_rule, by_want}

-- a refusal of a part is one of the whole
pub turns : {es es₂ : List Expect} {C C₂ : List Word → Type 0} {t t₂ : Text} {r : Refusal} → (Refuses es C t r → Refuses es₂ C₂ t₂ r) → TurnsBack es C t r → TurnsBack es₂ C₂ t₂ r
turns f (by_rule p e h) = by_rule p e (f h)
turns f (by_want e) = by_want e

-- a rule fails at a place
pub turns_at : (es : List Expect) (C : List Word → Type 0) (t : Text) (r : Refusal) (reason : Reason) (p : Place) → r ≡ located reason p →
    ((k : List Expect) (past : List Word) → C past → refusal (es ++ k) past t ≡ refuse (number_of reason) p) → TurnsBack es C t r
turns_at es C t r reason p e h = by_rule p (ap (λ (x : Refusal). x.place) e) (λ k past y. h k past y ∙ ap said (sym e))
