-- What reading a text answers, from what was read.
use Rattle.std.proofs.Common.{◌≡◌, ℕ, ◌≤◌, List, [], length, IsErrAnd, Ok, Err, Result, sym, subst}
use Rattle.base.specs.declared.Refusal.{Refusal}
use Rattle.lexer.specs.Words.{Word, Text, text}
use Rattle.language_theory.specs.Expected.{Expect, refusal, at_first}
use Rattle.language_theory.specs.Graphs.{Variable, Table, Drawing, blank_sheet}
use Rattle.language_theory.specs.Readings.{said, Refuses, TurnsBack, Unended, Stated}
use Rattle.language_theory.specs.Readings.TurnsBack.{by_rule as rule_fails, by_want as memory_wants}
use Rattle.language_theory.proofs.Whole.{verdict_refused}
use Rattle.parser.specs.Outlines.{RefusedAs, Outlined}
use Rattle.parser.specs.Outlines.RefusedAs.{by_verdict, by_want}
use Rattle.parser.specs.declared.Outline.{Outline}

pub outlined_err : (bs : List ℕ) (r : Result Outline Refusal) (x : Refusal) → IsErrAnd r (λ y. y ≡ x) → RefusedAs bs x → Outlined bs r
outlined_err bs (Ok o) x h q = absurd h
outlined_err bs (Err e) x h q = subst (RefusedAs bs) (sym h) q

module _ (bs : List ℕ) (t : Text) (e : Refusal) (short : length bs ≤ 8192) (f : t ≡ text bs) where
  pub turned_back : {es : List Expect} {C : List Word → Type 0} {t₂ : Text} → (Refuses es C t₂ e → refusal at_first [] t ≡ said e) → TurnsBack es C t₂ e → RefusedAs bs e
  turned_back g (rule_fails p q h) = by_verdict (verdict_refused bs t e p short f q (g h))
  turned_back g (memory_wants w) = by_want w

  pub unended : {t₂ : Text} → (Unended t₂ e → refusal at_first [] t ≡ said e) → Unended t₂ e → RefusedAs bs e
  unended g u = by_verdict (verdict_refused bs t e u.at short f u.placed (g u))

-- what is drawn of all statements begins with one point and no edge
pub from_blank : {vs : List Variable} {ts : List Table} {t t₂ : Text} {d d₂ : Drawing} → d ≡ blank_sheet → Stated vs ts 8 t t₂ d d₂ → Stated vs ts 8 t t₂ blank_sheet d₂
from_blank {vs} {ts} {t} {t₂} {d} {d₂} e h = subst (λ (x : Drawing). Stated vs ts 8 t t₂ x d₂) e h
