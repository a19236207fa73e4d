use Rattle.std.proofs.Common.{false, ◌∷◌, ◌∙◌}
use Rattle.std.proofs.lemmas.Result.{MatchResult-weaker}
use Rattle.base.specs.declared.Reason.TheVariants.{Undeclared}
use Rattle.lexer.specs.declared.Mark.TheVariants.{Becomes, Semicolon}
use Rattle.language_theory.specs.Expected.{one}
use Rattle.language_theory.specs.Expected.Expect.{right}
use Rattle.language_theory.specs.Readings.{Starts, assigning}
use Rattle.language_theory.specs.Readings.TurnsBack.{by_want}
use Rattle.language_theory.proofs.Turning.{turns, turns_at}
use Rattle.language_theory.proofs.Bodies.{target_decides, refuses_becomes, refuses_side, refuses_semicolon, stated_assign}
use Rattle.parser.proofs.Exits.{handed_on}
use Rattle.parser.proofs.Siding.{assigned_as}
use Rattle.parser.proofs.statements.Scribe.read_assignment.Goals as goal

pub returns-in_err-name : goal.returns-in_err-name
returns-in_err-name c =
    handed_on _ _ c.from_residual.result _ c.from_residual.ensures.1
    (λ l. turns (λ h k past y. h (one Becomes ∷ right ∷ one Semicolon ∷ k) past tt) c.in_err-name.ensures)

pub returns-in_err-k : goal.returns-in_err-k
returns-in_err-k c =
    let h = c.in_err-k.ensures in
    handed_on _ _ c.from_residual-in_err-k.result _ c.from_residual-in_err-k.ensures.1
    (λ l. turns_at assigning (Starts _ _ l) _ _ Undeclared _ h.1 (target_decides _ _ c.in_ok-name.ensures false h.0))

pub returns-in_err-mark : goal.returns-in_err-mark
returns-in_err-mark c =
    let h = c.in_ok-k.ensures in
    handed_on _ _ c.from_residual-in_err-mark.result _ c.from_residual-in_err-mark.ensures.1
    (λ l. turns (refuses_becomes _ _ c.in_ok-name.ensures h.0 _) c.in_err-mark.ensures)

pub returns-in_err-right : goal.returns-in_err-right
returns-in_err-right c =
    let h = c.in_ok-k.ensures in
    handed_on _ _ c.from_residual-in_err-right.result _ c.from_residual-in_err-right.ensures.1
    (λ l. turns (refuses_side _ _ c.in_ok-name.ensures h.0 c.in_ok-mark.ensures _) c.in_err-right.ensures)

pub returns-in_err-mark-2 : goal.returns-in_err-mark-2
returns-in_err-mark-2 c =
    let h = c.in_ok-k.ensures in
    let a = c.in_ok-right.ensures in
    handed_on _ _ c.from_residual-in_err-mark-2.result _ c.from_residual-in_err-mark-2.ensures.1
    (λ l. turns (refuses_semicolon _ _ c.in_ok-name.ensures h.0 c.in_ok-mark.ensures a.2.0 _) c.in_err-mark-2.ensures)

pub returns : goal.returns
returns c =
    let h = c.in_ok-k.ensures in
    let a = c.in_ok-right.ensures in
    MatchResult-weaker c.assign.result c.assign.ensures
    (λ _ e l. (
      stated_assign _ _ c.in_ok-name.ensures h.0 c.in_ok-mark.ensures a.2.0 _ _ _ _ c.in_ok-mark-2.ensures
          (e ∙ assigned_as _ _ _ _ _ c.in_ok-right.right a.0 _ h.1 a.1),
      a.2.1,
    ))
    (λ _ e l. by_want e)
