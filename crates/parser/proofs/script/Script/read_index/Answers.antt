use Rattle.std.proofs.Common.{false, [], ◌∷◌, refl, ◌∙◌}
use Rattle.base.specs.declared.Reason.TheVariants.{Undeclared}
use Rattle.lexer.specs.declared.Mark.TheVariants.{CloseBracket, OpenBracket}
use Rattle.language_theory.specs.Expected.{one}
use Rattle.language_theory.specs.Expected.Expect.{just}
use Rattle.language_theory.specs.Expected.Terminal.{any_name}
use Rattle.language_theory.specs.Readings.{KnowsBehind}
use Rattle.language_theory.proofs.Turning.{turns, turns_at}
use Rattle.language_theory.proofs.Sides.{index_decides, index_over}
use Rattle.parser.proofs.Exits.{handed_on}
use Rattle.parser.proofs.script.Script.read_index.Goals as goal

pub returns-in_err-name : goal.returns-in_err-name
returns-in_err-name c =
    handed_on _ _ c.from_residual.result _ c.from_residual.ensures.1
    (turns (λ h k past y. h (one CloseBracket ∷ k) past tt) c.in_err-name.ensures)

pub returns-in_err-index : goal.returns-in_err-index
returns-in_err-index c =
    let h = c.in_err-index.ensures in
    handed_on _ _ c.from_residual-in_err-index.result _ c.from_residual-in_err-index.ensures.1
    (turns_at (just any_name ∷ one CloseBracket ∷ []) (KnowsBehind _ _ OpenBracket) _ _ Undeclared _ h.1
    (index_decides _ _ false _ _ _ _ c.in_ok-name.ensures h.0))

pub returns-in_err-mark : goal.returns-in_err-mark
returns-in_err-mark c =
    let h = c.in_ok-index.ensures in
    handed_on _ _ c.from_residual-in_err-mark.result _ c.from_residual-in_err-mark.ensures.1
    (turns (λ i k past y. index_decides _ _ mathlib.Core.Bool.true _ _ _ _ c.in_ok-name.ensures h.0 k past y ∙ i k _ tt) c.in_err-mark.ensures)

pub returns : goal.returns
returns c =
    let h = c.in_ok-index.ensures in
    (c.in_ok-name.name.now, h.1, (index_over _ _ _ _ _ _ _ _ c.in_ok-name.ensures h.0 c.in_ok-mark.ensures, refl))
