use Rattle.std.proofs.Common.{sym, refl, ap, ◌∙◌}
use Rattle.lexer.specs.declared.Mark.TheVariants.{LessEqual, Greater}
use Rattle.language_theory.specs.Grammar.Order.{below, at_most, above, at_least}
use Rattle.language_theory.specs.Readings.{first_is}
use Rattle.language_theory.specs.Readings.Orders.{less_than, at_most_than, greater_than, at_least_than}
use Rattle.language_theory.proofs.Turning.{turns}
use Rattle.language_theory.proofs.Conditions.{over_order, refuses_operator}
use Rattle.parser.specs.Models.{left}
use Rattle.parser.proofs.Exits.{handed_on, back_at}
use Rattle.parser.proofs.condition.read_operator.Goals as goal

pub returns-then-accept : goal.returns-then-accept
returns-then-accept c = (below, refl, over_order less_than _ _ _ c.if-accept.ensures.passed.1)

pub returns-then-accept-2 : goal.returns-then-accept-2
returns-then-accept-2 c = (at_most, refl, over_order at_most_than _ _ _ (sym c.if-accept.ensures.stays ∙ c.if-accept-2.ensures.passed.1))

pub returns-then-accept-3 : goal.returns-then-accept-3
returns-then-accept-3 c =
    (above, refl, over_order greater_than _ _ _ (sym c.if-accept.ensures.stays ∙ sym c.if-accept-2.ensures.stays ∙ c.if-accept-3.ensures.passed.1))

pub returns-in_err-mark : goal.returns-in_err-mark
returns-in_err-mark c =
    let a = c.if-accept.ensures.stays in
    let b = c.if-accept-2.ensures.stays ∙ a in
    let d = c.if-accept-3.ensures.stays ∙ b in
    handed_on _ _ c.from_residual.result _ c.from_residual.ensures.1
    (turns (refuses_operator (left c.args.s.now) _ (sym c.if-accept.ensures.is) (ap (first_is LessEqual) (sym a) ∙ sym c.if-accept-2.ensures.is)
    (ap (first_is Greater) (sym b) ∙ sym c.if-accept-3.ensures.is)) (back_at d c.in_err-mark.ensures))

pub returns : goal.returns
returns c =
    let d = c.if-accept-3.ensures.stays ∙ c.if-accept-2.ensures.stays ∙ c.if-accept.ensures.stays in
    (at_least, refl, over_order at_least_than _ _ _ (sym d ∙ c.in_ok-mark.ensures))
