use Rattle.std.proofs.Common.{false, [], ◌∷◌}
use Rattle.base.specs.declared.Reason.TheVariants.{Undeclared}
use Rattle.language_theory.specs.Grammar.Condition.{compares}
use Rattle.language_theory.specs.Expected.Expect.{condition}
use Rattle.language_theory.specs.Readings.{KnowsAsks}
use Rattle.language_theory.proofs.Turning.{turns, turns_at}
use Rattle.language_theory.proofs.Conditions.{refuses_left, left_decides, refuses_order, refuses_right, over_condition}
use Rattle.parser.specs.Models.{left}
use Rattle.parser.proofs.Exits.{handed_on}
use Rattle.parser.proofs.script.Script.read_condition.Goals as goal

pub returns-in_err-name : goal.returns-in_err-name
returns-in_err-name c =
    handed_on _ _ c.from_residual.result _ c.from_residual.ensures.1
    (turns (refuses_left _ _ (left c.args.self.now.sentence) _) c.in_err-name.ensures)

pub returns-in_err-left : goal.returns-in_err-left
returns-in_err-left c =
    let h = c.in_err-left.ensures in
    handed_on _ _ c.from_residual-in_err-left.result _ c.from_residual-in_err-left.ensures.1
    (turns_at (condition ∷ []) (KnowsAsks _ _) _ _ Undeclared _ h.1
    (left_decides _ _ c.in_ok-name.ensures false h.0))

pub returns-in_err-order : goal.returns-in_err-order
returns-in_err-order c =
    let h = c.in_ok-left.ensures in
    handed_on _ _ c.from_residual-in_err-order.result _ c.from_residual-in_err-order.ensures.1
    (turns (refuses_order _ _ c.in_ok-name.ensures h.0 _) c.in_err-order.ensures)

pub returns-in_err-right : goal.returns-in_err-right
returns-in_err-right c =
    let h = c.in_ok-left.ensures in
    let o = c.in_ok-order.ensures in
    handed_on _ _ c.from_residual-in_err-right.result _ c.from_residual-in_err-right.ensures.1
    (turns (refuses_right _ _ c.in_ok-name.ensures h.0 o.2 _) c.in_err-right.ensures)

pub returns : goal.returns
returns c =
    let h = c.in_ok-left.ensures in
    let o = c.in_ok-order.ensures in
    let v = c.in_ok-right.ensures in (
      compares c.in_ok-name.name.now o.0 v.0,
      (λ i. record { left = h.1 i; order = o.1 i; right = v.1 i }),
      v.2,
      (over_condition _ _ c.in_ok-name.ensures h.0 o.2 v.0 _ v.3.0, v.3.1),
    )
