use Rattle.std.proofs.Common.{◌≡◌, false, [], ◌∷◌, pos, neg_ℤ, sym, refl, ap, ◌∙◌, w64, to_z, of_z, rules}
use Rattle.std.proofs.lemmas.Int.{to_z-of_z}
use Rattle.base.specs.declared.Reason.TheVariants.{Undeclared}
use Rattle.language_theory.specs.Grammar.Side.{constant, negated}
use Rattle.language_theory.specs.Expected.Expect.{behind_minus}
use Rattle.language_theory.specs.Readings.{KnowsNegates}
use Rattle.language_theory.proofs.Turning.{turns, turns_at}
use Rattle.language_theory.proofs.Sides.{negative_number, negative_decides, negative_name, refuses_negative, refuses_negated}
use Rattle.parser.specs.Models.{left}
use Rattle.parser.specs.declared.side.Side.TheVariants.{Value}
use Rattle.language_theory.specs.declared.Value.TheVariants.{Negation}
use Rattle.parser.proofs.Exits.{handed_on}
use Rattle.parser.proofs.script.Script.read_negative.Goals as goal

pub returns-in_err-name : goal.returns-in_err-name
returns-in_err-name c =
    handed_on _ _ c.from_residual.result _ c.from_residual.ensures.1
    (turns (refuses_negated _ _ (left c.args.self.now.sentence) _ (sym c.if-at_name.ensures)) c.in_err-name.ensures)

pub returns-in_err-variable : goal.returns-in_err-variable
returns-in_err-variable c =
    let h = c.in_err-variable.ensures in
    handed_on _ _ c.from_residual-in_err-variable.result _ c.from_residual-in_err-variable.ensures.1
    (turns_at (behind_minus ∷ []) (KnowsNegates _ _) _ _ Undeclared _ h.1
    (negative_decides _ _ false _ _ _ _ c.in_ok-name.ensures h.0))

pub returns-then-at_name : goal.returns-then-at_name
returns-then-at_name c =
    let h = c.in_ok-variable.ensures in
    (negated c.in_ok-name.name.now, ap (λ (j : _). Value (Negation j)) h.1, (negative_name _ _ _ _ _ _ c.in_ok-name.ensures h.0, refl))

pub returns-in_err-n : goal.returns-in_err-n
returns-in_err-n c =
    let n = c.args.self.now.names in
    handed_on _ _ c.from_residual-in_err-n.result _ c.from_residual-in_err-n.ensures.1
    (turns (refuses_negative _ _ (left c.args.self.now.sentence) _ (sym c.if-at_name.ensures)) c.in_err-n.ensures)

pub returns : goal.returns
returns c =
    let z : to_z w64 (of_z w64 c.negative.result) ≡ neg_ℤ (pos c.in_ok-n.n) = to_z-of_z w64 c.negative.result (search rules) ∙ c.negative.ensures in
    (constant (to_z w64 (of_z w64 c.negative.result)), c.constant.ensures, (negative_number _ _ c.in_ok-n.n _ _ _ _ z c.in_ok-n.ensures, refl))
