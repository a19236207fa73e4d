use Rattle.std.proofs.Common.{◌≡◌, pos, sym, refl, ap, ◌∙◌, w64, to_z, of_z, rules}
use Rattle.std.proofs.lemmas.Result.{MatchResult-weaker}
use Rattle.std.proofs.lemmas.Int.{to_z-of_z}
use Rattle.lexer.specs.declared.Mark.TheVariants.{Sense, Minus}
use Rattle.language_theory.specs.Grammar.Side.{constant, any}
use Rattle.language_theory.specs.declared.Source.TheVariants.{Heard, Sensed}
use Rattle.language_theory.specs.Readings.{first_is}
use Rattle.language_theory.specs.Readings.Announces.{heard, sensed}
use Rattle.language_theory.proofs.Turning.{turns}
use Rattle.language_theory.proofs.Sides.{side_number, refuses_number, side_negative, refuses_side_negative, side_any, refuses_any}
use Rattle.parser.specs.Models.{left}
use Rattle.parser.proofs.Exits.{handed_on, back_at}
use Rattle.parser.proofs.script.Script.read_side.Goals as goal

pub returns-then-at_name : goal.returns-then-at_name
returns-then-at_name c = MatchResult-weaker c.read_named.result c.read_named.ensures (λ x h. h) (λ e h. h (sym c.if-at_name.ensures))

pub returns-in_err-read_range : goal.returns-in_err-read_range
returns-in_err-read_range c =
    let m = c.if-accept.ensures.passed in
    handed_on _ _ c.from_residual.result _ c.from_residual.ensures.1
    (turns (refuses_any _ _ heard m.1 _) c.in_err-read_range.ensures)

pub returns-then-accept : goal.returns-then-accept
returns-then-accept c =
    let m = c.if-accept.ensures.passed in
    (any Heard c.in_ok-read_range.field-0, c.any_of.ensures, (side_any _ _ heard m.1 _ _ c.in_ok-read_range.ensures, refl))

pub returns-in_err-read_range-2 : goal.returns-in_err-read_range-2
returns-in_err-read_range-2 c =
    let m = sym c.if-accept.ensures.stays ∙ c.if-accept-2.ensures.passed.1 in
    handed_on _ _ c.from_residual-in_err-read_range-2.result _ c.from_residual-in_err-read_range-2.ensures.1
    (turns (refuses_any _ _ sensed m _) c.in_err-read_range-2.ensures)

pub returns-then-accept-2 : goal.returns-then-accept-2
returns-then-accept-2 c =
    let m = sym c.if-accept.ensures.stays ∙ c.if-accept-2.ensures.passed.1 in
    (any Sensed c.in_ok-read_range-2.field-0, c.any_of-then-accept-2.ensures, (side_any _ _ sensed m _ _ c.in_ok-read_range-2.ensures, refl))

pub returns-then-accept-3 : goal.returns-then-accept-3
returns-then-accept-3 c =
    let p = c.if-accept-3.ensures.passed.0 in
    let m = sym c.if-accept.ensures.stays ∙ sym c.if-accept-2.ensures.stays ∙ c.if-accept-3.ensures.passed.1 in
    MatchResult-weaker c.read_negative.result c.read_negative.ensures (λ x h. (h.0, h.1, (side_negative _ _ p _ _ _ _ m h.2.0, h.2.1)))
    (λ e h. turns (refuses_side_negative _ _ p _ _ _ m) h)

pub returns-in_err-n : goal.returns-in_err-n
returns-in_err-n c =
    let n = c.args.self.now.names in
    let a = c.if-accept.ensures.stays in
    let b = c.if-accept-2.ensures.stays ∙ a in
    let d = c.if-accept-3.ensures.stays ∙ b in
    handed_on _ _ c.from_residual-in_err-n.result _ c.from_residual-in_err-n.ensures.1
    (turns (refuses_number _ _ (left c.args.self.now.sentence) _ (sym c.if-at_name.ensures) (sym c.if-accept.ensures.is) (ap (first_is Sense) (sym a) ∙ sym c.if-accept-2.ensures.is)
    (ap (first_is Minus) (sym b) ∙ sym c.if-accept-3.ensures.is)) (back_at d c.in_err-n.ensures))

pub returns : goal.returns
returns c =
    let z : to_z w64 (of_z w64 c.from.result) ≡ pos c.in_ok-n.n = to_z-of_z w64 c.from.result (search rules) ∙ c.from.ensures in
    let d = c.if-accept-3.ensures.stays ∙ c.if-accept-2.ensures.stays ∙ c.if-accept.ensures.stays in
    (constant (to_z w64 (of_z w64 c.from.result)), c.constant.ensures, (side_number _ _ c.in_ok-n.n _ _ _ _ z (sym d ∙ c.in_ok-n.ensures), refl))
