use Rattle.std.proofs.Common.{◌≡◌, [], ◌∷◌, pos, neg_ℤ, sym, ap, subst, ◌∙◌, w64, to_z, of_z, rules}
use Rattle.std.proofs.lemmas.Int.{to_z-of_z}
use Rattle.language_theory.proofs.Turning.{turns}
use Rattle.language_theory.proofs.Numbers.{constant_plain, constant_signed, refuses_plain, refuses_signed}
use Rattle.lexer.specs.Words.{Text}
use Rattle.lexer.specs.declared.Mark.TheVariants.{Minus}
use Rattle.language_theory.specs.Expected.Expect.{const}
use Rattle.language_theory.specs.Readings.{first_is, Anywhere, TurnsBack}
use Rattle.parser.specs.Models.{left}
use Rattle.parser.proofs.Exits.{handed_on}
use Rattle.parser.proofs.sentence.Sentence.constant.Goals as goal

pub returns-in_err-n-clause-read : goal.returns-in_err-n-clause-read
returns-in_err-n-clause-read c =
    let m = c.if-accept.ensures.passed in
    handed_on _ _ c.from_residual.result _ c.from_residual.ensures.1 (turns (refuses_signed m.0 _ _ _ m.1) c.in_err-n.ensures)

pub returns-in_err-n-2-clause-read : goal.returns-in_err-n-2-clause-read
returns-in_err-n-2-clause-read c =
    let s = c.if-accept.ensures.stays in
    handed_on _ _ c.from_residual-in_err-n-2.result _ c.from_residual-in_err-n-2.ensures.1
    (subst (λ (t : Text). TurnsBack (const ∷ []) Anywhere t c.in_err-n-2.field-0.0) s
    (turns (refuses_plain (left c.accept.new.self) _ (ap (first_is Minus) s ∙ sym c.if-accept.ensures.is)) c.in_err-n-2.ensures))

pub returns-in_ok-n-clause-read : goal.returns-in_ok-n-clause-read
returns-in_ok-n-clause-read c =
    let m = c.if-accept.ensures.passed in
    let z : to_z w64 (of_z w64 c.negative.result) ≡ neg_ℤ (pos c.in_ok-n.n) = to_z-of_z w64 c.negative.result (search rules) ∙ c.negative.ensures in
    constant_signed c.in_ok-n.n _ m.0 _ _ _ _ z m.1 c.in_ok-n.ensures

pub returns-in_ok-n-2-clause-read : goal.returns-in_ok-n-2-clause-read
returns-in_ok-n-2-clause-read c =
    let z : to_z w64 (of_z w64 c.from.result) ≡ pos c.in_ok-n-2.n = to_z-of_z w64 c.from.result (search rules) ∙ c.from.ensures in
    constant_plain c.in_ok-n-2.n _ _ _ _ z (sym c.if-accept.ensures.stays ∙ c.in_ok-n-2.ensures)
