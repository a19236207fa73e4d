use Rattle.std.proofs.Common.{true, ◌∷◌, sym}
use Rattle.base.specs.declared.Reason.TheVariants.{TableSize}
use Rattle.lexer.specs.declared.Mark.TheVariants.{CloseBracket}
use Rattle.language_theory.specs.Expected.{one}
use Rattle.language_theory.specs.Expected.Expect.{just}
use Rattle.language_theory.specs.Expected.Terminal.{any_number}
use Rattle.language_theory.specs.Readings.{Anywhere}
use Rattle.language_theory.proofs.Turning.{turns, turns_at}
use Rattle.parser.specs.Scripts.{sizing}
use Rattle.parser.proofs.Exits.{handed_on}
use Rattle.parser.proofs.Declaring.{refuses_size_number, size_decides, refuses_size_last}
use Rattle.parser.proofs.declarations.read_size.Goals as goal

pub returns-in_err-mark : goal.returns-in_err-mark
returns-in_err-mark c =
    handed_on _ _ c.from_residual.result _ c.from_residual.ensures.1
    (turns (λ h k past y. h (just any_number ∷ one CloseBracket ∷ k) past tt) c.in_err-mark.ensures)

pub returns-in_err-size : goal.returns-in_err-size
returns-in_err-size c =
    handed_on _ _ c.from_residual-in_err-size.result _ c.from_residual-in_err-size.ensures.1
    (turns (refuses_size_number c.in_ok-mark.ensures _) c.in_err-size.ensures)

pub returns-then-wrong_size : goal.returns-then-wrong_size
returns-then-wrong_size c =
    turns_at sizing Anywhere _ _ TableSize _ c.at.ensures
    (λ k past y. size_decides c.in_ok-mark.ensures c.in_ok-size.ensures true (sym c.if-wrong_size.ensures) k past)

pub returns-in_err-mark-2 : goal.returns-in_err-mark-2
returns-in_err-mark-2 c =
    handed_on _ _ c.from_residual-in_err-mark-2.result _ c.from_residual-in_err-mark-2.ensures.1
    (turns (refuses_size_last c.in_ok-mark.ensures c.in_ok-size.ensures (sym c.if-wrong_size.ensures) _) c.in_err-mark-2.ensures)

pub returns : goal.returns
returns c =
    record {
      opened = _;
      at = _;
      closed = _;
      behind_open = _;
      behind_size = _;
      opens = c.in_ok-mark.ensures;
      size = c.in_ok-size.ensures;
      fits = sym c.if-wrong_size.ensures;
      closes = c.in_ok-mark-2.ensures;
    }
