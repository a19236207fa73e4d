use Rattle.std.proofs.Common.{◌∷◌}
use Rattle.lexer.specs.declared.Mark.TheVariants.{Semicolon}
use Rattle.language_theory.specs.Expected.{one}
use Rattle.language_theory.specs.Expected.Expect.{span}
use Rattle.language_theory.proofs.Turning.{turns}
use Rattle.parser.proofs.Exits.{handed_on}
use Rattle.parser.proofs.Declaring.{refuses_ending_range, refuses_ending_last}
use Rattle.parser.proofs.declarations.read_ending.Goals as goal

pub returns-in_err-mark : goal.returns-in_err-mark
returns-in_err-mark c =
    handed_on _ _ c.from_residual.result _ c.from_residual.ensures.1
    (turns (λ h k past y. h (span ∷ one Semicolon ∷ k) past tt) c.in_err-mark.ensures)

pub returns-in_err-range : goal.returns-in_err-range
returns-in_err-range c =
    handed_on _ _ c.from_residual-in_err-range.result _ c.from_residual-in_err-range.ensures.1
    (turns (refuses_ending_range c.in_ok-mark.ensures _) c.in_err-range.ensures)

pub returns-in_err-mark-2 : goal.returns-in_err-mark-2
returns-in_err-mark-2 c =
    handed_on _ _ c.from_residual-in_err-mark-2.result _ c.from_residual-in_err-mark-2.ensures.1
    (turns (refuses_ending_last c.in_ok-mark.ensures c.in_ok-range.ensures _) c.in_err-mark-2.ensures)
