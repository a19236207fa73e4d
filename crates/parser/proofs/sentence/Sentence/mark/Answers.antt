use Rattle.std.proofs.Common.{rules}
use Rattle.language_theory.specs.Expected.Terminal.{the}
use Rattle.parser.specs.Models.{left}
use Rattle.parser.proofs.Exits.{handed_on}
use Rattle.parser.proofs.Sentences.{at_word, no_sign}
use Rattle.parser.proofs.sentence.Sentence.mark.Goals as goal
use Rattle.parser.proofs.sentence.Sentence.mark.Goals.{in_default-via-in-Sign+else-eq, in_default-via-in_default}

pub returns-in_err-word : goal.returns-in_err-word
returns-in_err-word c = handed_on _ _ c.from_residual.result _ c.from_residual.ensures.1 (c.in_err-word.ensures (the c.args.mark))

pub returns-in_default : goal.returns-in_default
returns-in_default c =
    at_word (the c.args.mark) c.in_ok-word.word c.in_ok-word.place (left c.args.self.now) (left c.word.new.self) c.at.result c.in_ok-word.ensures c.at.ensures
    (
    elim c.in_default.branch [
      | in_default-via-in-Sign+else-eq w ↦ search rules
      | in_default-via-in_default w ↦ no_sign c.args.mark c.in_ok-word.word c.in_ok-word.place w.in_default.not-Sign
    ]
    )
