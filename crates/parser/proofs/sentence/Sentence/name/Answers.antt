use Rattle.language_theory.specs.Expected.Terminal.{any_name}
use Rattle.parser.specs.Models.{left}
use Rattle.parser.proofs.Exits.{handed_on}
use Rattle.parser.proofs.Sentences.{at_word, no_name}
use Rattle.parser.proofs.sentence.Sentence.name.Goals as goal

pub returns-in_err-word : goal.returns-in_err-word
returns-in_err-word c = handed_on _ _ c.from_residual.result _ c.from_residual.ensures.1 (c.in_err-word.ensures any_name)

pub returns-in_default : goal.returns-in_default
returns-in_default c =
    at_word any_name c.in_ok-word.word c.in_ok-word.place (left c.args.self.now) (left c.word.new.self) c.at.result c.in_ok-word.ensures c.at.ensures
    (no_name c.in_ok-word.word c.in_ok-word.place c.in_default.not-Name)
