use Rattle.std.proofs.Common.{Ok, Option, ap, ◌∙◌}
use Rattle.lexer.specs.Reader.{found_at, leads}
use Rattle.lexer.specs.declared.Word.{Word}
use Rattle.parser.specs.Models.{left}
use Rattle.parser.proofs.Sentences.{fault_exit, at_end}
use Rattle.parser.proofs.sentence.Sentence.word.Goals as goal

pub returns-in_err-word : goal.returns-in_err-word
returns-in_err-word c = fault_exit _ _ (left c.args.self.now) (left c.take.new.self) c.from_residual.result c.in_err-word.ensures c.from_residual.ensures.1

pub returns-in-None-default : goal.returns-in-None-default
returns-in-None-default c m =
    at_end m c.in_ok-word.field-0.1 (left c.args.self.now) c.at.result
    (c.in_ok-word.ensures ∙ ap (λ (o : Option Word). leads (found_at c.in_ok-word.field-0.1 (Ok o)) (left c.take.new.self)) c.in-None-default.is-0) c.at.ensures
