use Rattle.parser.proofs.Sentences.{all_read}
use Rattle.parser.proofs.sentence.Sentence.end.Goals as goal

pub returns-in-None-default : goal.returns-in-None-default
returns-in-None-default c = all_read c.args.self.now c.in_ok-self.field-0.0 c.in_ok-self.field-0.1 c.in_ok-self.was c.in-None-default.is-0
