use Rattle.std.proofs.Common.{sym, ap}
use Rattle.lexer.specs.Reader.{as_next, leads}
use Rattle.parser.specs.Models.{left}
use Rattle.parser.proofs.Sentences.{taken_mark}
use Rattle.parser.proofs.sentence.Sentence.accept.Goals as goal

pub returns-clause-passed : goal.returns-clause-passed
returns-clause-passed c =
    taken_mark c.args.mark (as_next c.args.self.now.present) (left c.args.self.now) _ (ap (leads (as_next c.args.self.now.present)) c.next-self.ensures.words) (sym c.if-not-at.ensures)
