use Rattle.std.proofs.Common.{rules, Err}
use Rattle.sessions.proofs.FindingsOf.{all_found, goes_on}
use Rattle.sessions.proofs.findings.Session+Bound+BoundBook.findings.Goals as goal

pub returns-then-not-self-clause-answer : goal.returns-then-not-self-clause-answer
returns-then-not-self-clause-answer c = search rules

pub returns-then-not-self-clause-life : goal.returns-then-not-self-clause-life
returns-then-not-self-clause-life c =
    goes_on c.args.self.now.book.graph.now c.args.self.now.analysis.list.now c.args.self.now.analysis.rounds c.args.self.now.lived c.args.list.now c.args.list.now (Err c.into.result) (returns-then-not-self-clause-answer c)

pub returns-then-list-count_findings-clause-answer : goal.returns-then-list-count_findings-clause-answer
returns-then-list-count_findings-clause-answer c = search rules

pub returns-then-list-count_findings-clause-life : goal.returns-then-list-count_findings-clause-life
returns-then-list-count_findings-clause-life c =
    goes_on c.args.self.now.book.graph.now c.args.self.now.analysis.list.now c.args.self.now.analysis.rounds c.args.self.now.lived c.args.list.now c.args.list.now (Err c.into-then-list-count_findings.result) (returns-then-list-count_findings-clause-answer c)

pub returns-clause-answer : goal.returns-clause-answer
returns-clause-answer c = search rules

pub returns-clause-complete : goal.returns-clause-complete
returns-clause-complete c =
    all_found c.args.self.now.book.graph.now c.args.self.now.analysis.list.now c.args.self.now.analysis.rounds c.args.self.now.lived c.args.list.now c.fill.new.list c.fill.result (returns-clause-answer c)

pub returns-clause-life : goal.returns-clause-life
returns-clause-life c =
    goes_on c.args.self.now.book.graph.now c.args.self.now.analysis.list.now c.args.self.now.analysis.rounds c.args.self.now.lived c.args.list.now c.fill.new.list c.fill.result (returns-clause-answer c)
