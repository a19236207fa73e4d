use Rattle.std.proofs.Common.{rules, Err}
use Rattle.sessions.proofs.GradeOf.{answered, goes_on}
use Rattle.sessions.proofs.grades.Session+Grade+GradeBook.grade.Goals as goal

pub returns-in_err-unknown-clause-life : goal.returns-in_err-unknown-clause-life
returns-in_err-unknown-clause-life c =
    goes_on c.args.self.now.book.graph.now c.args.self.now.analysis.list.now c.args.self.now.analysis.rounds c.args.self.now.lived c.args.point c.args.variable c.from_residual.result (search rules)

pub returns-then-not-self-clause-life : goal.returns-then-not-self-clause-life
returns-then-not-self-clause-life c =
    goes_on c.args.self.now.book.graph.now c.args.self.now.analysis.list.now c.args.self.now.analysis.rounds c.args.self.now.lived c.args.point c.args.variable (Err c.into.result) (search rules)

pub returns-clause-answer : goal.returns-clause-answer
returns-clause-answer c =
    answered c.args.self.now.book.graph.now c.args.self.now.analysis.list.now c.args.self.now.analysis.rounds c.args.self.now.lived c.args.point c.args.variable
    c.in_ok-unknown.unknown c.in_ok-unknown.ensures (search rules) c.value.result c.value.ensures.answer

pub returns-clause-life : goal.returns-clause-life
returns-clause-life c =
    goes_on c.args.self.now.book.graph.now c.args.self.now.analysis.list.now c.args.self.now.analysis.rounds c.args.self.now.lived c.args.point c.args.variable c.value.result (returns-clause-answer c)
