use Rattle.std.proofs.Common.{rules, Err, arith}
use Rattle.sessions.proofs.IntervalOf.{upper_in, lower_in, answered, goes_on, lies_inside, stands_there}
use Rattle.sessions.proofs.intervals.Session+Bound+BoundBook.interval.Goals as goal

pub returns-in_err-upper-clause-life : goal.returns-in_err-upper-clause-life
returns-in_err-upper-clause-life c =
    goes_on c.args.self.now.book.graph.now c.args.self.now.analysis.list.now c.args.self.now.analysis.rounds c.args.self.now.lived c.args.point c.args.variable c.from_residual.result (search rules)

pub returns-then-not-self-clause-life : goal.returns-then-not-self-clause-life
returns-then-not-self-clause-life c =
    goes_on c.args.self.now.book.graph.now c.args.self.now.analysis.list.now c.args.self.now.analysis.rounds c.args.self.now.lived c.args.point c.args.variable (Err c.into.result) (search rules)

pub returns-in_err-value-clause-answer : goal.returns-in_err-value-clause-answer
returns-in_err-value-clause-answer c =
    let h = upper_in c.args.self.now.book.graph.now c.args.self.now.analysis.list.now c.args.self.now.analysis.rounds c.args.self.now.lived c.args.point c.args.variable c.in_ok-upper.upper c.in_ok-upper.ensures in
    absurd (omega (arith, c.in_err-value.ensures.answer))

pub returns-in_err-value-clause-life : goal.returns-in_err-value-clause-life
returns-in_err-value-clause-life c =
    goes_on c.args.self.now.book.graph.now c.args.self.now.analysis.list.now c.args.self.now.analysis.rounds c.args.self.now.lived c.args.point c.args.variable c.from_residual-in_err-value.result (returns-in_err-value-clause-answer c)

pub returns-in_err-value-2-clause-answer : goal.returns-in_err-value-2-clause-answer
returns-in_err-value-2-clause-answer c =
    let h = lower_in c.args.self.now.book.graph.now c.args.self.now.analysis.list.now c.args.self.now.analysis.rounds c.args.self.now.lived c.args.point c.args.variable c.in_ok-upper.upper c.in_ok-upper.ensures in
    absurd (omega (arith, c.in_err-value-2.ensures.answer))

pub returns-in_err-value-2-clause-life : goal.returns-in_err-value-2-clause-life
returns-in_err-value-2-clause-life c =
    goes_on c.args.self.now.book.graph.now c.args.self.now.analysis.list.now c.args.self.now.analysis.rounds c.args.self.now.lived c.args.point c.args.variable c.from_residual-in_err-value-2.result (returns-in_err-value-2-clause-answer c)

pub returns-clause-answer : goal.returns-clause-answer
returns-clause-answer c =
    answered c.args.self.now.book.graph.now c.args.self.now.analysis.list.now c.args.self.now.analysis.rounds c.args.self.now.lived c.args.point c.args.variable
    c.in_ok-upper.upper c.in_ok-upper.ensures (search rules) c.in_ok-value.field-0 c.in_ok-value-2.field-0 (search rules) (search rules) c.ends.result c.ends.ensures

pub returns-clause-inside : goal.returns-clause-inside
returns-clause-inside c =
    lies_inside c.args.self.now.book.graph.now c.args.self.now.analysis.list.now c.args.self.now.analysis.rounds c.args.self.now.lived c.args.point c.args.variable _ (returns-clause-answer c)

pub returns-clause-stands : goal.returns-clause-stands
returns-clause-stands c =
    stands_there c.args.self.now.book.graph.now c.args.self.now.analysis.list.now c.args.self.now.analysis.rounds c.args.self.now.lived c.args.point c.args.variable _ (returns-clause-answer c)

pub returns-clause-life : goal.returns-clause-life
returns-clause-life c =
    goes_on c.args.self.now.book.graph.now c.args.self.now.analysis.list.now c.args.self.now.analysis.rounds c.args.self.now.lived c.args.point c.args.variable _ (returns-clause-answer c)
