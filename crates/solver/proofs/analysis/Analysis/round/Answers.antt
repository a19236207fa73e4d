use Rattle.strategy_theory.proofs.Making.{makes_round}
use Rattle.solver.proofs.analysis.Analysis.round.Goals as goal

pub returns-clause-life : goal.returns-clause-life
returns-clause-life g c =
    let done = c.advance.ensures in
    makes_round g.K.Kind.ops g.met.K.Kind.laws (g.B.Book.equations c.args.book.now) (g.met.B.Book.well c.args.book.now) c.args.self.now.list.now c.args.self.now.rounds
    c.advance.result.rounds c.advance.result.settled c.advance.new.self.list.now c.advance.new.self.rounds done.ran done.within done.counted
