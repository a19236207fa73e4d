use Rattle.strategy_theory.proofs.Making.{shows_rounds}
use Rattle.solver.proofs.analysis.Analysis.rounds.Goals as goal

pub returns-clause-life : goal.returns-clause-life
returns-clause-life g c m well = shows_rounds g.K.Kind.ops g.met.K.Kind.laws m well c.args.self.now.list.now c.args.self.now.rounds
