use Rattle.std.proofs.Common.{List, sym, subst}
use Rattle.books.specs.declared.Entry.{Entry}
use Rattle.strategy_theory.specs.Lives.Call.{restart}
use Rattle.strategy_theory.specs.Lives.Answer.{done}
use Rattle.strategy_theory.specs.Calls.{state, Prolongs}
use Rattle.strategy_theory.proofs.Making.{restarts}
use Rattle.solver.proofs.analysis.Analysis.restart.Goals as goal

pub returns-clause-life : goal.returns-clause-life
returns-clause-life g c m well =
    let es = c.args.self.now.list.now in
    let n = c.args.self.now.rounds in
    subst (λ (ds : List (Entry _)). Prolongs g.K.Kind.ops m restart done (state es n) (state ds 0)) (sym c.clear.ensures) (restarts g.K.Kind.ops g.met.K.Kind.laws m well es n)
