use Rattle.strategy_theory.specs.Steps.{opened_all}
use Rattle.strategy_theory.proofs.Paths.{Swept}
use Rattle.solver.proofs.paths.evaluate.Given as goal

abbrev pub invariant-loop-turn : goal.invariant-loop-turn
invariant-loop-turn g l = Swept g.K.Kind.ops g.met.K.Kind.laws (g.B.Book.equations l.book) (opened_all g.K.Kind.ops l.fn.list) l._turn l.list
