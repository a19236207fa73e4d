use Rattle.strategy_theory.specs.Steps.{Ready, Counts}
use Rattle.solver.proofs.rounds.make_rounds.Given as goal

abbrev pub invariant-loop-rounds : goal.invariant-loop-rounds
invariant-loop-rounds g l = Ready g.K.Kind.ops (g.B.Book.equations l.book) l.initial.list →
    Counts g.K.Kind.ops (g.B.Book.equations l.book) l.initial.list l.rounds l.list × Ready g.K.Kind.ops (g.B.Book.equations l.book) l.list
