use Rattle.std.proofs.Common.{◌≡◌, false}
use Rattle.books.specs.Entries.{values, choices}
use Rattle.strategy_theory.specs.Strategies.{chosen}
use Rattle.strategy_theory.specs.Sweeping.{swept}
use Rattle.strategy_theory.specs.Steps.{ShortSweep}
use Rattle.solver.proofs.paths.sweep.Given as goal

abbrev pub invariant-loop-unknown : goal.invariant-loop-unknown
invariant-loop-unknown g l =
    (ShortSweep g.K.Kind.ops (g.B.Book.equations l.book) l.initial.list → values l.list ≡ swept g.K.Kind.ops (chosen (g.B.Book.equations l.book) (choices l.initial.list)) (values l.initial.list) l.unknown) ×
    (choices l.list ≡ choices l.initial.list) ×
    (l.changed ≡ false → l.list ≡ l.initial.list)
