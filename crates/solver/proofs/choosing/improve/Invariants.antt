use Rattle.std.proofs.Common.{◌≡◌, false}
use Rattle.books.specs.Entries.{values, Short}
use Rattle.strategy_theory.proofs.Choosing.{Improving}
use Rattle.solver.proofs.choosing.improve.Given as goal

abbrev pub invariant-loop-unknown : goal.invariant-loop-unknown
invariant-loop-unknown g l =
    (Short g.K.Kind.ops (values l.initial.list) → Improving g.K.Kind.ops g.met.K.Kind.laws (g.B.Book.equations l.book) l.initial.list l.unknown l.switched l.list) × (l.switched ≡ false → l.list ≡ l.initial.list)
