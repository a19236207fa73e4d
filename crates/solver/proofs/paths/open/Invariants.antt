use Rattle.std.proofs.Common.{◌≡◌, ◌++◌, take, drop}
use Rattle.strategy_theory.specs.Steps.{opened_all}
use Rattle.solver.proofs.paths.open.Given as goal

abbrev pub invariant-loop-entry : goal.invariant-loop-entry
invariant-loop-entry g l = l.list ≡ opened_all g.K.Kind.ops (take l.entry-index l.initial.list) ++ drop l.entry-index l.initial.list
