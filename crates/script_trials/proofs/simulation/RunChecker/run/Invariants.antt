use Rattle.std.proofs.Common.{◌<◌, List, ◌++◌, length}
use Rattle.script_trials.specs.Simulations.{Saw}
use Rattle.script_trials.specs.declared.simulation.State.{State}
use Rattle.script_trials.proofs.simulation.RunChecker.run.Given as goal

abbrev pub invariant-loop : goal.invariant-loop
invariant-loop l = (ss : List State) → Saw l.self.graph.now l.self.results.now ss l.fn.seen → (ts : List State) × Saw l.self.graph.now l.self.results.now (ss ++ ts) l.seen × (0 < l.counter → 0 < length ts)
