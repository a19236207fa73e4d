use Rattle.std.proofs.Common.{◌<◌, List, length}
use Rattle.script_trials.specs.Simulations.{Saw}
use Rattle.script_trials.specs.declared.simulation.State.{State}
use Rattle.script_trials.proofs.simulation.observe.Given as goal

abbrev pub invariant-loop : goal.invariant-loop
invariant-loop l = (ss : List State) × Saw l.graph l.results ss l.seen × (0 < l.counter → 0 < l.limits.steps → 0 < length ss)
