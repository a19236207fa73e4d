-- The state of an analysis.
use Rattle.strategy_theory.specs.Lives.{State}
use Rattle.strategy_theory.specs.Calls.{state}
use Rattle.solver.specs.declared.analysis.Analysis.{Analysis}

-- the choices, the values and the counted rounds of an analysis
abbrev pub state_of : {V : Type 0} → Analysis V → State V
state_of a = state a.list.now a.rounds
