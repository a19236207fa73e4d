use Rattle.std.proofs.Common.{rules, arith, tests, length}
use Rattle.std.proofs.lemmas.Iterator.{YieldsList-from_range}
use Rattle.std.proofs.lemmas.Iterator.Search.{all_from_yields_List}
use Rattle.soundness_theory.specs.Runs.{of}
use Rattle.reference.specs.Intervals.{contains}
use Rattle.reference.specs.Results.{value_at}
use Rattle.script_trials.proofs.simulation.RunChecker.is_inside.Goals as goal

pub returns : goal.returns
returns c =
    let n = length c.args.self.now.graph.now.variables.items in
    all_from_yields_List (λ v. contains (value_at c.args.self.now.results.now c.args.state.now.point v).interval (of c.args.state.now.values v)) _ _ c.all.result c.all.ensures.ran (YieldsList-from_range 0 n n (cc) (omega arith)) (λ x b q k. search (rules, tests))
