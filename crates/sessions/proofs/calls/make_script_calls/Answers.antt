use Rattle.kinds.specs.Values.{bounds}
use Rattle.kinds.specs.Laws.{bounds_laws}
use Rattle.strategy_theory.proofs.Lived.{lives}
use Rattle.soundness_theory.proofs.Sound.{sound}
use Rattle.script_graph.specs.Meaning.{meaning}
use Rattle.script_books.specs.Fitted.{graph_fits}
use Rattle.sessions.proofs.calls.make_script_calls.Goals as goal

pub returns-in_err-list-clause-law : goal.returns-in_err-list-clause-law
returns-in_err-list-clause-law c = lives bounds bounds_laws

pub returns-clause-law : goal.returns-clause-law
returns-clause-law c = lives bounds bounds_laws

pub returns-in_err-list-clause-runs : goal.returns-in_err-list-clause-runs
returns-in_err-list-clause-runs c = sound (meaning c.args.graph.now) (graph_fits c.args.graph.now)

pub returns-clause-runs : goal.returns-clause-runs
returns-clause-runs c = sound (meaning c.args.graph.now) (graph_fits c.args.graph.now)

pub returns-in_err-list-clause-fits : goal.returns-in_err-list-clause-fits
returns-in_err-list-clause-fits c = graph_fits c.args.graph.now

pub returns-clause-fits : goal.returns-clause-fits
returns-clause-fits c = graph_fits c.args.graph.now
