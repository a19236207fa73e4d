use Rattle.std.proofs.Common.{◌≡◌, map}
use Rattle.std.specs.List.{range_with_len}
use Rattle.books.specs.Entries.{values}
use Rattle.script_graph.specs.Meaning.{meaning}
use Rattle.script_trials.specs.Sessions.{width_of, value_numbered}
use Rattle.script_trials.proofs.session_results.values_of.Given as goal

abbrev pub invariant-loop-pair : goal.invariant-loop-pair
invariant-loop-pair l = l.values.items ≡ map (value_numbered (meaning l.bounds.book.graph.now) (values l.bounds.analysis.list.now) (meaning l.grades.book.graph.now) (values l.grades.analysis.list.now) (width_of l.graph)) (range_with_len 0 l.pair)
