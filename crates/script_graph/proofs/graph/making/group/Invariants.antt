-- the edges so far stand by their targets
use Rattle.std.proofs.Common.{◌≡◌, take, vec_len, vec_items}
use Rattle.script_graph.specs.Grouping.{ByTarget}
use Rattle.script_graph.proofs.graph.making.group.Given as goal

abbrev pub invariant-loop-edge : goal.invariant-loop-edge
invariant-loop-edge l = (vec_len l.incoming ≡ l.points) × ByTarget (take l.edge-index l.edges) (vec_items l.incoming)
