use Rattle.std.proofs.Common.{arith}
use Rattle.script_books.proofs.Edges.{upper_behind}
use Rattle.script_books.proofs.bounds.upper_at.Goals as goal

pub returns : goal.returns
returns c =
    let s = c.args.spot in
    upper_behind c.args.graph.now s.point s.variable c.args.number c.in_ok-edge.edge c.start_of-start.result.variables c.start_of-start.result.point (omega arith) c.in_ok-edge.ensures.edge c.start_of-start.ensures c.upper_of.result c.upper_of.ensures
