use Rattle.script_books.proofs.Edges.{grade_behind}
use Rattle.script_books.proofs.grades.behind.Goals as goal

pub returns : goal.returns
returns c =
    let s = c.args.spot in
    grade_behind c.args.graph.now s.point s.variable c.args.number c.in_ok-edge.edge c.start_of-start.result.variables c.start_of-start.result.point c.requires.later c.in_ok-edge.ensures.edge c.start_of-start.ensures c.grade_of.result c.grade_of.ensures
