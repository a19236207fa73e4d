use Rattle.std.proofs.Common.{rules}
use Rattle.script_books.proofs.Edges.{fits_at}
use Rattle.script_books.proofs.spots.edge_to.Goals as goal

pub returns-in-Some-clause-fits : goal.returns-in-Some-clause-fits
returns-in-Some-clause-fits c = fits_at c.args.graph.now c.args.point c.args.number c.in-Some.edge.now (search rules) (search rules)
