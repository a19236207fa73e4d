use Rattle.books.proofs.Evaluating.{at_inside}
use Rattle.strategy_theory.proofs.Choosing.{switch_stays, switch_moves}
use Rattle.solver.proofs.choosing.switch.Goals as goal

pub returns-then-at_most-clause-switches : goal.returns-then-at_most-clause-switches
returns-then-at_most-clause-switches g c h lt =
    let said = c.in-Some.ensures.lookup in
    switch_stays g.K.Kind.ops g.met.K.Kind.laws (g.B.Book.equations c.args.book.now) (g.met.B.Book.well c.args.book.now) c.args.list.now h c.args.unknown
    c.right_side-best.result (c.right_side-best.ensures h) c.at_most.result _ (at_inside g.K.Kind.ops g.met.K.Kind.laws c.args.list.now c.args.unknown c.in-Some.entry.now said.0 said.1)
    c.at_most.ensures c.if-at_most.true

pub returns-clause-switches : goal.returns-clause-switches
returns-clause-switches g c h lt =
    let said = c.in-Some.ensures.lookup in
    switch_moves g.K.Kind.ops g.met.K.Kind.laws (g.B.Book.equations c.args.book.now) (g.met.B.Book.well c.args.book.now) c.args.list.now h c.args.unknown
    c.right_side-best.result (c.right_side-best.ensures h) c.at_most.result _ (at_inside g.K.Kind.ops g.met.K.Kind.laws c.args.list.now c.args.unknown c.in-Some.entry.now said.0 said.1)
    c.at_most.ensures c.if-at_most.false lt c.index-list-unknown.result
