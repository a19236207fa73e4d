use Rattle.books.specs.Entries.{values}
use Rattle.books.proofs.Evaluating.{one_is, two_then, two_else}
use Rattle.books.proofs.evaluation.smaller_term.Goals as goal

pub returns-in-One : goal.returns-in-One
returns-in-One g c n h = one_is g.K.Kind.ops g.met.K.Kind.laws (values c.args.list.now) h n c.args.parts c.in-One.part c.term_value.result c.in-One.is (c.term_value.ensures n h)

pub returns-then-at_most : goal.returns-then-at_most
returns-then-at_most g c n h = two_then g.K.Kind.ops g.met.K.Kind.laws (values c.args.list.now) h n c.args.parts c.in-Two.part c.in-Two.other
    c.term_value-value.result c.term_value-against.result c.at_most.result
    c.in-Two.is (c.term_value-value.ensures n h) (c.term_value-against.ensures n h) c.at_most.ensures c.if-at_most.true

pub returns-else-at_most : goal.returns-else-at_most
returns-else-at_most g c n h = two_else g.K.Kind.ops g.met.K.Kind.laws (values c.args.list.now) h n c.args.parts c.in-Two.part c.in-Two.other
    c.term_value-value.result c.term_value-against.result c.at_most.result
    c.in-Two.is (c.term_value-value.ensures n h) (c.term_value-against.ensures n h) c.at_most.ensures c.if-at_most.false
