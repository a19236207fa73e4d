use Rattle.std.proofs.Common.{◌∙◌}
use Rattle.books.specs.Entries.{values}
use Rattle.books.proofs.Evaluating.{worth_then, worth_else}
use Rattle.books.proofs.evaluation.alternative_value.Goals as goal

pub returns-then-test_holds : goal.returns-then-test_holds
returns-then-test_holds g c n h w = worth_then g.K.Kind.ops g.met.K.Kind.laws (values c.args.list.now) h n c.args.choice c.test_holds.result c.smaller_term.result
    c.if-test_holds.true (c.test_holds.ensures n h) (c.smaller_term.ensures n h) w

pub returns-else-test_holds : goal.returns-else-test_holds
returns-else-test_holds g c n h w = c.least.ensures ∙ worth_else g.K.Kind.ops g.met.K.Kind.laws (values c.args.list.now) h n c.args.choice c.test_holds.result
    c.if-test_holds.false (c.test_holds.ensures n h) w
