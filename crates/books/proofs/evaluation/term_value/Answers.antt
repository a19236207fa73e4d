use Rattle.books.specs.Entries.{values}
use Rattle.books.proofs.Evaluating.{shifted_is}
use Rattle.books.proofs.evaluation.term_value.Goals as goal

pub returns-in-Shifted : goal.returns-in-Shifted
returns-in-Shifted g c n h = shifted_is g.K.Kind.ops g.met.K.Kind.laws (values c.args.list.now) h n c.args.part c.in-Shifted.unknown c.in-Shifted.weight c.value_at.result c.shift.result
    c.in-Shifted.is c.value_at.ensures c.shift.ensures
