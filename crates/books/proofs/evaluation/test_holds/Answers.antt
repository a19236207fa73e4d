use Rattle.books.specs.Entries.{values}
use Rattle.books.proofs.Evaluating.{single_is, joint_is}
use Rattle.books.proofs.evaluation.test_holds.Goals as goal

pub returns-in-Single : goal.returns-in-Single
returns-in-Single g c n h = single_is g.K.Kind.ops g.met.K.Kind.laws (values c.args.list.now) h n c.args.test c.in-Single.unknown c.in-Single.threshold c.value_at.result c.at_most.result
    c.in-Single.is c.value_at.ensures c.at_most.ensures

pub returns-in-Joint : goal.returns-in-Joint
returns-in-Joint g c n h = joint_is g.K.Kind.ops g.met.K.Kind.laws (values c.args.list.now) h n c.args.test c.in-Joint.unknown c.in-Joint.other c.in-Joint.threshold c.value_at-value.result
    c.value_at-in-Joint.result c.joint.result c.in-Joint.is c.value_at-value.ensures c.value_at-in-Joint.ensures c.joint.ensures
