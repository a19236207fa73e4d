use Rattle.std.proofs.Common.{sym, ◌∙◌}
use Rattle.books.proofs.Bests.{betters_stays, betters_more, betters_first}
use Rattle.books.proofs.evaluation.better.Goals as goal
use Rattle.books.proofs.evaluation.better.Goals.{else-is_some-via-then-is_some+else-at_most, else-is_some-via-else-is_some}

pub returns-then-at_most : goal.returns-then-at_most
returns-then-at_most g c = betters_stays g.K.Kind.ops g.met.K.Kind.laws c.args.known c.args.number c.args.value c.at_most.result c.at_most.ensures
    (sym c.is_some.ensures ∙ c.if-is_some.true) c.if-at_most.true

pub returns-else-is_some : goal.returns-else-is_some
returns-else-is_some g c = elim c.else-is_some.branch [
  | else-is_some-via-then-is_some+else-at_most w ↦ betters_more g.K.Kind.ops g.met.K.Kind.laws c.args.known c.args.number c.args.value w.at_most.result w.at_most.ensures w.if-at_most.false
  | else-is_some-via-else-is_some w ↦ betters_first g.K.Kind.ops g.met.K.Kind.laws c.args.known c.args.number c.args.value (sym c.is_some.ensures ∙ w.if-is_some.false)
]
