use Rattle.std.proofs.Common.{Bool, subst}
use Rattle.strategy_theory.specs.Steps.{ImprovesAll}
use Rattle.strategy_theory.proofs.Turns.{ready_long, counts_none, counts_more, ready_more}
use Rattle.solver.proofs.rounds.make_rounds.Goals as goal

pub loop-rounds-init : goal.loop-rounds-init
loop-rounds-init g c r = (counts_none g.K.Kind.ops g.met.K.Kind.laws (g.B.Book.equations c.args.book.now) (g.met.B.Book.well c.args.book.now) c.args.list.now, r)

pub loop-rounds-preserved : goal.loop-rounds-preserved
loop-rounds-preserved g c r =
    let o = g.K.Kind.ops in
    let l = g.met.K.Kind.laws in
    let m = g.B.Book.equations c.args.book.now in
    let well = g.met.B.Book.well c.args.book.now in
    let inv = c.loop-rounds.invariant r in
    let es = c.loop-rounds.list in
    let i = subst (λ (t : Bool). ImprovesAll o m es t c.improve.new.list) c.if-not-improve.false (c.improve.ensures.improves inv.1.short (ready_long o l m well es inv.1)) in (
      counts_more o l m well c.args.list.now c.loop-rounds.rounds es c.improve.new.list c.evaluate.new.list inv.0 inv.1 i c.evaluate.ensures.values c.evaluate.ensures.strategy,
      ready_more o l m well c.args.list.now c.loop-rounds.rounds es c.improve.new.list c.evaluate.new.list inv.0 inv.1 i c.evaluate.ensures.values c.evaluate.ensures.strategy,
    )
