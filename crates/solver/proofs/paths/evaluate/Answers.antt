use Rattle.std.proofs.Common.{◌≡◌, ap, ◌∙◌, length, arith}
use Rattle.strategy_theory.specs.Steps.{opened_all}
use Rattle.strategy_theory.proofs.Paths.{swept_next, swept_still, swept_out, opened_choices}
use Rattle.solver.proofs.paths.evaluate.Goals as goal

pub loop-turn-preserved : goal.loop-turn-preserved
loop-turn-preserved g c =
    let n : length c.open.new.list ≡ length (opened_all g.K.Kind.ops c.args.list.now) = ap length c.open.ensures in
    swept_next g.K.Kind.ops g.met.K.Kind.laws (g.B.Book.equations c.args.book.now) (opened_all g.K.Kind.ops c.args.list.now) c.loop-turn._turn c.loop-turn.list c.sweep.new.list
    c.loop-turn.invariant (c.loop-turn.auto.list ∙ n) c.sweep.ensures.sweeps c.sweep.ensures.strategy (omega arith)

pub returns-then-not-sweep-clause-values : goal.returns-then-not-sweep-clause-values
returns-then-not-sweep-clause-values g c =
    let n : length c.open.new.list ≡ length (opened_all g.K.Kind.ops c.args.list.now) = ap length c.open.ensures in
    swept_still g.K.Kind.ops g.met.K.Kind.laws (g.B.Book.equations c.args.book.now) (g.met.B.Book.well c.args.book.now) c.args.list.now c.loop-turn.list c.loop-turn._turn c.loop-turn.invariant
    c.sweep.new.list (omega arith) (c.loop-turn.auto.list ∙ n) c.sweep.ensures.sweeps (c.sweep.ensures.still c.if-not-sweep.true)

pub returns-then-not-sweep-clause-strategy : goal.returns-then-not-sweep-clause-strategy
returns-then-not-sweep-clause-strategy g c =
    c.sweep.ensures.strategy ∙ c.loop-turn.invariant.strategy ∙ opened_choices g.K.Kind.ops g.met.K.Kind.laws (g.B.Book.equations c.args.book.now) c.args.list.now

pub returns-clause-values : goal.returns-clause-values
returns-clause-values g c =
    let n : length c.open.new.list ≡ length (opened_all g.K.Kind.ops c.args.list.now) = ap length c.open.ensures in
    swept_out g.K.Kind.ops g.met.K.Kind.laws (g.B.Book.equations c.args.book.now) (g.met.B.Book.well c.args.book.now) c.args.list.now c.loop-turn.list c.loop-turn._turn c.loop-turn.invariant (omega arith)

pub returns-clause-strategy : goal.returns-clause-strategy
returns-clause-strategy g c = c.loop-turn.invariant.strategy ∙ opened_choices g.K.Kind.ops g.met.K.Kind.laws (g.B.Book.equations c.args.book.now) c.args.list.now
