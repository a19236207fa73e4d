use Rattle.std.proofs.Common.{length, ◌∙◌, sym, subst, arith}
use Rattle.kinds.specs.Limits.{most_items}
use Rattle.kinds.specs.Kinds.{Made}
use Rattle.books.proofs.Sizes.{made_more}
use Rattle.strategy_theory.proofs.Choosing.{value_is}
use Rattle.strategy_theory.proofs.Paths.{relax_made, relax_same, relax_moves, revalued_choices}
use Rattle.solver.proofs.paths.relax.Goals as goal

pub returns-then-same-clause-relaxes : goal.returns-then-same-clause-relaxes
returns-then-same-clause-relaxes g c h =
    let o = g.K.Kind.ops in
    let l = g.met.K.Kind.laws in
    let m = g.B.Book.equations c.args.book.now in
    let well = g.met.B.Book.well c.args.book.now in
    let es = c.args.list.now in
    let u = c.args.unknown in
    let v = c.smaller_term-value.result in
    let f = c.smaller_term-value.ensures (length m) h in
    let at = value_is o es u c.index-list-unknown.result c.in-Some.ensures.inside in
    let equal = c.same.ensures (relax_made o l m well es h u c.in-Some.choice c.in-Some.ensures.value v f) (subst (λ (y : _). Made o most_items y) (sym at) (made_more o l most_items (omega arith) (h u))) in
    relax_same o l m well es h u c.in-Some.choice c.in-Some.ensures.value v f (equal.0 c.if-same.true ∙ at)

pub returns-clause-relaxes : goal.returns-clause-relaxes
returns-clause-relaxes g c h =
    relax_moves g.K.Kind.ops g.met.K.Kind.laws (g.B.Book.equations c.args.book.now) (g.met.B.Book.well c.args.book.now) c.args.list.now h c.args.unknown
    c.in-Some.choice c.in-Some.ensures.value c.smaller_term-value.result (c.smaller_term-value.ensures _ h) c.index-list-unknown-2.result

pub returns-clause-strategy : goal.returns-clause-strategy
returns-clause-strategy g c = revalued_choices c.args.list.now c.args.unknown c.index-list-unknown-2.result c.smaller_term-value.result c.in-Some.ensures.inside
