use Rattle.std.proofs.Common.{◌<◌, List, length, sym, ◌∙◌, subst, arith}
use Rattle.books.specs.Entries.{Short}
use Rattle.std.proofs.lemmas.Bool.{or_parts}
use Rattle.strategy_theory.proofs.Choosing.{improving_more, improved_all}
use Rattle.solver.proofs.choosing.improve.Goals as goal

pub loop-unknown-preserved : goal.loop-unknown-preserved
loop-unknown-preserved g c =
    let o = g.K.Kind.ops in
    let l = g.met.K.Kind.laws in
    let m = g.B.Book.equations c.args.book.now in
    let es = c.args.list.now in
    let lt : c.loop-unknown.unknown < length c.loop-unknown.list = omega arith in (
      λ h.
          let inv = c.loop-unknown.invariant.0 h in
          improving_more o l m es c.loop-unknown.unknown c.loop-unknown.switched c.loop-unknown.list c.switch-switched.new.list inv lt c.switch-switched.result
          (c.switch-switched.ensures.switches (subst (λ (x : List _). Short o x) (sym inv.kept) h) lt),
      λ e.
          let no = or_parts c.loop-unknown.switched c.switch-switched.result e in
          c.switch-switched.ensures.still no.1 ∙ c.loop-unknown.invariant.1 no.0,
    )

pub returns : goal.returns
returns g c = record {
  improves = λ h len. improved_all g.K.Kind.ops g.met.K.Kind.laws (g.B.Book.equations c.args.book.now) c.args.list.now c.loop-unknown.unknown c.loop-unknown.switched c.loop-unknown.list
      (c.loop-unknown.invariant.0 h) len c.loop-unknown.auto.list (omega arith);
  still = c.loop-unknown.invariant.1;
}
