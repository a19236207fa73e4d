use Rattle.std.proofs.Common.{ℕ, ◌≤◌, List, length, Option, sym, ap, ◌∙◌, subst, arith}
use Rattle.std.proofs.lemmas.Bool.{or_parts}
use Rattle.books.specs.Entries.{values, choices, Short}
use Rattle.strategy_theory.specs.Strategies.{chosen}
use Rattle.strategy_theory.specs.Sweeping.{relaxed}
use Rattle.strategy_theory.proofs.Loops.{swept_more}
use Rattle.solver.proofs.paths.sweep.Goals as goal

pub loop-unknown-preserved : goal.loop-unknown-preserved
loop-unknown-preserved g c =
    let o = g.K.Kind.ops in
    let m = g.B.Book.equations c.args.book.now in
    let es = c.args.list.now in
    let i = c.loop-unknown.unknown in
    let le : i ≤ length es = omega arith in
    let inv = c.loop-unknown.invariant in (
      λ h.
          let e = inv.0 h in
          (c.relax-changed.ensures.relaxes (subst (λ (x : List _). Short o x) (sym e) (h i le))).values
          ∙ ap (λ (s : List (Option ℕ)). relaxed o (chosen m s) (values c.loop-unknown.list) i) inv.1
          ∙ ap (λ (x : List _). relaxed o (chosen m (choices es)) x i) e
          ∙ sym (swept_more o g.met.K.Kind.laws (chosen m (choices es)) (values es) i),
      c.relax-changed.ensures.strategy ∙ inv.1,
      λ e.
          let no = or_parts c.loop-unknown.changed c.relax-changed.result e in
          c.relax-changed.ensures.still no.1 ∙ inv.2 no.0,
    )
