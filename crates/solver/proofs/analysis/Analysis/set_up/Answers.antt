use Rattle.std.proofs.Common.{◌≡◌, ℕ, List, length, sym, refl, ap, ◌∙◌, subst₂, arith}
use Rattle.books.specs.declared.Entry.{Entry}
use Rattle.strategy_theory.specs.Calls.{state, fresh, Begins}
use Rattle.strategy_theory.proofs.Making.{begins}
use Rattle.strategy_theory.proofs.Stands.{stands}
use Rattle.solver.proofs.analysis.Analysis.set_up.Goals as goal

pub returns-in_default-clause-theory : goal.returns-in_default-clause-theory
returns-in_default-clause-theory g c = stands g.K.Kind.ops g.met.K.Kind.laws

pub returns-clause-starts : goal.returns-clause-starts
returns-clause-starts g c =
    let o = g.K.Kind.ops in
    let m = g.B.Book.equations c.args.book.now in
    let long : length c.in-Some.front.now ≡ length m = omega (arith, c.in-Some.ensures.lookup.0.3, c.count.ensures) in
    let is : c.begin.result.list.now ≡ fresh o (length m) = c.begin.ensures.fresh.0 ∙ ap (λ (k : ℕ). fresh o k) long in (
      omega (arith, c.in-Some.ensures.lookup.0.1, c.count.ensures),
      is,
      c.begin.ensures.fresh.1,
      subst₂ (λ (ds : List (Entry _)) (n : ℕ). Begins o m (state ds n)) (sym is) (sym c.begin.ensures.fresh.1) (begins o g.met.K.Kind.laws m (g.met.B.Book.well c.args.book.now) (length m) refl),
    )

pub returns-clause-theory : goal.returns-clause-theory
returns-clause-theory g c = stands g.K.Kind.ops g.met.K.Kind.laws
