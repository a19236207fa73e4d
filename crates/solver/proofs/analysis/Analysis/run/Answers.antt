use Rattle.std.proofs.Common.{ℕ, ◌≤◌, refl, subst, arith, rules}
use Rattle.kinds.specs.Limits.{most_rounds}
use Rattle.strategy_theory.specs.Lives.Call.{run}
use Rattle.strategy_theory.specs.Calls.{state, Prolongs}
use Rattle.solver.specs.Answers.{progressed}
use Rattle.solver.specs.Analyses.{state_of}
use Rattle.solver.proofs.Told.{told_run, told_no_run}
use Rattle.solver.proofs.analysis.Analysis.run.Goals as goal

pub returns-in_default-clause-life : goal.returns-in_default-clause-life
returns-in_default-clause-life g c =
    told_no_run g.K.Kind.ops g.met.K.Kind.laws (g.B.Book.equations c.args.book.now) (g.met.B.Book.well c.args.book.now) c.args.self.now.list.now c.args.self.now.rounds
    c.args.budget c.into.result c.args.self.now.list.now (search rules) c.into.ensures refl

pub returns-clause-life : goal.returns-clause-life
returns-clause-life g c =
    let o = g.K.Kind.ops in
    let m = g.B.Book.equations c.args.book.now in
    let es = c.args.self.now.list.now in
    let n = c.args.self.now.rounds in
    let done = c.advance.ensures in
    let le : c.in-Ok.budget ≤ most_rounds = omega (arith, c.in-Ok.ensures) in
    subst (λ (b : ℕ). Prolongs o m (run b) (progressed c.advance.result) (state es n) (state_of c.advance.new.self)) c.in-Ok.ensures.1
    (told_run o g.met.K.Kind.laws m (g.met.B.Book.well c.args.book.now) es n c.in-Ok.budget c.advance.result c.advance.new.self.list.now c.advance.new.self.rounds le done.within done.ran done.counted)
