use Rattle.strategy_theory.specs.Lives.Call.{run}
use Rattle.solver.specs.Answers.{progressed}
use Rattle.solver.specs.Analyses.{state_of}
use Rattle.sessions.proofs.Carrying.{carries, lived_on, known_on, refused_on}
use Rattle.sessions.proofs.session.Session.run.Goals as goal

pub returns-in_err-progress-clause-life : goal.returns-in_err-progress-clause-life
returns-in_err-progress-clause-life g c =
    let m = g.B.Book.equations c.args.self.now.book in
    refused_on g.K.Kind.ops g.met.K.Kind.laws m (g.met.B.Book.well c.args.self.now.book) progressed (run c.args.budget) c.from_residual.result c.in_err-progress.field-0.0 (state_of c.args.self.now.analysis) (state_of c.run.new.self) c.from_residual.ensures.1 c.in_err-progress.ensures.life

pub invariant_of-self-2 : goal.invariant_of-self-2
invariant_of-self-2 g c =
    let m = g.B.Book.equations c.args.self.now.book in
    let well = g.met.B.Book.well c.args.self.now.book in
    let s = state_of c.args.self.now.analysis in
    let s' = state_of c.run.new.self in
    let p = c.in_ok-progress.progress in
    record {
      lived = lived_on g.K.Kind.ops g.met.K.Kind.laws m well (run c.args.budget) (progressed p) s s' c.in_ok-progress.ensures.life c.args.self.now.lived;
      known = known_on g.K.Kind.ops g.met.K.Kind.laws m well (run c.args.budget) p.rounds p.settled s s' c.in_ok-progress.ensures.life c.args.self.now.lived;
    }

pub returns-clause-life : goal.returns-clause-life
returns-clause-life g c =
    let m = g.B.Book.equations c.args.self.now.book in
    carries g.K.Kind.ops g.met.K.Kind.laws m (g.met.B.Book.well c.args.self.now.book) (run c.args.budget) (progressed c.in_ok-progress.progress) (state_of c.args.self.now.analysis) (state_of c.run.new.self) c.in_ok-progress.ensures.life
