use Rattle.strategy_theory.specs.Lives.Call.{one_round}
use Rattle.solver.specs.Answers.{progressed}
use Rattle.solver.specs.Analyses.{state_of}
use Rattle.sessions.proofs.Carrying.{carries, lived_on, known_on}
use Rattle.sessions.proofs.session.Session.round.Goals as goal

pub invariant_of-self : goal.invariant_of-self
invariant_of-self g c =
    let m = g.B.Book.equations c.args.self.now.book in
    let well = g.met.B.Book.well c.args.self.now.book in
    let s = state_of c.args.self.now.analysis in
    let s' = state_of c.round-progress.new.self in
    let p = c.round-progress.result in
    record {
      lived = lived_on g.K.Kind.ops g.met.K.Kind.laws m well one_round (progressed p) s s' c.round-progress.ensures.life c.args.self.now.lived;
      known = known_on g.K.Kind.ops g.met.K.Kind.laws m well one_round p.rounds p.settled s s' c.round-progress.ensures.life c.args.self.now.lived;
    }

pub returns-clause-life : goal.returns-clause-life
returns-clause-life g c =
    let m = g.B.Book.equations c.args.self.now.book in
    carries g.K.Kind.ops g.met.K.Kind.laws m (g.met.B.Book.well c.args.self.now.book) one_round (progressed c.round-progress.result) (state_of c.args.self.now.analysis) (state_of c.round-progress.new.self) c.round-progress.ensures.life
