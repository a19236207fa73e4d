use Rattle.strategy_theory.specs.Lives.Call.{choice_of}
use Rattle.strategy_theory.specs.Lives.Answer.{choice as chosen}
use Rattle.solver.specs.Answers.{answered}
use Rattle.solver.specs.Analyses.{state_of}
use Rattle.sessions.proofs.Carrying.{carries}
use Rattle.sessions.proofs.session.Session.choice.Goals as goal

pub returns-clause-life : goal.returns-clause-life
returns-clause-life g c =
    let m = g.B.Book.equations c.args.self.now.book in
    let well = g.met.B.Book.well c.args.self.now.book in
    let s = state_of c.args.self.now.analysis in
    carries g.K.Kind.ops g.met.K.Kind.laws m well (choice_of c.args.unknown) (answered chosen c.choice.result) s s (c.choice.ensures.life m well)
