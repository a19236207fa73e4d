use Rattle.strategy_theory.specs.Lives.Call.{run}
use Rattle.solver.specs.Analyses.{state_of}
use Rattle.sessions.proofs.Carrying.{still_begun, lived_begun, known_on}
use Rattle.sessions.proofs.session.rests.Goals as goal

pub returns-in-Ok-clause-begun : goal.returns-in-Ok-clause-begun
returns-in-Ok-clause-begun g c e =
    let o = g.K.Kind.ops in
    let l = g.met.K.Kind.laws in
    let m = g.B.Book.equations c.args.book.now in
    let well = g.met.B.Book.well c.args.book.now in
    let p = c.in-Ok.progress in
    let s = state_of c.args.analysis.now in
    let s' = state_of c.run.new.self in (
      still_begun o l m well p.rounds p.settled s s' e c.in-Ok.ensures.refusal.1 c.in-Ok.ensures.life,
      known_on o l m well (run 0) p.rounds p.settled s s' c.in-Ok.ensures.life (lived_begun o l m well s e),
    )
