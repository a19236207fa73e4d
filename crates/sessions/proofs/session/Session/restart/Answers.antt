use Rattle.std.proofs.Common.{sym, ◌∙◌}
use Rattle.strategy_theory.specs.Lives.Call.{restart}
use Rattle.strategy_theory.specs.Lives.Answer.{done}
use Rattle.solver.specs.Analyses.{state_of}
use Rattle.sessions.proofs.Carrying.{begun_by, lived_begun, carries_to}
use Rattle.sessions.proofs.Standing.{long_of}
use Rattle.sessions.proofs.session.Session.restart.Goals as goal

pub invariant_of-self : goal.invariant_of-self
invariant_of-self g c =
    let o = g.K.Kind.ops in
    let l = g.met.K.Kind.laws in
    let m = g.B.Book.equations c.args.self.now.book in
    let well = g.met.B.Book.well c.args.self.now.book in
    let es = c.args.self.now.analysis.list.now in
    let a = c.restart.new.self in
    let begun_then = begun_by o l m well a.list.now a.rounds _ c.restart.ensures.fresh.0 c.restart.ensures.fresh.1 (long_of o l m well es c.args.self.now.analysis.rounds c.args.self.now.lived) in
    let r = c.rests-self.ensures.begun begun_then in
    record { lived = lived_begun o l m well (state_of c.rests-self.new.analysis) r.0; known = r.1 }

pub returns-clause-life : goal.returns-clause-life
returns-clause-life g c =
    let o = g.K.Kind.ops in
    let l = g.met.K.Kind.laws in
    let m = g.B.Book.equations c.args.self.now.book in
    let well = g.met.B.Book.well c.args.self.now.book in
    let es = c.args.self.now.analysis.list.now in
    let a = c.restart.new.self in
    let begun_then = begun_by o l m well a.list.now a.rounds _ c.restart.ensures.fresh.0 c.restart.ensures.fresh.1 (long_of o l m well es c.args.self.now.analysis.rounds c.args.self.now.lived) in
    let r = c.rests-self.ensures.begun begun_then in
    carries_to o l m well restart done (state_of c.args.self.now.analysis) (state_of a) (state_of c.rests-self.new.analysis) (c.restart.ensures.life m well) (r.0 ∙ sym begun_then)

pub returns-clause-fresh : goal.returns-clause-fresh
returns-clause-fresh g c =
    let o = g.K.Kind.ops in
    let l = g.met.K.Kind.laws in
    let m = g.B.Book.equations c.args.self.now.book in
    let well = g.met.B.Book.well c.args.self.now.book in
    let es = c.args.self.now.analysis.list.now in
    let a = c.restart.new.self in
    let begun_then = begun_by o l m well a.list.now a.rounds _ c.restart.ensures.fresh.0 c.restart.ensures.fresh.1 (long_of o l m well es c.args.self.now.analysis.rounds c.args.self.now.lived) in
    (c.rests-self.ensures.begun begun_then).0
