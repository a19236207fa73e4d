use Rattle.std.proofs.Common.{refl}
use Rattle.solver.specs.Analyses.{state_of}
use Rattle.sessions.proofs.Carrying.{begun_by, lived_begun, opens}
use Rattle.sessions.proofs.session.Session.set_up.Goals as goal

pub invariant_of-result : goal.invariant_of-result
invariant_of-result g c =
    let o = g.K.Kind.ops in
    let l = g.met.K.Kind.laws in
    let m = g.B.Book.equations c.args.book in
    let well = g.met.B.Book.well c.args.book in
    let a = c.in_ok-analysis.analysis in
    let starts = c.in_ok-analysis.ensures.starts in
    let r = c.rests-settled.ensures.begun (begun_by o l m well a.list.now a.rounds _ starts.1 starts.2 refl) in
    record { lived = lived_begun o l m well (state_of c.rests-settled.new.analysis) r.0; known = r.1 }

pub returns-clause-starts : goal.returns-clause-starts
returns-clause-starts g c =
    let m = g.B.Book.equations c.args.book in
    let a = c.in_ok-analysis.analysis in
    let starts = c.in_ok-analysis.ensures.starts in
    let r = c.rests-settled.ensures.begun (begun_by g.K.Kind.ops g.met.K.Kind.laws m (g.met.B.Book.well c.args.book) a.list.now a.rounds _ starts.1 starts.2 refl) in
    (starts.0, refl, r.0)

pub returns-clause-life : goal.returns-clause-life
returns-clause-life g c =
    let o = g.K.Kind.ops in
    let l = g.met.K.Kind.laws in
    let m = g.B.Book.equations c.args.book in
    let well = g.met.B.Book.well c.args.book in
    let a = c.in_ok-analysis.analysis in
    let starts = c.in_ok-analysis.ensures.starts in
    let r = c.rests-settled.ensures.begun (begun_by o l m well a.list.now a.rounds _ starts.1 starts.2 refl) in
    opens o l m well (state_of c.rests-settled.new.analysis) r.0
