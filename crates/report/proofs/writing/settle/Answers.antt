use Rattle.std.proofs.Common.{refl, inr}
use Rattle.std.proofs.lemmas.Bool.{not-false, not-true}
use Rattle.books.specs.Entries.{values}
use Rattle.solver.specs.Analyses.{state_of}
use Rattle.report.proofs.Running.{settles, moves, told}
use Rattle.report.proofs.writing.settle.Goals as goal

pub returns-then-not-progress-clause-end : goal.returns-then-not-progress-clause-end
returns-then-not-progress-clause-end g c = λ e.
    let p = c.in_ok-progress.progress in
    let s = c.args.session.now in
    let known = c.in_ok-progress.ensures in
    inr (
      known.refusal.0,
      moves g.K.Kind.ops (g.B.Book.equations s.book) c.args.budget p.rounds p.settled (state_of s.analysis) (state_of c.run.new.self.analysis) e known.life (not-true p.settled c.if-not-progress.true),
      c.into.ensures,
    )

pub returns-clause-end : goal.returns-clause-end
returns-clause-end g c = λ e.
    let o = g.K.Kind.ops in
    let p = c.in_ok-progress.progress in
    let s = c.args.session.now in
    let s' = c.run.new.self in
    let m = g.B.Book.equations s.book in
    let known = c.in_ok-progress.ensures in
    let ends = settles o m c.args.budget p.rounds p.settled (state_of s.analysis) (state_of s'.analysis) e known.life (not-false p.settled c.if-not-progress.false) in
    (told o m g.B.Book.equations s.book s'.book s'.settled p.rounds (values s'.analysis.list.now) known.same_book refl s'.known ends, record { allowed = known.refusal.0; settles = ends; within = known.refusal.1 })
