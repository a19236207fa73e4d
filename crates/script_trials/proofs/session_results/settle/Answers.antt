use Rattle.std.proofs.Common.{refl}
use Rattle.std.proofs.lemmas.Bool.{not-false}
use Rattle.books.specs.Entries.{values}
use Rattle.solver.specs.Analyses.{state_of}
use Rattle.report.proofs.Running.{settles, told}
use Rattle.script_trials.proofs.session_results.settle.Goals as goal

pub returns-clause-settled : goal.returns-clause-settled
returns-clause-settled g c = λ e.
    let o = g.K.Kind.ops in
    let p = c.in_ok-progress.progress in
    let s = c.args.session.now in
    let s' = c.run.new.self in
    let m = g.B.Book.equations s.book in
    let known = c.in_ok-progress.ensures in
    let ends = settles o m 65535 p.rounds p.settled (state_of s.analysis) (state_of s'.analysis) e known.life (not-false p.settled c.if-not-progress.false) in
    (told o m g.B.Book.equations s.book s'.book s'.settled p.rounds (values s'.analysis.list.now) known.same_book refl s'.known ends, ends)
