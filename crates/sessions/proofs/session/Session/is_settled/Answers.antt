use Rattle.std.proofs.Common.{sym, ◌∙◌}
use Rattle.books.specs.Entries.{values}
use Rattle.soundness_theory.proofs.Settling.{settled_is}
use Rattle.sessions.proofs.Standing.{least_of}
use Rattle.sessions.proofs.session.Session.is_settled.Goals as goal

pub returns-clause-least : goal.returns-clause-least
returns-clause-least g c e =
    let s = c.args.self.now in
    least_of g.K.Kind.ops g.met.K.Kind.laws (g.B.Book.equations s.book) (g.met.B.Book.well s.book) s.analysis.list.now s.analysis.rounds s.lived (sym s.known ∙ e)

pub returns-clause-same : goal.returns-clause-same
returns-clause-same g c =
    let s = c.args.self.now in
    let same = settled_is g.K.Kind.ops (g.B.Book.equations s.book) (values s.analysis.list.now) in
    (λ e. same.0 (sym s.known ∙ e), λ h. s.known ∙ same.1 h)
