use Rattle.std.proofs.Common.{rules}
use Rattle.books.specs.Entries.{values}
use Rattle.solver.specs.Analyses.{state_of}
use Rattle.book_trials.proofs.Shown.{settled_least}
use Rattle.book_trials.proofs.trial.settles_at.Goals as goal

pub returns-then-rounds-run : goal.returns-then-rounds-run
returns-then-rounds-run g c e =
    let m = g.B.Book.equations c.args.book.now in
    let a = c.in_ok-analysis in
    record {
      values = values c.run.new.self.list.now;
      least = settled_least g.K.Kind.ops m (c.set_up.ensures.theory m (g.met.B.Book.well c.args.book.now)) _ c.in_ok-run.run'.rounds c.in_ok-run.run'.settled (state_of a.analysis) (state_of c.run.new.self) a.ensures.starts.3 c.in_ok-run.ensures.life (search rules);
      read = c.shows.ensures.0 (search rules);
    }
