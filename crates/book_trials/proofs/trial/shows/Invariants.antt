use Rattle.std.proofs.Common.{ℕ, ◌<◌, get_or}
use Rattle.books.specs.Entries.{values}
use Rattle.reference.specs.declared.extended.Extended.TheVariants.{NegInf}
use Rattle.book_trials.proofs.Shown.{Has}
use Rattle.book_trials.proofs.trial.shows.Given as goal

abbrev pub invariant-loop-unknown : goal.invariant-loop-unknown
invariant-loop-unknown g l = (k : ℕ) → k < l.unknown → Has g.K.Kind.ops g.K.Readable.reading (values l.analysis.list.now) k (get_or l.found k NegInf)
