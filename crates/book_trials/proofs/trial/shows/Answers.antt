use Rattle.std.proofs.Common.{arith}
use Rattle.book_trials.proofs.Shown.{none_past}
use Rattle.book_trials.proofs.trial.shows.Goals as goal

pub returns : goal.returns
returns g c =
    none_past g.K.Kind.ops g.K.Readable.reading c.args.analysis.now.list.now c.args.found.now c.value.result c.is_err.result c.value.ensures.answer c.is_err.ensures.value
    (λ u lt. c.loop-unknown.invariant u (omega arith))
