use Rattle.std.proofs.Common.{◌≡◌}
use Rattle.book_trials.proofs.tally.try_books.Given as goal

abbrev pub invariant-loop-seed : goal.invariant-loop-seed
invariant-loop-seed g l = l.tally.books ≡ l.seed
