use Rattle.std.proofs.Common.{◌≡◌}
use Rattle.book_trials.proofs.tally.Tally.add.Given as goal

abbrev pub invariant-loop-value : goal.invariant-loop-value
invariant-loop-value g l = record { books : l.self.books ≡ l.initial.self.books; first : l.self.first_wrong ≡ l.fn.self.first_wrong }
