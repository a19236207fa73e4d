use Rattle.std.proofs.Common.{◌≡◌}
use Rattle.script_trials.proofs.simulation.RunChecker.count_reads.Given as goal

abbrev pub invariant-loop-number : goal.invariant-loop-number
invariant-loop-number l = l.seen ≡ record l.fn.seen { reads = l.seen.reads; reads_outside = l.seen.reads_outside }
