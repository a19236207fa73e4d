use Rattle.std.proofs.Common.{◌≤◌, vec_len}
use Rattle.cases.proofs.script.repeat.Given as goal

abbrev pub invariant-loop : goal.invariant-loop
invariant-loop l = vec_len l.fn.script ≤ vec_len l.script
