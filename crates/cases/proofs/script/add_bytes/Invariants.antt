use Rattle.std.proofs.Common.{◌≤◌, vec_len}
use Rattle.cases.proofs.script.add_bytes.Given as goal

abbrev pub invariant-loop-number : goal.invariant-loop-number
invariant-loop-number l =
    (goal.iterator-loop-number).can_next l.number-iterator ×
    (goal.iterator-loop-number).is_finite l.number-iterator ×
    (vec_len l.initial.script ≤ vec_len l.script)
