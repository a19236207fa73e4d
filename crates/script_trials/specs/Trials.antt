-- A trial in which nothing differs.
use Rattle.std.specs.Prelude.{◌≡◌, true, string_bytes}
use Rattle.script_trials.specs.Comparisons.{AreEqual}
use Rattle.script_trials.specs.declared.trial.Trial.{Trial}

-- sessions and the reference have the same results, the report is the one expected, and no run left what they allow
pub record Agrees (t : Trial) : Type 0 where
  pub settled : t.reference.settled ≡ true
  pub results : AreEqual t.sessions.results t.reference.results
  pub report : t.report.items ≡ string_bytes t.expected
  pub states : t.seen.states_outside ≡ 0
  pub reads : t.seen.reads_unfound ≡ 0
