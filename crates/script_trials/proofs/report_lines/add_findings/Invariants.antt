use Rattle.std.proofs.Common.{◌≡◌, ◌++◌, take}
use Rattle.std.specs.Prelude.{string_bytes, flat_map}
use Rattle.script_trials.specs.ReportLines.{finding_line}
use Rattle.script_trials.proofs.report_lines.add_findings.Given as goal

abbrev pub invariant-loop-finding : goal.invariant-loop-finding
invariant-loop-finding l = string_bytes l.lines ≡ string_bytes l.initial.lines ++ flat_map (finding_line l.graph l.results) (take l.finding-index l.finding-items)
