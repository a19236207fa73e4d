use Rattle.std.proofs.Common.{◌≡◌, ◌++◌}
use Rattle.std.specs.Prelude.{string_bytes, flat_map}
use Rattle.std.specs.List.{range_with_len}
use Rattle.script_trials.specs.ReportLines.{line_at}
use Rattle.script_trials.proofs.report_lines.add_point.Given as goal

abbrev pub invariant-loop-variable : goal.invariant-loop-variable
invariant-loop-variable l = string_bytes l.lines ≡ string_bytes l.initial.lines ++ flat_map (line_at l.graph l.results l.point) (range_with_len 0 l.variable)
