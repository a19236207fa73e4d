use Rattle.std.proofs.Common.{◌≡◌, ◌++◌}
use Rattle.std.specs.Prelude.{string_bytes, flat_map}
use Rattle.std.specs.List.{range_with_len}
use Rattle.script_trials.specs.ReportLines.{point_lines}
use Rattle.script_trials.proofs.report_lines.add_points.Given as goal

abbrev pub invariant-loop-point : goal.invariant-loop-point
invariant-loop-point l = string_bytes l.lines ≡ string_bytes l.initial.lines ++ flat_map (point_lines l.graph l.results) (range_with_len 0 l.point)
