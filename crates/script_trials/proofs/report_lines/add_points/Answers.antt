use Rattle.std.proofs.Common.{◌++◌, ap, ◌∙◌}
use Rattle.script_trials.specs.ReportLines.{point_lines}
use Rattle.script_trials.proofs.Texts.{lines_more}
use Rattle.script_trials.proofs.report_lines.add_points.Goals as goal

pub loop-point-preserved : goal.loop-point-preserved
loop-point-preserved c =
    let lines = point_lines c.args.graph.now c.args.results.now in
    c.in_ok-add_point.ensures ∙ (ap (λ bytes. bytes ++ lines c.loop-point.point) c.loop-point.invariant ∙ lines_more lines _ c.loop-point.point)
