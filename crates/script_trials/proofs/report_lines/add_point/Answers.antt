use Rattle.std.proofs.Common.{◌++◌, ap, ◌∙◌}
use Rattle.script_trials.specs.ReportLines.{line_at}
use Rattle.script_trials.proofs.Texts.{lines_more}
use Rattle.script_trials.proofs.report_lines.add_point.Goals as goal

pub loop-variable-preserved : goal.loop-variable-preserved
loop-variable-preserved c =
    let line = line_at c.args.graph.now c.args.results.now c.args.point in
    c.in_ok-add_row.ensures ∙ (ap (λ bytes. bytes ++ line c.loop-variable.variable) c.loop-variable.invariant ∙ lines_more line _ c.loop-variable.variable)
