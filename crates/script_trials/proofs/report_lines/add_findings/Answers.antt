use Rattle.script_trials.proofs.Texts.{finding_more}
use Rattle.script_trials.proofs.report_lines.add_findings.Goals as goal

pub loop-finding-preserved : goal.loop-finding-preserved
loop-finding-preserved c =
    finding_more _ c.args.graph.now c.args.results.now c.deref-finding-items.result.now c.loop-finding.finding-index _ _ _ _ _ _ c.loop-finding-test.true c.variables.ensures c.name_at-name.ensures c.value-grade.ensures c.loop-finding.invariant c.in_ok-add_finding.ensures
