use Rattle.report.proofs.Composing.{reported}
use Rattle.report.proofs.writing.report_text.Goals as goal

pub returns-clause-text : goal.returns-clause-text
returns-clause-text c = reported c.args.script.now c.in_ok-graph.graph c.in_ok-new.field-0.lines.items c.in_ok-graph.ensures.verdict c.in_ok-new.ensures.report c.text.result c.text.ensures
