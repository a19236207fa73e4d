use Rattle.script_graph.specs.Meaning.{meaning}
use Rattle.report.proofs.Reporting.{answer_of}
use Rattle.report.proofs.writing.write_report.Goals as goal

pub returns-clause-report : goal.returns-clause-report
returns-clause-report c = answer_of (meaning c.args.graph.now) c.args.budget c.in_ok-new.field-0.lines.items c.in_ok-new.ensures.report c.args.buffer.now c.write.new.buffer c.write.result c.write.ensures c.write.auto.buffer
