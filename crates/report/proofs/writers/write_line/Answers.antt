use Rattle.report.proofs.Ended.{last_front}
use Rattle.report.proofs.writers.write_line.Goals as goal

pub returns : goal.returns
returns c =
    last_front c.args.line.now c.in-Some.others.now c.in-Some.last.now c.in-Some.ensures.cases.0 c.args.tail.now c.loop-field.tail c.requires c.loop-field.end c.loop-field.field-index c.loop-field.invariant c.loop-field-test.false
    c.write_ended-end-2.new.tail c.write_ended-end-2.result c.write_ended-end-2.ensures
