use Rattle.std.proofs.Common.{arith}
use Rattle.report.specs.Lines.{field_text}
use Rattle.base.proofs.Front.{front_more}
use Rattle.report.proofs.writers.write_ended.Goals as goal

pub returns : goal.returns
returns c = front_more (field_text c.args.field.now) c.args.tail.now c.write_field-end.new.tail c.write_field-end.result c.write_field-end.ensures c.args.mark (omega (arith, c.write_field-end.ensures.count))
