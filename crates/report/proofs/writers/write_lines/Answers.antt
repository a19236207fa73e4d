use Rattle.std.proofs.Common.{ap, ◌∙◌}
use Rattle.std.specs.Global.{Vec}
use Rattle.report.specs.Lines.{line_text}
use Rattle.report.specs.declared.lines.Field.{Field}
use Rattle.report.proofs.Joining.{next_front}
use Rattle.report.proofs.writers.write_lines.Goals as goal

pub loop-line-preserved : goal.loop-line-preserved
loop-line-preserved c =
    let text = λ (v : Vec Field). line_text v.items in
    next_front text c.args.lines.now c.loop-line.line-index c.line-item.result (line_text c.deref.result.now) (ap line_text c.deref.ensures.value ∙ ap text c.line-item.is) c.loop-line-test.true
    c.args.buffer.now c.loop-line.buffer c.loop-line.end c.loop-line.invariant c.write_line-end.new.tail c.write_line-end.result c.write_line-end.ensures
