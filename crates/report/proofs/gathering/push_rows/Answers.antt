use Rattle.std.proofs.Common.{◌∙◌, ◌<◌, length}
use Rattle.std.proofs.lemmas.List.{length-map}
use Rattle.books.specs.Entries.{values}
use Rattle.sessions.specs.Bounds.{variables_of}
use Rattle.script_graph.specs.Meaning.{meaning}
use Rattle.report_theory.specs.Reports.{row_of}
use Rattle.report.proofs.Settled.{interval_is, grade_is}
use Rattle.report.proofs.Rows.{row_more, row_is, named}
use Rattle.report.proofs.gathering.push_rows.Goals as goal

pub loop-variable-preserved : goal.loop-variable-preserved
loop-variable-preserved c = λ on_bounds on_grades.
    let g = c.args.graph.now in
    let b = c.args.bounds.now in
    let s = c.args.grades.now in
    let y = values b.analysis.list.now in
    let z = values s.analysis.list.now in
    let p = c.args.point in
    let v = c.loop-variable.variable in
    let at : c.loop-variable.variable < length g.variables.items = rw (← c.variables-declared-items.ensures) c.loop-variable-test.true in
    let below : c.loop-variable.variable < variables_of (meaning g) = simp length-map at in
    let name = c.name.ensures ∙ named g v c.declared-item.result at (rw (← c.variables-declared-items.ensures) c.declared-item.is) in
    let interval = interval_is g p v c.requires below y b.settled b.book.graph.now b.known on_bounds c.in_ok-interval.interval c.in_ok-interval.ensures.answer in
    let grade = grade_is g p v c.requires below z s.settled s.book.graph.now s.known on_grades c.in_ok-grade.grade c.in_ok-grade.ensures.answer in
    rw c.in_ok-push.ensures.items (
    row_more (row_of (meaning g) y z p) v c.loop-variable.lines.items c.in_ok-line.line _ _
    (c.loop-variable.invariant on_bounds on_grades) c.in_ok-line.ensures (row_is g y z p v _ _ _ name interval grade)
    )
