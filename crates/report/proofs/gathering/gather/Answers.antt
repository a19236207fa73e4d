use Rattle.std.proofs.Common.{◌≡◌, ℕ, [], ◌∷◌, ◌++◌, map, ◌∙◌, ap, length, arith}
use Rattle.std.specs.List.{flat_map, range_with_len}
use Rattle.books.specs.Entries.{values}
use Rattle.script_graph.specs.Meaning.{meaning}
use Rattle.soundness_theory.specs.Findings.{findings}
use Rattle.report_theory.specs.Texts.{head_fields, row_fields, end_fields}
use Rattle.report_theory.specs.Reports.{rows_at, found_at}
use Rattle.report.specs.Lines.{texts}
use Rattle.report.proofs.Rows.{rows_more, whole, text_more}
use Rattle.report.proofs.gathering.gather.Goals as goal

pub loop-point-preserved : goal.loop-point-preserved
loop-point-preserved c = λ on_bounds on_grades.
    let g = c.args.graph.now in
    let y = values c.args.bounds.now.analysis.list.now in
    let z = values c.args.grades.now.analysis.list.now in
    rows_more (rows_at (meaning g) y z) c.loop-point.point (texts c.loop-point.lines.items) (texts c.push_rows.new.lines.items) (head_fields g.points c.args.rounds ∷ [])
    (c.loop-point.invariant on_bounds on_grades) (c.in_ok-push_rows.ensures on_bounds on_grades)

pub returns : goal.returns
returns c = λ on_bounds on_grades.
    let g = c.args.graph.now in
    let y = values c.args.bounds.now.analysis.list.now in
    let z = values c.args.grades.now.analysis.list.now in
    let fs = findings (meaning g) y in
    let rows = λ (n : ℕ). flat_map (rows_at (meaning g) y z) (range_with_len 0 n) in
    let all : c.loop-point.point ≡ g.points = omega (arith, c.points-point-end.ensures) in
    let front = c.loop-point.invariant on_bounds on_grades ∙ ap (λ n. (head_fields g.points c.args.rounds ∷ []) ++ map row_fields (rows n)) all in
    let found = c.in_ok-count.ensures on_bounds on_grades in
    rw c.in_ok-push-2.ensures.items (
    text_more c.push_findings.new.lines.items _ (end_fields (length fs)) (c.in_ok-end_line.ensures ∙ ap end_fields found.0) ∙
    whole g.points c.args.rounds (rows g.points) fs (found_at (meaning g) y z) (texts c.loop-point.lines.items) (texts c.push_findings.new.lines.items) front found.1
    )
