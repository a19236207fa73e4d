use Rattle.std.proofs.Common.{ap, ◌∙◌}
use Rattle.kinds.specs.Values.{bounds, grades}
use Rattle.books.specs.Entries.{values}
use Rattle.solver.specs.Analyses.{state_of}
use Rattle.sessions.specs.Bounds.{bound_book}
use Rattle.sessions.specs.Grades.{grade_book}
use Rattle.script_graph.specs.Meaning.{meaning}
use Rattle.script_graph.specs.declared.graph.Graph.{Graph}
use Rattle.script_books.specs.declared.bounds.BoundBook.{BoundBook}
use Rattle.script_books.specs.declared.grades.GradeBook.{GradeBook}
use Rattle.report.specs.Lines.{texts}
use Rattle.report.proofs.Reporting.{of_book, gathered_of}
use Rattle.report.proofs.writing.Report.new.Goals as goal

pub returns : goal.returns
returns c =
    let g = c.args.graph.now in
    let budget = c.args.budget in
    let began = c.in_ok-bounds.ensures.starts in
    let ran = c.in_ok-rounds.ensures in
    let s = c.settle.new.session in
    let k = c.in_ok-rounds.rounds in
    let y = values s.analysis.list.now in
    let book = c.new-bound_book in
    let same = ap (λ (b : BoundBook). b.graph.now) began.1 in
    let p = of_book bounds (λ (h : Graph). bound_book (meaning h)) budget k s.settled y (state_of c.in_ok-bounds.bounds.analysis) book.result.graph.now c.in_ok-bounds.bounds.book.graph.now g book.ensures same began.2 ran.end in
    let began' = c.in_ok-grades.ensures.starts in
    let ran' = c.in_ok-settle.ensures in
    let s' = c.settle-2.new.session in
    let j = c.in_ok-settle.field-0 in
    let z = values s'.analysis.list.now in
    let book' = c.new-grade_book in
    let same' = ap (λ (b : GradeBook). b.graph.now) began'.1 in
    let q = of_book grades (λ (h : Graph). grade_book (meaning h)) budget j s'.settled z (state_of c.in_ok-grades.grades.analysis) book'.result.graph.now c.in_ok-grades.grades.book.graph.now g book'.ensures same' began'.2 ran'.end in
    record {
      report = gathered_of (meaning g) budget k j y z (texts c.in_ok-lines.lines.items) p.1 q.1
          (c.in_ok-lines.ensures
          (record { yes = p.0; same = ap (λ (b : BoundBook). b.graph.now) ran.same_book ∙ same ∙ book.ensures })
          (record { yes = q.0; same = ap (λ (b : GradeBook). b.graph.now) ran'.same_book ∙ same' ∙ book'.ensures }));
    }
