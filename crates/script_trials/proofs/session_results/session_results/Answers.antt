use Rattle.std.proofs.Common.{map, length, ap, ◌∙◌}
use Rattle.std.specs.List.{range_with_len}
use Rattle.kinds.specs.Values.{bounds, grades}
use Rattle.books.specs.Entries.{values}
use Rattle.solver.specs.Analyses.{state_of}
use Rattle.sessions.specs.Bounds.{bound_book}
use Rattle.sessions.specs.Grades.{grade_book}
use Rattle.soundness_theory.specs.Findings.{findings}
use Rattle.script_graph.specs.Meaning.{meaning}
use Rattle.script_graph.specs.declared.graph.Graph.{Graph}
use Rattle.script_books.specs.declared.bounds.BoundBook.{BoundBook}
use Rattle.script_books.specs.declared.grades.GradeBook.{GradeBook}
use Rattle.script_trials.specs.Sessions.{index_finding, width_of, pairs_of, value_numbered}
use Rattle.script_trials.proofs.Asking.{settles_on}
use Rattle.script_trials.proofs.session_results.session_results.Goals as goal

pub returns : goal.returns
returns c =
    let g = c.args.graph.now in
    let began = c.in_ok-bounds.ensures.starts in
    let ran = c.in_ok-rounds.ensures in
    let s = c.settle.new.session in
    let y = values s.analysis.list.now in
    let began' = c.in_ok-grades.ensures.starts in
    let ran' = c.in_ok-settle.ensures in
    let s' = c.settle-2.new.session in
    let z = values s'.analysis.list.now in
    let same = ap (λ (b : BoundBook). b.graph.now) began.1 in
    let same' = ap (λ (b : GradeBook). b.graph.now) began'.1 in
    let on = ap (λ (b : BoundBook). b.graph.now) ran.same_book ∙ same ∙ c.new-bound_book.ensures in
    let on' = ap (λ (b : GradeBook). b.graph.now) ran'.same_book ∙ same' ∙ c.new-grade_book.ensures in
    record {
      y = y;
      z = z;
      grade_rounds = c.in_ok-settle.field-0;
      bounds_settle = settles_on bounds (λ (h : Graph). bound_book (meaning h)) c.in_ok-rounds.rounds s.settled y (state_of c.in_ok-bounds.bounds.analysis) _ _ g c.new-bound_book.ensures same began.2 ran.settled;
      grades_settle = settles_on grades (λ (h : Graph). grade_book (meaning h)) c.in_ok-settle.field-0 s'.settled z (state_of c.in_ok-grades.grades.analysis) _ _ g c.new-grade_book.ensures same' began'.2 ran'.settled;
      variables = ap length c.variables.ensures;
      known =
          c.in_ok-values_of.ensures
          ∙ ap (λ (h : Graph). map (value_numbered (meaning h) y (meaning s'.book.graph.now) z (width_of g)) (range_with_len 0 (pairs_of g))) on
          ∙ ap (λ (h : Graph). map (value_numbered (meaning g) y (meaning h) z (width_of g)) (range_with_len 0 (pairs_of g))) on';
      found = c.in_ok-index_findings.ensures ∙ ap (map index_finding) (c.deref.ensures.value ∙ (c.in_ok-found.ensures ∙ ap (λ (h : Graph). findings (meaning h) y) on));
    }
