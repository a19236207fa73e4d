use Rattle.std.proofs.Common.{◌≡◌, [], ◌∷◌, ◌++◌, map}
use Rattle.std.specs.List.{flat_map, range_with_len}
use Rattle.books.specs.Entries.{values}
use Rattle.script_graph.specs.Meaning.{meaning}
use Rattle.report_theory.specs.Texts.{head_fields, row_fields}
use Rattle.report_theory.specs.Reports.{rows_at}
use Rattle.report.specs.Lines.{texts}
use Rattle.report.specs.Settles.{SettledOn}
use Rattle.report.proofs.gathering.gather.Given as goal

-- the first line, and behind it the lines of the points so far
abbrev pub invariant-loop-point : goal.invariant-loop-point
invariant-loop-point l = SettledOn l.bounds.settled l.bounds.book.graph.now l.graph → SettledOn l.grades.settled l.grades.book.graph.now l.graph →
    texts l.lines.items ≡ (head_fields l.graph.points l.fn.rounds ∷ []) ++ map row_fields (flat_map (rows_at (meaning l.graph) (values l.bounds.analysis.list.now) (values l.grades.analysis.list.now)) (range_with_len 0 l.point))
