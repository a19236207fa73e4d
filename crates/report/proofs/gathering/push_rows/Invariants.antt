use Rattle.std.proofs.Common.{◌≡◌, ◌++◌, map}
use Rattle.std.specs.List.{range_with_len}
use Rattle.books.specs.Entries.{values}
use Rattle.script_graph.specs.Meaning.{meaning}
use Rattle.report_theory.specs.Texts.{row_fields}
use Rattle.report_theory.specs.Reports.{row_of}
use Rattle.report.specs.Lines.{texts}
use Rattle.report.specs.Settles.{SettledOn}
use Rattle.report.proofs.gathering.push_rows.Given as goal

-- the lines of the variables so far stand behind those that were there
abbrev pub invariant-loop-variable : goal.invariant-loop-variable
invariant-loop-variable l = SettledOn l.bounds.settled l.bounds.book.graph.now l.graph → SettledOn l.grades.settled l.grades.book.graph.now l.graph →
    texts l.lines.items ≡ texts l.fn.lines.items ++ map row_fields (map (row_of (meaning l.graph) (values l.bounds.analysis.list.now) (values l.grades.analysis.list.now) l.point) (range_with_len 0 l.variable))
