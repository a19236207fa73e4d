use Rattle.std.proofs.Common.{◌≡◌, ◌++◌, map, take}
use Rattle.books.specs.Entries.{values}
use Rattle.script_graph.specs.Meaning.{meaning}
use Rattle.report_theory.specs.Texts.{found_fields}
use Rattle.report_theory.specs.Reports.{found_at}
use Rattle.report.specs.Lines.{texts}
use Rattle.report.specs.Settles.{SettledOn}
use Rattle.report.proofs.gathering.push_findings.Given as goal

-- the lines of the findings so far stand behind those that were there
abbrev pub invariant-loop-finding : goal.invariant-loop-finding
invariant-loop-finding l = SettledOn l.bounds.settled l.bounds.book.graph.now l.graph → SettledOn l.grades.settled l.grades.book.graph.now l.graph →
    texts l.lines.items ≡ texts l.fn.lines.items ++ map (λ f. found_fields (found_at (meaning l.graph) (values l.bounds.analysis.list.now) (values l.grades.analysis.list.now) f)) (take l.finding-index l.finding-items)
