use Rattle.std.proofs.Common.{◌≡◌, ◌≤◌, true, length, take}
use Rattle.std.specs.List.{filter_map}
use Rattle.books.specs.Entries.{values}
use Rattle.soundness_theory.specs.Findings.{found_of}
use Rattle.script_graph.specs.Meaning.{meaning}
use Rattle.sessions.proofs.findings.Session+Bound+BoundBook.count_findings.Given as goal

-- so many findings have the reads so far, and no more than there are reads
abbrev pub invariant-loop-lookup : goal.invariant-loop-lookup
invariant-loop-lookup l = (l.count ≤ l.lookup-index) × (l.self.settled ≡ true → l.count ≡ length (filter_map (found_of (meaning l.self.book.graph.now) (values l.self.analysis.list.now)) (take l.lookup-index l.lookup-items)))
