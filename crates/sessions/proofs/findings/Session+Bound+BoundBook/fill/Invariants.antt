use Rattle.std.proofs.Common.{◌≡◌, true, take}
use Rattle.std.specs.List.{filter_map}
use Rattle.books.specs.Entries.{values}
use Rattle.base.specs.Fronts.{Front}
use Rattle.soundness_theory.specs.Findings.{found_of}
use Rattle.script_graph.specs.Meaning.{meaning}
use Rattle.sessions.proofs.findings.Session+Bound+BoundBook.fill.Given as goal

-- the findings of the reads so far stand at the front
abbrev pub invariant-loop-lookup : goal.invariant-loop-lookup
invariant-loop-lookup l = record {
  same_list : l.filled.slots.ghost_name ≡ l.initial.filled.slots.ghost_name;
  front : l.self.settled ≡ true → Front (filter_map (found_of (meaning l.self.book.graph.now) (values l.self.analysis.list.now)) (take l.lookup-index l.lookup-items)) l.fn.list l.filled.slots.now l.filled.count;
}
