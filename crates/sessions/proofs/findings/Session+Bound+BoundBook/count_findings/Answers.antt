use Rattle.std.proofs.Common.{sym, ap, ◌+◌, ◌∙◌, vec_items, arith}
use Rattle.books.specs.Entries.{values}
use Rattle.soundness_theory.specs.Findings.{found_of}
use Rattle.script_graph.specs.Meaning.{meaning}
use Rattle.script_graph.specs.declared.graph.Graph.{Graph}
use Rattle.sessions.proofs.Filling.{count_none, count_some, lookup_fits}
use Rattle.sessions.proofs.findings.Session+Bound+BoundBook.count_findings.Goals as goal
use Rattle.sessions.proofs.findings.Session+Bound+BoundBook.count_findings.Goals.{then-is_some, else-is_some}

pub loop-lookup-preserved : goal.loop-lookup-preserved
loop-lookup-preserved c =
    let session = c.args.self.now in
    let f = found_of (meaning session.book.graph.now) (values session.analysis.list.now) in
    elim c.if-is_some.branch [
      | then-is_some w ↦ (
        omega arith,
        λ s. w.count-is ∙ ap (λ n. n + 1) (c.loop-lookup.invariant.1 s) ∙ sym (count_some f _ c.loop-lookup.lookup-index _ c.loop-lookup-test.true c.finding.result (c.finding.ensures s) (sym c.is_some.ensures ∙ w.if-is_some.true)),
      )
      | else-is_some w ↦ (
        omega arith,
        λ s. w.count-is ∙ c.loop-lookup.invariant.1 s ∙ sym (count_none f _ c.loop-lookup.lookup-index _ c.loop-lookup-test.true c.finding.result (c.finding.ensures s) (sym c.is_some.ensures ∙ w.if-is_some.false)),
      )
    ]

pub finding-requires : goal.finding-requires
finding-requires c = lookup_fits c.args.self.now.book.graph.now c.lookups-lookup-items.result.now c.loop-lookup.lookup-index _ (c.lookups-lookup-items.ensures ∙ ap (λ (g : Graph). vec_items g.lookups) c.graph.ensures) c.loop-lookup-test.true
