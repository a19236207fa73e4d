use Rattle.std.proofs.Common.{◌∙◌, sym, ap, vec_items, arith}
use Rattle.books.specs.Entries.{values}
use Rattle.soundness_theory.specs.Findings.{found_of}
use Rattle.script_graph.specs.Meaning.{meaning}
use Rattle.script_graph.specs.declared.graph.Graph.{Graph}
use Rattle.sessions.proofs.Filling.{fill_none, fill_some, never_full, lookup_fits}
use Rattle.sessions.proofs.findings.Session+Bound+BoundBook.fill.Goals as goal
use Rattle.sessions.proofs.findings.Session+Bound+BoundBook.fill.Goals.{in-Some+in_ok-push, in_default}

pub loop-lookup-preserved : goal.loop-lookup-preserved
loop-lookup-preserved c =
    let session = c.args.self.now in
    let f = found_of (meaning session.book.graph.now) (values session.analysis.list.now) in
    let i = c.loop-lookup.lookup-index in
    let k = c.loop-lookup.invariant in
    elim c.match-finding.branch [
      | in-Some+in_ok-push w ↦
          let p = w.in_ok-push.ensures.pushed in
          rw w.filled-is (record {
            same_list = w.in_ok-push.ensures.same_list ∙ k.same_list;
            front = λ s. rw (p.1, p.2) (fill_some f _ i _ c.loop-lookup-test.true _ _ _ (k.front s) w.in-Some.finding (sym w.in-Some.is ∙ c.finding.ensures s) p.0);
          })
      | in_default w ↦
          rw w.filled-is (record {
            same_list = k.same_list;
            front = λ s. fill_none f _ i _ c.loop-lookup-test.true _ _ _ (k.front s) (sym w.in_default.is ∙ c.finding.ensures s);
          })
    ]

pub returns-in_err-push : goal.returns-in_err-push
returns-in_err-push c = λ s room.
    let session = c.args.self.now in
    let f = found_of (meaning session.book.graph.now) (values session.analysis.list.now) in
    let p = c.in_err-push.ensures.pushed in
    let less = never_full f _ c.loop-lookup.lookup-index _ c.loop-lookup-test.true _ _ _ (c.loop-lookup.invariant.front s) c.in-Some.finding (sym c.in-Some.is ∙ c.finding.ensures s) (rw (c.lookups-lookup-items.ensures, c.graph.ensures) room) in
    absurd (omega (arith, less, p.0))

pub finding-requires : goal.finding-requires
finding-requires c = lookup_fits c.args.self.now.book.graph.now c.lookups-lookup-items.result.now c.loop-lookup.lookup-index _ (c.lookups-lookup-items.ensures ∙ ap (λ (g : Graph). vec_items g.lookups) c.graph.ensures) c.loop-lookup-test.true
