use Rattle.std.proofs.Common.{get_or, set, sym, ap, ◌∙◌}
use Rattle.std.proofs.lemmas.List.Edits.{map_over_more}
use Rattle.books.specs.declared.Entry.{Entry}
use Rattle.strategy_theory.specs.Steps.{opened_value}
use Rattle.solver.proofs.paths.open.Goals as goal

pub loop-entry-preserved : goal.loop-entry-preserved
loop-entry-preserved g c =
    let es = c.loop-entry.list in
    let i = c.loop-entry.entry-index in
    let e = c.entry-item.is in
    ap (λ (v : _). set es i (record { value = v; choice = (get_or es i c.entry-item.result).choice })) c.first_value-entry.ensures
    ∙ ap (λ (d : Entry _). set es i (record { value = opened_value g.K.Kind.ops d.choice; choice = d.choice })) (sym e)
    ∙ map_over_more (λ (d : Entry _). record { value = opened_value g.K.Kind.ops d.choice; choice = d.choice }) c.args.list.now es i c.entry-item.result c.loop-entry-test.true c.loop-entry.invariant e
