use Rattle.std.proofs.Common.{List, [], ◌∷◌, ◌++◌, map, length, ap, ◌∙◌}
use Rattle.std.specs.List.{range_with_len}
use Rattle.books.specs.Entries.{values}
use Rattle.script_graph.specs.Meaning.{meaning}
use Rattle.reference.specs.declared.results.AbstractValue.{AbstractValue}
use Rattle.script_trials.specs.Sessions.{width_of, value_numbered}
use Rattle.script_trials.proofs.Asking.{value_told}
use Rattle.script_trials.proofs.Texts.{entries_more}
use Rattle.script_trials.proofs.session_results.values_of.Goals as goal

pub loop-pair-preserved : goal.loop-pair-preserved
loop-pair-preserved c =
    let g = meaning c.args.bounds.now.book.graph.now in
    let y = values c.args.bounds.now.analysis.list.now in
    let h = meaning c.args.grades.now.book.graph.now in
    let z = values c.args.grades.now.analysis.list.now in
    let w = width_of c.args.graph.now in
    let n = c.loop-pair.pair in
    let told = value_told g y h z w (length c.variables-variables.result.now) n (ap length c.variables-variables.ensures) c.in_ok-interval.field-0 c.in_ok-interval.ensures.answer c.in_ok-grade.field-0 c.in_ok-grade.ensures.answer c.interval_of.result c.interval_of.ensures c.extended.result c.extended.ensures in
    c.in_ok-push.ensures.items
    ∙ ap (λ (vs : List AbstractValue). vs ++ record { interval = c.interval_of.result; grade = c.extended.result } ∷ []) c.loop-pair.invariant
    ∙ ap (λ (v : AbstractValue). map (value_numbered g y h z w) (range_with_len 0 n) ++ v ∷ []) told
    ∙ entries_more (value_numbered g y h z w) n
