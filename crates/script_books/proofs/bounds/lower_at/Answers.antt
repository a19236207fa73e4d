use Rattle.std.proofs.Common.{rules, ◌≡◌, Err, List, slice_index_or, sym, ap, ◌∙◌, subst, arith, w64}
use Rattle.std.proofs.lemmas.Int.{to_z-of_z}
use Rattle.std.proofs.lemmas.Bool.{ne_eqb}
use Rattle.script_graph.specs.Meaning.{meaning}
use Rattle.language_theory.specs.WellFormed.{ConstantFits}
use Rattle.language_theory.specs.declared.Range.{Range}
use Rattle.script_graph.specs.Variable.{Variable}
use Rattle.script_books.specs.Fitted.{graph_fits}
use Rattle.script_books.proofs.Edges.{range_is, lower_behind, lower_refused}
use Rattle.script_books.proofs.bounds.lower_at.Goals as goal

pub negated-requires : goal.negated-requires
negated-requires c =
    let g = c.args.graph.now in
    let v = c.args.spot.variable in
    let d = c.index-variables-spot.result in
    let z = (slice_index_or c.variables.result.now v d).range.low in
    subst ConstantFits (sym (to_z-of_z w64 z (search rules) ∙ ap (λ (vs : List Variable). (slice_index_or vs v d).range.low) c.variables.ensures ∙ ap (λ (r : Range). r.low) (range_is g v d c.requires.variable))) ((graph_fits g).ranges v c.requires.variable).low

pub returns-in_err-edge : goal.returns-in_err-edge
returns-in_err-edge c =
    let s = c.args.spot in
    let e : c.from_residual.result ≡ Err c.in_err-edge.field-0.0 = search rules in
    e ∙ lower_refused (meaning c.args.graph.now) s.point (ne_eqb s.point 0 (λ z. omega arith)) s.variable c.args.number c.in_err-edge.field-0.0 c.in_err-edge.ensures.edge

pub returns : goal.returns
returns c =
    let s = c.args.spot in
    lower_behind c.args.graph.now s.point s.variable c.args.number c.in_ok-edge.edge c.start_of-start.result.variables c.start_of-start.result.point (omega arith) c.in_ok-edge.ensures.edge c.start_of-start.ensures c.lower_of.result c.lower_of.ensures
