use Rattle.std.proofs.Common.{◌≡◌, ◌<◌, List, All, length, map, vec_items, vec_len, sym, ◌∙◌, subst, arith}
use Rattle.std.proofs.lemmas.List.{length-map}
use Rattle.std.proofs.lemmas.List.Elements.{Contains-get_or}
use Rattle.language_theory.specs.declared.Edge.{Edge}
use Rattle.language_theory.proofs.Verdicts.{drawn_well}
use Rattle.parser.specs.Models.{variable_of}
use Rattle.script_graph.specs.Grouping.{ByTarget}
use Rattle.script_graph.proofs.graph.making.finish.Goals as goal

pub group-requires : goal.group-requires
group-requires c =
    let well = (drawn_well c.requires.script _ c.requires.read).1 in
    subst (All (λ (e : Edge). e.target < c.args.drawing.points)) (sym c.deref.ensures.value) (λ i d h. (well.edges _ (Contains-get_or (vec_items c.args.drawing.edges) i d h)).target)

pub invariant_of-result : goal.invariant_of-result
invariant_of-result c =
    let vars = c.args.names.variables in
    let w = (drawn_well c.requires.script _ c.requires.read).1 in
    let v : length (map variable_of (vec_items vars)) ≡ vec_len vars = length-map (vec_items vars) variable_of ∙ sym vars.ok.0 in
    let points = w.few_points in
    let variables = w.few_variables in
    record {
      few_points = points;
      few_variables = omega arith;
      for_each_point = c.in_ok-incoming.ensures.0;
      by_target = subst (λ (xs : List Edge). ByTarget xs (vec_items c.in_ok-incoming.incoming)) c.deref.ensures.value c.in_ok-incoming.ensures.1;
      drawn = ∣ c.requires ∣₁;
    }
