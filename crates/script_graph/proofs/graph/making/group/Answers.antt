use Rattle.std.proofs.Common.{◌≡◌, [], vec_items, rules}
use Rattle.std.specs.Global.{Vec}
use Rattle.language_theory.specs.declared.Edge.{Edge}
use Rattle.script_graph.proofs.Grouped.{each_made}
use Rattle.script_graph.proofs.graph.making.group.Goals as goal

pub loop-edge-init : goal.loop-edge-init
loop-edge-init c =
    (search rules, each_made _ (λ (v : Vec Edge). vec_items v ≡ []) _ _ _ c.in_ok-resize_with.ensures.items (search rules) (λ f g x call. search rules))
