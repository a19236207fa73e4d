use Rattle.std.proofs.Common.{ap, ◌∙◌}
use Rattle.kinds.specs.Values.{reaches}
use Rattle.kinds.specs.declared.bound.Bound.{Bound}
use Rattle.kinds.proofs.Sizes.{made_sized}
use Rattle.kinds.proofs.bound.BoundKind.joint.Goals as goal

pub returns : goal.returns
returns c x y t =
    c.reaches.ensures ∙ ap (λ (s : Bound). reaches s c.args.threshold) (c.plus.ensures (made_sized x) (made_sized y))
