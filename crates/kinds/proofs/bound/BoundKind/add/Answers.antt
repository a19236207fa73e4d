use Rattle.std.proofs.Common.{rules}
use Rattle.kinds.proofs.Sizes.{sum_sized}
use Rattle.kinds.proofs.bound.BoundKind.add.Goals as goal

pub returns : goal.returns
returns c v w = let s = sum_sized v in let t = sum_sized w in search rules
