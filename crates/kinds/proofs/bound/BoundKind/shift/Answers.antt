use Rattle.std.proofs.Common.{rules}
use Rattle.kinds.proofs.Sizes.{made_sized, sum_sized}
use Rattle.kinds.proofs.bound.BoundKind.shift.Goals as goal

pub returns-in-Whole : goal.returns-in-Whole
returns-in-Whole c m w = let s = made_sized m in let t = sum_sized w in search rules
