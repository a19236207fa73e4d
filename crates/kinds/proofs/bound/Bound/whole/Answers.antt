use Rattle.std.proofs.Common.{rules}
use Rattle.kinds.proofs.Sizes.{made_sized}
use Rattle.kinds.proofs.bound.Bound.whole.Goals as goal

pub returns-in-Whole : goal.returns-in-Whole
returns-in-Whole c = record { value = search rules; size = λ k. made_sized }
