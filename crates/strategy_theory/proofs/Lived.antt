-- the law over lives, put together
use Rattle.kinds.specs.Kinds.{Ops, Laws}
use Rattle.strategy_theory.specs.Lives.Life.{after}
use Rattle.strategy_theory.specs.Promises.{LivesStand}
use Rattle.strategy_theory.proofs.Keeping.{promised, always}
use Rattle.strategy_theory.proofs.Agreeing.{same, every}

pub lives : {V W Q A : Type 0} (o : Ops V W) → Laws o → LivesStand o Q A
lives o l m ask well = record {
  promised = λ h ss s k. promised o m ask l well k;
  always = λ h ss s k. always o m ask l well k;
  same = λ h h' ss ss' s s' p q e. same o m ask l well p q e;
  goes_on = λ c a s s' d h ss k. let r = d ss in (r.0, after c a k r.1, promised o m ask l well (after c a k r.1));
  every = every o m ask l well;
}
