-- throughout every life a finite bound is at most n × 2^31 in size, n the number of unknowns
use Rattle.std.proofs.Common.{◌≡◌, ℕ, ◌*◌, ◌≤◌, List, length, Option, ℤ, nat_abs, subst}
use Rattle.std.proofs.Math.Logic.{∥∥₁_elim}
use Rattle.std.proofs.Math.Bridge.{le_prop}
use Rattle.kinds.specs.Kinds.{Made}
use Rattle.kinds.specs.Values.{most_size, bounds, SizedBy}
use Rattle.kinds.specs.declared.bound.Bound.{Bound}
use Rattle.kinds.specs.declared.bound.Bound.TheVariants.{Whole}
use Rattle.kinds.specs.Laws.{bounds_laws}
use Rattle.kinds.proofs.Sizes.{made_sized}
use Rattle.books.specs.Books.{at}
use Rattle.books.specs.Forms.{Well}
use Rattle.books.specs.declared.Alternative.{Alternative}
use Rattle.strategy_theory.specs.Lives.{State, Event, Life}
use Rattle.strategy_theory.proofs.Keeping.{promised}

module _ {Q A : Type 0} (m : List (List (Alternative Bound ℤ))) (well : Well bounds m) (ask : State Bound → Q → A) where
  pub sized : {h : List (Event Q Bound A)} {ss : List (List (Option ℕ))} {s : State Bound} → Life bounds m ask h ss s → (u : ℕ) (a : ℤ) → at bounds s.values u ≡ Whole a → nat_abs a ≤ length m * most_size
  sized {s = s} life u a e = ∥∥₁_elim ((promised bounds m ask bounds_laws well life).sized u) le_prop
      (λ (d : Made bounds (length m) (at bounds s.values u)). subst (λ (b : Bound). SizedBy (length m) b) e (made_sized d))
