-- Guards as the reader draws them.
use Rattle.std.proofs.Common.{◌≡◌, List, refl, ap, ◌∙◌}
use Rattle.language_theory.specs.Grammar as grammar
use Rattle.language_theory.specs.Grammar.Condition.{compares}
use Rattle.language_theory.specs.Grammar.Order.{below, at_most, above, at_least}
use Rattle.language_theory.specs.Grammar.Operand.{against, limit}
use Rattle.language_theory.specs.Graphs.{Variable, Table, var_number, holds, fails}
use Rattle.language_theory.specs.declared.Action.{Action}
use Rattle.language_theory.specs.declared.Action.TheVariants.{Assume}
use Rattle.parser.specs.Models.{condition_of, guard_of, opposite_of, SmallOperand}
use Rattle.parser.specs.declared.condition.Condition.{Condition}

module _ (vs : List Variable) (ts : List Table) where
  -- the guard of a condition, and that of the opposite one
  guards : (a : grammar.Condition) →
      (Assume (guard_of (condition_of vs ts a).left (condition_of vs ts a).order (condition_of vs ts a).right) ≡ holds (var_number vs ts) a)
      × (Assume (guard_of (condition_of vs ts a).left (opposite_of (condition_of vs ts a).order) (condition_of vs ts a).right) ≡ fails (var_number vs ts) a)
  guards (compares i below (limit c)) = (refl, refl)
  guards (compares i at_most (limit c)) = (refl, refl)
  guards (compares i above (limit c)) = (refl, refl)
  guards (compares i at_least (limit c)) = (refl, refl)
  guards (compares i below (against k)) = (refl, refl)
  guards (compares i at_most (against k)) = (refl, refl)
  guards (compares i above (against k)) = (refl, refl)
  guards (compares i at_least (against k)) = (refl, refl)

module _ (vs : List Variable) (ts : List Table) {x : Condition} (a : grammar.Condition) (e : x ≡ condition_of vs ts a) (s : SmallOperand x.right) {r : Action} where
  pub holds_as : (SmallOperand x.right → r ≡ Assume (guard_of x.left x.order x.right)) → r ≡ holds (var_number vs ts) a
  holds_as h = h s ∙ ap (λ (c : Condition). Assume (guard_of c.left c.order c.right)) e ∙ (guards vs ts a).0

  pub fails_as : (SmallOperand x.right → r ≡ Assume (guard_of x.left (opposite_of x.order) x.right)) → r ≡ fails (var_number vs ts) a
  fails_as h = h s ∙ ap (λ (c : Condition). Assume (guard_of c.left (opposite_of c.order) c.right)) e ∙ (guards vs ts a).1
