-- What a run with a budget comes to, from the beginning.
use Rattle.std.specs.Prelude.{◌≡◌, ℕ, ◌<◌, ◌≤◌, Bool, true, ◌⊎◌, List}
use Rattle.kinds.specs.Limits.{most_rounds}
use Rattle.kinds.specs.Kinds.{Ops}
use Rattle.base.specs.Reasons.{nowhere}
use Rattle.base.specs.declared.Refusal.{Refusal}
use Rattle.base.specs.declared.Reason.TheVariants.{BudgetTooLarge, NotSettled}
use Rattle.books.specs.declared.Alternative.{Alternative}
use Rattle.script_graph.specs.declared.graph.Graph.{Graph}
use Rattle.report_theory.specs.Laws.{SettlesAfter, MovesAfter}

module _ {V W : Type 0} (o : Ops V W) (m : List (List (Alternative V W))) (budget : ℕ) where
  -- the budget is allowed, and it is settled after k rounds, at the values x
  pub record SettlesWithin (k : ℕ) (x : List V) : Type 0 where
    pub allowed : budget ≤ most_rounds
    pub settles : SettlesAfter o m k x
    pub within : k ≤ budget

  -- why it is not: 32, the budget is too large; or 31, its rounds leave values that are not settled
  abbrev pub NoEnd : Refusal → Type 0
  NoEnd e = ((most_rounds < budget) × (e ≡ nowhere BudgetTooLarge)) ⊎ ((budget ≤ most_rounds) × MovesAfter o m budget × (e ≡ nowhere NotSettled))

-- a session is settled, and its book is that of the graph g
pub record SettledOn (settled : Bool) (h g : Graph) : Type 0 where
  pub yes : settled ≡ true
  pub same : h ≡ g
