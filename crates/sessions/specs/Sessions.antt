-- What a session keeps, and the clause of its calls.
use Rattle.std.specs.Prelude.{ℕ, List, [], Option}
use Rattle.kinds.specs.Kinds.{Ops}
use Rattle.books.specs.declared.Alternative.{Alternative}
use Rattle.strategy_theory.specs.Lives.{State, Call, Answer, Event, Life}
use Rattle.strategy_theory.specs.Promises.{Promises, GoesOn}
use Rattle.strategy_theory.specs.Calls.{unasked}
use Rattle.soundness_theory.specs.Questions.{Question, Told}

module _ {V W : Type 0} (o : Ops V W) (m : List (List (Alternative V W))) where
  -- some history led to the state s
  pub record Lived (s : State V) : Type 0 where
    pub history : List (Event ⊥ V ⊥)
    pub past : List (List (Option ℕ))
    pub life : Life o m unasked history past s

  -- a life begins in the state s, whatever may be asked
  abbrev pub Opens : State V → Type 0
  Opens s = (ask : State V → Question → Told) → Life o m ask [] [] s × Promises o m {Q = Question} {A = Told} [] [] s

  -- whatever may be asked besides, the call c, answered by a, carries every life that led to s on to s', and the promises hold there
  abbrev pub CarriesOn : Call Question → Answer V Told → State V → State V → Type 0
  CarriesOn c a s s' = (ask : State V → Question → Told) → GoesOn o m ask c a s s'
