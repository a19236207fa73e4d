-- What making a list of calls leaves: a whole life, with the promises at set-up and after every call.
use Rattle.std.specs.Prelude.{◌≡◌, ℕ, ◌<◌, ◌≤◌, ◌⊎◌, List, length, take, drop, All, Option, Result}
use Rattle.kinds.specs.Kinds.{Ops}
use Rattle.base.specs.Reasons.{nowhere}
use Rattle.base.specs.declared.Refusal.{Refusal}
use Rattle.base.specs.declared.Reason.TheVariants.{ListTooShort}
use Rattle.books.specs.declared.Alternative.{Alternative}
use Rattle.books.specs.declared.Entry.{Entry}
use Rattle.strategy_theory.specs.Lives.{State, Event, Life}
use Rattle.strategy_theory.specs.Promises.{Always}
use Rattle.strategy_theory.specs.Calls.{state, unasked}
use Rattle.solver.specs.Answers.{IsUnplaced, history}
use Rattle.solver.specs.declared.calls.Call.{Call}
use Rattle.solver.specs.declared.calls.Answer.{Answer}

module _ {V W : Type 0} (o : Ops V W) (m : List (List (Alternative V W))) where
  -- a life with the history h leads to the state s
  pub record LeadsOn (h : List (Event ⊥ V ⊥)) (s : State V) : Type 0 where
    pub past : List (List (Option ℕ))
    pub life : Life o m unasked h past s

  -- the calls were made from set-up on, in the list es, and answered in the front of bs: the life that they make ends in the front of es' with n rounds shown; no refusal among the answers has a place; what lies behind stays
  pub record LivedThrough (calls : List Call) (es : List (Entry V)) (bs : List (Result (Answer V) Refusal)) (n : ℕ) (es' : List (Entry V)) (bs' : List (Result (Answer V) Refusal)) : Type 0 where
    pub room : length m ≤ length es
    pub answers : length calls ≤ length bs
    pub past : List (List (Option ℕ))
    pub life : Life o m unasked (history calls (take (length calls) bs')) past (state (take (length m) es') n)
    pub always : Always o m unasked life
    pub unplaced : All IsUnplaced (take (length calls) bs')
    pub behind : drop (length m) es' ≡ drop (length m) es
    pub behind_answers : drop (length calls) bs' ≡ drop (length calls) bs

  -- a list is too short, and nothing has changed
  pub record TurnedBack (calls : List Call) (es : List (Entry V)) (bs : List (Result (Answer V) Refusal)) (e : Refusal) (es' : List (Entry V)) (bs' : List (Result (Answer V) Refusal)) : Type 0 where
    pub short : (length es < length m) ⊎ (length bs < length calls)
    pub refusal : e ≡ nowhere ListTooShort
    pub same : es' ≡ es
    pub same_answers : bs' ≡ bs
