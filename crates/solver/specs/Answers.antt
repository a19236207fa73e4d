-- Calls and answers of an analysis, as lives have them.
use Rattle.std.specs.Prelude.{◌≡◌, List, [], ◌∷◌, reverse, None, Ok, Err, Result, IfErr}
use Rattle.base.specs.Reasons.{number_of}
use Rattle.base.specs.declared.Refusal.{Refusal}
use Rattle.strategy_theory.specs.Lives as lives
use Rattle.strategy_theory.specs.Lives.Call.{one_round, run, restart, value_of, choice_of, rounds_shown}
use Rattle.strategy_theory.specs.Lives.Answer.{made, done, value, choice, number, refused}
use Rattle.solver.specs.declared.rounds.Progress.{Progress}
use Rattle.solver.specs.declared.calls.Call.{Call}
use Rattle.solver.specs.declared.calls.Call.TheVariants.{Round, Run, Restart, Value, Choice, Rounds}
use Rattle.solver.specs.declared.calls.Answer.{Answer}
use Rattle.solver.specs.declared.calls.Answer.TheVariants.{Made, Done, Shown, Chosen, Counted}

-- what a round or a run came to
abbrev pub progressed : {V : Type 0} → Progress → lives.Answer V ⊥
progressed p = made p.rounds p.settled

-- an answer, or the number of the refusal
abbrev pub answered : {V X : Type 0} → (X → lives.Answer V ⊥) → Result X Refusal → lives.Answer V ⊥
answered f (Ok x) = f x
answered f (Err e) = refused (number_of e.reason)

-- an answer; or a refusal that has no place
abbrev pub IsUnplaced : {X : Type 0} → Result X Refusal → Type 0
IsUnplaced r = IfErr r (λ e. e.place ≡ None)

-- a call, and an answer, of a list of calls
abbrev pub call_of : Call → lives.Call ⊥
call_of Round = one_round
call_of (Run b) = run b
call_of Restart = restart
call_of (Value u) = value_of u
call_of (Choice u) = choice_of u
call_of Rounds = rounds_shown

abbrev pub told_of : {V : Type 0} → Answer V → lives.Answer V ⊥
told_of (Made p) = progressed p
told_of Done = done
told_of (Shown v) = value v
told_of (Chosen k) = choice k
told_of (Counted n) = number n

abbrev pub answer_of : {V : Type 0} → Result (Answer V) Refusal → lives.Answer V ⊥
answer_of r = answered told_of r

-- calls with their answers, in the order made
abbrev pub paired : {V : Type 0} → List Call → List (Result (Answer V) Refusal) → List (lives.Event ⊥ V ⊥)
paired [] answers = []
paired (c ∷ calls) [] = []
paired (c ∷ calls) (a ∷ answers) = lives.event (call_of c) (answer_of a) ∷ paired calls answers

-- the history that they make, the latest first
abbrev pub history : {V : Type 0} → List Call → List (Result (Answer V) Refusal) → List (lives.Event ⊥ V ⊥)
history calls answers = reverse (paired calls answers)
