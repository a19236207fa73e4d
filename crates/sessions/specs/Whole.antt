-- What making a list of calls on a script's bounds leaves: a whole life, with the promises at set-up and after every call.
use Rattle.std.specs.Prelude.{ℕ, List, [], ◌∷◌, reverse, Ok, Err, Option, Result}
use Rattle.kinds.specs.Values.{bounds}
use Rattle.kinds.specs.declared.bound.Bound.{Bound}
use Rattle.base.specs.Reasons.{number_of}
use Rattle.base.specs.declared.Refusal.{Refusal}
use Rattle.strategy_theory.specs.Lives as lives
use Rattle.strategy_theory.specs.Lives.{State, Event, Life, event}
use Rattle.strategy_theory.specs.Lives.Call.{question}
use Rattle.strategy_theory.specs.Lives.Answer.{told, refused}
use Rattle.strategy_theory.specs.Promises.{Always}
use Rattle.strategy_theory.specs.Calls.{call_with, answer_with}
use Rattle.solver.specs.Answers.{call_of, told_of}
use Rattle.language_theory.specs.Graphs.{Graph}
use Rattle.script_equations_theory.specs.Bounds.{bound_book}
use Rattle.soundness_theory.specs.Questions.{Question, Told, ask}
use Rattle.soundness_theory.specs.Questions.Question.{interval_of, findings_into}
use Rattle.soundness_theory.specs.Questions.Told.{shown, filled, turned_back}
use Rattle.soundness_theory.specs.Kept.{ScriptPromises, EachState}
use Rattle.sessions.specs.declared.calls.ScriptCall.{ScriptCall}
use Rattle.sessions.specs.declared.calls.ScriptCall.TheVariants.{Plain, Interval, Findings}
use Rattle.sessions.specs.declared.calls.ScriptAnswer.{ScriptAnswer}
use Rattle.sessions.specs.declared.calls.ScriptAnswer.TheVariants as answer

-- a call, as lives have it
abbrev pub script_call : ScriptCall → lives.Call Question
script_call (Plain c) = call_with (call_of c)
script_call (Interval p v) = question (interval_of p v)
script_call (Findings n) = question (findings_into n)

-- an answer to it
abbrev pub script_told : ScriptAnswer → lives.Answer Bound Told
script_told (answer.Plain a) = answer_with (told_of a)
script_told (answer.Interval i) = told (shown i)
script_told (answer.Findings fs) = told (filled fs.items)

-- a refusal of it: a question is told the number
abbrev pub turned : ScriptCall → ℕ → lives.Answer Bound Told
turned (Plain c) n = refused n
turned (Interval p v) n = told (turned_back n)
turned (Findings k) n = told (turned_back n)

abbrev pub script_answer : ScriptCall → Result ScriptAnswer Refusal → lives.Answer Bound Told
script_answer c (Ok a) = script_told a
script_answer c (Err e) = turned c (number_of e.reason)

-- calls with their answers, in the order made
abbrev pub script_paired : List ScriptCall → List (Result ScriptAnswer Refusal) → List (Event Question Bound Told)
script_paired [] answers = []
script_paired (c ∷ calls) [] = []
script_paired (c ∷ calls) (a ∷ answers) = event (script_call c) (script_answer c a) ∷ script_paired calls answers

-- the history that they make, the latest first
abbrev pub script_history : List ScriptCall → List (Result ScriptAnswer Refusal) → List (Event Question Bound Told)
script_history calls answers = reverse (script_paired calls answers)

-- a life with the history h, at which everything is promised at set-up and after every call
pub record LivedWhole (g : Graph) (h : List (Event Question Bound Told)) : Type 0 where
  pub past : List (List (Option ℕ))
  pub state : State Bound
  pub life : Life bounds (bound_book g) (ask g) h past state
  pub always : Always bounds (bound_book g) (ask g) life
  pub script : EachState (ScriptPromises g) life
