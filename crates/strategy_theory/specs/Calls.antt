-- What the contract of a call of an analysis says: every life that led to the list and the count before it goes on with it, and keeps the promises.
use Rattle.std.specs.Prelude.{◌≡◌, ℕ, ◌<◌, ◌≤◌, List, [], ◌∷◌, length, replicate, None, Option, Result, MatchResult, slice_index_or}
use Rattle.base.specs.Reasons.{nowhere}
use Rattle.base.specs.declared.Refusal.{Refusal}
use Rattle.base.specs.declared.Reason.TheVariants.{NotThere}
use Rattle.kinds.specs.Kinds.{Ops}
use Rattle.books.specs.Books.{at}
use Rattle.books.specs.Entries.{values, choices}
use Rattle.books.specs.Forms.{Well}
use Rattle.books.specs.declared.Alternative.{Alternative}
use Rattle.books.specs.declared.Entry.{Entry}
use Rattle.strategy_theory.specs.Lives.{State, Call, Answer, Event, event, Life}
use Rattle.strategy_theory.specs.Lives.Call.{one_round, run, restart, value_of, choice_of, rounds_shown, question}
use Rattle.strategy_theory.specs.Lives.Answer.{made, done, value, choice, number, told, refused}
use Rattle.strategy_theory.specs.Promises.{Promises, GoesOn}

-- the state of an analysis with this list and this count of rounds
abbrev pub state : {V : Type 0} → List (Entry V) → ℕ → State V
state es shown = record { strategy = choices es; values = values es; shown = shown }

-- no questions besides those for a value, a choice and the rounds
abbrev pub unasked : {V : Type 0} → State V → ⊥ → ⊥
unasked s q = q

-- the same call where questions may be asked besides
abbrev pub call_with : {Q : Type 0} → Call ⊥ → Call Q
call_with one_round = one_round
call_with (run b) = run b
call_with restart = restart
call_with (value_of u) = value_of u
call_with (choice_of u) = choice_of u
call_with rounds_shown = rounds_shown
call_with (question q) = absurd q

-- the same answer where questions may be asked besides
abbrev pub answer_with : {V A : Type 0} → Answer V ⊥ → Answer V A
answer_with (made k b) = made k b
answer_with done = done
answer_with (value x) = value x
answer_with (choice k) = choice k
answer_with (number k) = number k
answer_with (told a) = absurd a
answer_with (refused k) = refused k

-- the first history without its questions is the second
pub data WithoutQuestions {Q V A : Type 0} : List (Event Q V A) → List (Event ⊥ V ⊥) → Type 0 where
  none : WithoutQuestions [] []
  left_out : {h : List (Event Q V A)} {h' : List (Event ⊥ V ⊥)} (q : Q) (a : Answer V A) → WithoutQuestions h h' → WithoutQuestions (event (question q) a ∷ h) h'
  kept : {h : List (Event Q V A)} {h' : List (Event ⊥ V ⊥)} (c : Call ⊥) (a : Answer V ⊥) → WithoutQuestions h h' → WithoutQuestions (event (call_with c) (answer_with a) ∷ h) (event c a ∷ h')

-- an entry as at set-up: the least value and no choice
abbrev pub fresh_entry : {V W : Type 0} → Ops V W → Entry V
fresh_entry o = record { value = o.least; choice = None }

-- a list of n of them
abbrev pub fresh : {V W : Type 0} → Ops V W → ℕ → List (Entry V)
fresh o n = replicate n (fresh_entry o)

-- the value of the unknown u in a list, or the refusal of one that is not there
abbrev pub Shows : {V W : Type 0} → Ops V W → List (Entry V) → ℕ → Result V Refusal → Type 0
Shows o es u r = MatchResult r (λ v. (u < length es) × (v ≡ at o (values es) u)) (λ e. (length es ≤ u) × (e ≡ nowhere NotThere))

-- the same of its choice
abbrev pub ShowsChoice : {V : Type 0} → List (Entry V) → ℕ → Result (Option ℕ) Refusal → Type 0
ShowsChoice es u r = MatchResult r (λ k. (u < length es) × (k ≡ slice_index_or (choices es) u None)) (λ e. (length es ≤ u) × (e ≡ nowhere NotThere))

-- a life begins in the state s, and keeps the promises there
pub record Begins {V W : Type 0} (o : Ops V W) (m : List (List (Alternative V W))) (s : State V) : Type 0 where
  pub life : Life o m unasked [] [] s
  pub promises : Promises o m {Q = ⊥} {A = ⊥} [] [] s

-- the call c, answered by a, from the state s to the state s', in every life of an analysis of the book m
abbrev pub Prolongs : {V W : Type 0} → Ops V W → List (List (Alternative V W)) → Call ⊥ → Answer V ⊥ → State V → State V → Type 0
Prolongs o m c a s s' = GoesOn o m unasked c a s s'

-- the same, whatever the book
abbrev pub ProlongsAny : {V W : Type 0} → Ops V W → Call ⊥ → Answer V ⊥ → State V → State V → Type 0
ProlongsAny {V} {W} o c a s s' = (m : List (List (Alternative V W))) → Well o m → Prolongs o m c a s s'
