-- Lives of an analysis: its calls with their answers, in any order, and what each call leaves.
use Rattle.std.specs.Prelude.{◌≡◌, ℕ, ◌+◌, ◌<◌, ◌≤◌, min, Bool, true, false, ◌⊎◌, ◌↔◌, List, [], ◌∷◌, ◌++◌, length, Some, None, Option, slice_index_or}
use Rattle.kinds.specs.Limits.{most_rounds}
use Rattle.kinds.specs.Kinds.{Ops}
use Rattle.books.specs.Books.{at}
use Rattle.strategy_theory.specs.Solving.{Settled, Rounds}
use Rattle.strategy_theory.specs.Theory.{none_chosen, all_least}
use Rattle.books.specs.declared.Alternative.{Alternative}

-- the state of an analysis: the choices, the values, and the counted rounds shown
pub record State (V : Type 0) : Type 0 where
  pub strategy : List (Option ℕ)
  pub values : List V
  pub shown : ℕ

-- the calls of an analysis; Q are the questions besides these, which change nothing either
pub data Call (Q : Type 0) : Type 0 where
  one_round : Call Q
  run : ℕ → Call Q
  restart : Call Q
  value_of : ℕ → Call Q
  choice_of : ℕ → Call Q
  rounds_shown : Call Q
  question : Q → Call Q

-- the answers: the counted rounds made and whether it is settled then; done; what is shown; the answer A to a question of Q; the number of a refusal
pub data Answer (V A : Type 0) : Type 0 where
  made : ℕ → Bool → Answer V A
  done : Answer V A
  value : V → Answer V A
  choice : Option ℕ → Answer V A
  number : ℕ → Answer V A
  told : A → Answer V A
  refused : ℕ → Answer V A

-- a call and its answer
pub record Event (Q V A : Type 0) : Type 0 where
  pub call : Call Q
  pub answer : Answer V A

abbrev pub event : {Q V A : Type 0} → Call Q → Answer V A → Event Q V A
event c a = record { call = c; answer = a }

-- the calls of a history
abbrev pub calls : {Q V A : Type 0} → List (Event Q V A) → List (Call Q)
calls [] = []
calls (e ∷ h) = e.call ∷ calls h

-- the budget of a round or a run
abbrev pub budget : {Q : Type 0} → Call Q → Option ℕ
budget one_round = Some 1
budget (run b) = Some b
budget restart = None
budget (value_of u) = None
budget (choice_of u) = None
budget rounds_shown = None
budget (question q) = None

-- the call answers b and changes nothing
pub record Keeps {V A : Type 0} (b : Answer V A) (ss : List (List (Option ℕ))) (s : State V) (a : Answer V A) (ss' : List (List (Option ℕ))) (s' : State V) : Type 0 where
  pub answer : a ≡ b
  pub past : ss' ≡ ss
  pub state : s' ≡ s

module _ {V W : Type 0} (o : Ops V W) (m : List (List (Alternative V W))) where
  -- none is chosen, all values are least, no round is counted
  abbrev pub begun : State V
  begun = record { strategy = none_chosen (length m); values = all_least o (length m); shown = 0 }

  -- rounds until settled or the budget b is used: ts are the strategies of the counted rounds, each as it was before its round, the latest first
  pub record Runs {A : Type 0} (b : ℕ) (ss : List (List (Option ℕ))) (s : State V) (a : Answer V A) (ss' : List (List (Option ℕ))) (s' : State V) : Type 0 where
    pub k : ℕ
    pub settled : Bool
    pub ts : List (List (Option ℕ))
    pub answer : a ≡ made k settled
    pub past : ss' ≡ ts ++ ss
    pub rounds : Rounds o m s.strategy s.values ts s'.strategy s'.values
    pub counted : length ts ≡ k
    pub within : k ≤ b
    pub said : (settled ≡ true) ↔ Settled o m s'.values
    pub whole : settled ≡ false → k ≡ b
    pub shown : s'.shown ≡ min most_rounds (s.shown + k)

  -- a restart is done, and leaves the state of set-up
  pub record Restarts {A : Type 0} (a : Answer V A) (ss' : List (List (Option ℕ))) (s' : State V) : Type 0 where
    pub answer : a ≡ done
    pub past : ss' ≡ []
    pub state : s' ≡ begun

module _ {V W Q A : Type 0} (o : Ops V W) (m : List (List (Alternative V W))) (ask : State V → Q → A) where
  -- in the state s the call answers a and leaves the state s'; ss and ss' are the strategies since set-up or the last restart that came before, the latest first
  abbrev pub Does : Call Q → List (List (Option ℕ)) → State V → Answer V A → List (List (Option ℕ)) → State V → Type 0
  Does one_round ss s a ss' s' = Runs o m 1 ss s a ss' s'
  Does (run b) ss s a ss' s' = ((b ≤ most_rounds) × Runs o m b ss s a ss' s') ⊎ ((most_rounds < b) × Keeps (refused 32) ss s a ss' s')
  Does restart ss s a ss' s' = Restarts o m a ss' s'
  Does (value_of u) ss s a ss' s' = ((u < length m) × Keeps (value (at o s.values u)) ss s a ss' s') ⊎ ((length m ≤ u) × Keeps (refused 30) ss s a ss' s')
  Does (choice_of u) ss s a ss' s' = ((u < length m) × Keeps (choice (slice_index_or s.strategy u None)) ss s a ss' s') ⊎ ((length m ≤ u) × Keeps (refused 30) ss s a ss' s')
  Does rounds_shown ss s a ss' s' = Keeps (number s.shown) ss s a ss' s'
  Does (question q) ss s a ss' s' = Keeps (told (ask s q)) ss s a ss' s'

  -- an analysis of the book m that has the history h, the latest call first, comes to the state s, the strategies ss lying behind it
  pub data Life : List (Event Q V A) → List (List (Option ℕ)) → State V → Type 0 where
    set_up : Life [] [] (begun o m)
    after : {h : List (Event Q V A)} {ss ss' : List (List (Option ℕ))} {s s' : State V} (c : Call Q) (a : Answer V A) → Life h ss s → Does c ss s a ss' s' → Life (event c a ∷ h) ss' s'
