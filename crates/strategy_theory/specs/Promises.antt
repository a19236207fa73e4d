-- What an analysis promises throughout its life.
use Rattle.std.specs.Prelude.{◌≡◌, ℕ, ◌+◌, ◌<◌, min, Bool, true, false, ◌↔◌, List, [], ◌∷◌, length, Some, None, Option}
use Rattle.kinds.specs.Limits.{most_rounds}
use Rattle.kinds.specs.Kinds.{Ops, Made}
use Rattle.books.specs.Books.{at, Solution, HoldsUp}
use Rattle.books.specs.Forms.{Well}
use Rattle.strategy_theory.specs.Solving.{Values, Stage, Settled, Rounds, Differ, count}
use Rattle.strategy_theory.specs.Theory.{none_chosen, all_least, Below}
use Rattle.books.specs.declared.Alternative.{Alternative}
use Rattle.strategy_theory.specs.Lives.{State, Call, Answer, Event, event, calls, budget, begun, Does, Life}
use Rattle.strategy_theory.specs.Lives.Answer.{made, done, value, choice, number, told, refused}
use Rattle.strategy_theory.specs.Lives.Life.{set_up, after}

-- the counted rounds after an answer, n before it
abbrev pub counted : {V A : Type 0} → Answer V A → ℕ → ℕ
counted (made k b) n = n + k
counted done n = 0
counted (value x) n = n
counted (choice k) n = n
counted (number k) n = n
counted (told a) n = n
counted (refused k) n = n

-- the rounds answered since set-up or the last restart, added up
abbrev pub since : {Q V A : Type 0} → List (Event Q V A) → ℕ
since [] = 0
since (e ∷ h) = counted e.answer (since h)

-- whether it was settled, by the answer, r being what was said before it
abbrev pub says : {V A : Type 0} → Answer V A → Option Bool → Option Bool
says (made k b) r = Some b
says done r = None
says (value x) r = r
says (choice k) r = r
says (number k) r = r
says (told a) r = r
says (refused k) r = r

-- what the last round or run since set-up or restart said
abbrev pub last : {Q V A : Type 0} → List (Event Q V A) → Option Bool
last [] = None
last (e ∷ h) = says e.answer (last h)

-- a round or run that answered unsettled made its whole budget
abbrev pub Whole : {Q V A : Type 0} → Event Q V A → Type 0
Whole e = (b k : ℕ) → budget e.call ≡ Some b → e.answer ≡ made k false → k ≡ b

-- every one of the history did
abbrev pub EachWhole : {Q V A : Type 0} → List (Event Q V A) → Type 0
EachWhole [] = Unit {0}
EachWhole (e ∷ h) = Whole e × EachWhole h

module _ {V W : Type 0} (o : Ops V W) (m : List (List (Alternative V W))) where
  -- x solves the book and lies at or below all that holds up
  pub record Least (x : List V) : Type 0 where
    pub solves : Solution o m x
    pub below : (y : List V) → HoldsUp o m y → Below o x y

  -- the law: what holds of the state s after the history h, ss being the strategies before its own since set-up or the last restart
  pub record Promises {Q A : Type 0} (h : List (Event Q V A)) (ss : List (List (Option ℕ))) (s : State V) : Type 0 where
    -- each value shown is at most that of all that holds up, so of every solution
    pub below : (y : List V) → HoldsUp o m y → Below o s.values y
    pub below_solutions : (y : List V) → Solution o m y → Below o s.values y
    -- the last round or run answered settled exactly if the values are a solution
    pub said : (b : Bool) → last h ≡ Some b → (b ≡ true) ↔ Solution o m s.values
    -- a settled analysis shows the least solution
    pub least : Settled o m s.values → Least s.values
    -- the strategies since set-up or the last restart, those inside runs included, come by counted rounds from none chosen, and all differ
    pub rounds : Rounds o m (none_chosen (length m)) (all_least o (length m)) ss s.strategy s.values
    pub differ : Differ (s.strategy ∷ ss)
    -- there is one such round for each that was answered; they are fewer than the strategies
    pub answered : length ss ≡ since h
    pub few : since h < count m
    pub whole : EachWhole h
    pub shown : s.shown ≡ min most_rounds (since h)
    -- the values shown are those of the strategy
    pub stage : Stage o m s.strategy s.values
    pub values : Values o m s.strategy s.values
    -- each value is made of at most as many constants and weights as there are unknowns
    pub sized : (u : ℕ) → ∥ Made o (length m) (at o s.values u) ∥₁

module _ {V W Q A : Type 0} (o : Ops V W) (m : List (List (Alternative V W))) (ask : State V → Q → A) where
  -- the promises hold at set-up and after every call
  abbrev pub Always : {h : List (Event Q V A)} {ss : List (List (Option ℕ))} {s : State V} → Life o m ask h ss s → Type 0
  Always set_up = Promises o m {Q = Q} {A = A} [] [] (begun o m)
  Always (after {h = h} {ss' = ss'} {s' = s'} c a l d) = Always l × Promises o m (event c a ∷ h) ss' s'

  -- the call c, answered by a, carries every life that leads to s on to s', and the promises hold there: what the contract of a call says
  abbrev pub GoesOn : Call Q → Answer V A → State V → State V → Type 0
  GoesOn c a s s' = (h : List (Event Q V A)) (ss : List (List (Option ℕ))) → Life o m ask h ss s → (ss' : List (List (Option ℕ))) × Life o m ask (event c a ∷ h) ss' s' × Promises o m (event c a ∷ h) ss' s'

  -- what is proved of the lives of the analyses of a book: the promises; the same calls get the same answers and come to the same state; and all calls can be made
  pub record Lived : Type 0 where
    pub promised : (h : List (Event Q V A)) (ss : List (List (Option ℕ))) (s : State V) → Life o m ask h ss s → Promises o m h ss s
    pub always : (h : List (Event Q V A)) (ss : List (List (Option ℕ))) (s : State V) (l : Life o m ask h ss s) → Always l
    pub same : (h h' : List (Event Q V A)) (ss ss' : List (List (Option ℕ))) (s s' : State V) → Life o m ask h ss s → Life o m ask h' ss' s' → calls h ≡ calls h' → (h ≡ h') × (ss ≡ ss') × (s ≡ s')
    pub goes_on : (c : Call Q) (a : Answer V A) (s s' : State V) → ((ss : List (List (Option ℕ))) → (ss' : List (List (Option ℕ))) × Does o m ask c ss s a ss' s') → GoesOn c a s s'
    pub every : (cs : List (Call Q)) → (h : List (Event Q V A)) × (ss : List (List (Option ℕ))) × (s : State V) × Life o m ask h ss s × (calls h ≡ cs)

-- all of it holds of every well-formed book, whatever is asked besides
abbrev pub LivesStand : {V W : Type 0} → Ops V W → Type 0 → Type 0 → Type 0
LivesStand {V} {W} o Q A = (m : List (List (Alternative V W))) (ask : State V → Q → A) → Well o m → Lived o m ask
