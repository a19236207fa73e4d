-- Worked systems: their equations, the counted rounds that they take, and the least solution at which they rest.
use Rattle.std.specs.Prelude.{◌≡◌, ℕ, List, [], ◌∷◌, length, ℤ, pos, negsuc, Option}
use Rattle.kinds.specs.Kinds.{Ops}
use Rattle.kinds.specs.Values.{bounds, grades, SizedBy}
use Rattle.kinds.specs.declared.bound.Bound.{Bound}
use Rattle.kinds.specs.declared.bound.Bound.TheVariants.{Least, Whole, Greatest}
use Rattle.kinds.specs.declared.grade.Grade.{Grade}
use Rattle.kinds.specs.declared.grade.Grade.TheVariants.{Written}
use Rattle.kinds.specs.declared.grade.NoWeight.{NoWeight}
use Rattle.kinds.specs.declared.grade.NoWeight.TheVariants.{Zero}
use Rattle.books.specs.Books.{at, Solution, HoldsUp}
use Rattle.books.specs.Forms.{Well, constant, shifted}
use Rattle.books.specs.declared.Term.TheVariants.{Constant, Shifted}
use Rattle.books.specs.declared.Test.{Test}
use Rattle.books.specs.declared.Test.TheVariants.{Always}
use Rattle.books.specs.declared.Terms.{Terms}
use Rattle.books.specs.declared.Terms.TheVariants.{Two}
use Rattle.books.specs.declared.Alternative.{Alternative}
use Rattle.strategy_theory.specs.Solving.{Settled, Rounds}
use Rattle.strategy_theory.specs.Theory.{none_chosen, all_least, Below}
use Rattle.strategy_theory.specs.Lives.{State, Event, Life}
use Rattle.examples.specs.declared.systems.System.{System}
use Rattle.examples.specs.declared.systems.System.TheVariants.{Nothing, Copying, Capped, Growing, Groundless, Falling}

-- from none chosen, k counted rounds come to rest at x, the least solution of the book m
pub record ComesTo {V W : Type 0} (o : Ops V W) (m : List (List (Alternative V W))) (k : ℕ) (x : List V) : Type 0 where
  pub well : Well o m
  -- the strategies before the last, the latest first, and the last
  pub ss : List (List (Option ℕ))
  pub s : List (Option ℕ)
  pub rounds : Rounds o m (none_chosen (length m)) (all_least o (length m)) ss s x
  pub number : length ss ≡ k
  pub settled : Settled o m x
  pub solves : Solution o m x
  pub least : (y : List V) → HoldsUp o m y → Below o x y

-- an alternative of these two parts
abbrev pub alternative : {V W : Type 0} → Test V → Terms V W → Alternative V W
alternative t ts = record { test = t; terms = ts }

-- a ground of zero
abbrev pub ground_zero : Alternative Bound ℤ
ground_zero = constant (Whole (pos 0))

-- u0 = max(0, u1), u1 = u0
abbrev pub copying : List (List (Alternative Bound ℤ))
copying = (ground_zero ∷ shifted 1 (pos 0) ∷ []) ∷ (shifted 0 (pos 0) ∷ []) ∷ []

-- u0 = max(0, min(u0 + 1, 9))
abbrev pub capped : List (List (Alternative Bound ℤ))
capped = (ground_zero ∷ alternative Always (Two (Shifted 0 (pos 1)) (Constant (Whole (pos 9)))) ∷ []) ∷ []

-- u0 = max(0, u0 + 1)
abbrev pub growing : List (List (Alternative Bound ℤ))
growing = (ground_zero ∷ shifted 0 (pos 1) ∷ []) ∷ []

-- u0 = u0 + 1
abbrev pub groundless : List (List (Alternative Bound ℤ))
groundless = (shifted 0 (pos 1) ∷ []) ∷ []

-- u0 = max(0, u0 - 1)
abbrev pub falling : List (List (Alternative Bound ℤ))
falling = (ground_zero ∷ shifted 0 (negsuc 0) ∷ []) ∷ []

-- the equations of a system
abbrev pub system_equations : System → List (List (Alternative Bound ℤ))
system_equations Nothing = []
system_equations Copying = copying
system_equations Capped = capped
system_equations Growing = growing
system_equations Groundless = groundless
system_equations Falling = falling

-- where a system rests
abbrev pub rest_of : System → List Bound
rest_of Nothing = []
rest_of Copying = Whole (pos 0) ∷ Whole (pos 0) ∷ []
rest_of Capped = Whole (pos 9) ∷ []
rest_of Growing = Greatest ∷ []
rest_of Groundless = Least ∷ []
rest_of Falling = Whole (pos 0) ∷ []

-- over grades: u0 = max(Written, u1), u1 = u0
abbrev pub copying_grades : List (List (Alternative Grade NoWeight))
copying_grades = (constant Written ∷ shifted 1 Zero ∷ []) ∷ (shifted 0 Zero ∷ []) ∷ []

-- where it rests
abbrev pub resting_grades : List Grade
resting_grades = Written ∷ Written ∷ []

-- the worked systems with their numbers: the rounds, and the values at rest
pub record SystemsStand : Type 0 where
  pub no_unknowns : ComesTo bounds [] 0 []
  pub copied : ComesTo bounds copying 2 (Whole (pos 0) ∷ Whole (pos 0) ∷ [])
  pub capped_at_9 : ComesTo bounds capped 2 (Whole (pos 9) ∷ [])
  pub grown : ComesTo bounds growing 2 (Greatest ∷ [])
  pub ungrounded : ComesTo bounds groundless 0 (Least ∷ [])
  pub stays : ComesTo bounds falling 1 (Whole (pos 0) ∷ [])
  pub graded : ComesTo grades copying_grades 2 (Written ∷ Written ∷ [])

-- in any life of an analysis of bounds, with no questions besides its own calls, each value shown is an infinity or a whole number of size at most n × 2^31, n being the number of unknowns
abbrev pub BoundedLives : Type 0
BoundedLives =
    (m : List (List (Alternative Bound ℤ))) → Well bounds m → (h : List (Event ⊥ Bound ⊥)) (ss : List (List (Option ℕ))) (s : State Bound) →
    Life bounds m (λ s q. q) h ss s → (u : ℕ) → SizedBy (length m) (at bounds s.values u)
