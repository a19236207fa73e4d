-- What is promised of a script's bounds.
use Rattle.std.specs.Prelude.{◌≡◌, ℕ, ◌*◌, ◌<◌, ◌≤◌, true, ◌⊎◌, List, length, ℤ, pos, Some, None, Option, Contains, unsigned_abs}
use Rattle.kinds.specs.Kinds.{Ops}
use Rattle.kinds.specs.Values.{under, added, bounds, most_size}
use Rattle.kinds.specs.declared.bound.Bound.{Bound}
use Rattle.kinds.specs.declared.bound.Bound.TheVariants.{Least, Whole}
use Rattle.books.specs.Books.{at, HoldsUp}
use Rattle.books.specs.declared.Alternative.{Alternative}
use Rattle.strategy_theory.specs.Solving.{Settled}
use Rattle.strategy_theory.specs.Lives.{State, Event, Life}
use Rattle.strategy_theory.specs.Lives.Life.{set_up, after}
use Rattle.language_theory.specs.Graphs.{Graph}
use Rattle.language_theory.specs.declared.Lookup.{Lookup}
use Rattle.script_equations_theory.specs.Bounds.{upper, lower, variables_of, bound_book}
use Rattle.soundness_theory.specs.Runs.{Run, OutsideRead}
use Rattle.soundness_theory.specs.Intervals.{interval, Inside, Stands}
use Rattle.soundness_theory.specs.Findings.{findings, FindingOf}
use Rattle.soundness_theory.specs.declared.Finding.{Finding}

-- v has an interval at p, and U + L is at least 0
pub record Reached (g : Graph) (y : List Bound) (p v : ℕ) : Type 0 where
  pub i : Bound × Bound
  pub there : interval g y p v ≡ Some i
  pub stands : Stands i
  pub sum : under (Whole (pos 0)) (added (at bounds y (upper (variables_of g) p v)) (at bounds y (lower (variables_of g) p v))) ≡ true

-- v has none there, and U and L are both least
pub record Unreached (g : Graph) (y : List Bound) (p v : ℕ) : Type 0 where
  pub absent : interval g y p v ≡ None
  pub high : at bounds y (upper (variables_of g) p v) ≡ Least
  pub low : at bounds y (lower (variables_of g) p v) ≡ Least

module _ (g : Graph) (y : List Bound) where
  -- every state of every run lies inside, and a run reads outside a table only at a read that has a finding
  pub record Sound : Type 0 where
    pub inside : (p : ℕ) (x : List ℤ) → Run g p x → Inside g y p x
    pub reads : (l : Lookup) (x : List ℤ) → OutsideRead g l x → (f : Finding) × FindingOf g y l f

  -- each point is reached for all variables or for none
  abbrev pub Paired : Type 0
  Paired = (p : ℕ) → p < g.points → ((v : ℕ) → v < variables_of g → Reached g y p v) ⊎ ((v : ℕ) → v < variables_of g → Unreached g y p v)

  -- the list of findings has exactly those of the reads that have one
  pub record Listed : Type 0 where
    pub each : (f : Finding) → Contains (findings g y) f → (l : Lookup) × FindingOf g y l f
    pub all : (l : Lookup) (f : Finding) → FindingOf g y l f → Contains (findings g y) f

-- for all values that hold up in the bound book, so for every solution
abbrev pub RunsStand : Graph → Type 0
RunsStand g = (y : List Bound) → HoldsUp bounds (bound_book g) y → Sound g y

-- what holds of the bounds of a script in each state of an analysis
pub record ScriptPromises (g : Graph) (s : State Bound) : Type 0 where
  pub sound : Settled bounds (bound_book g) s.values → Sound g s.values
  pub paired : Settled bounds (bound_book g) s.values → Paired g s.values
  pub listed : Listed g s.values
  -- a finite bound is at most n × 2^31 in size, n the number of unknowns
  pub sized : (u : ℕ) (a : ℤ) → at bounds s.values u ≡ Whole a → unsigned_abs a ≤ length (bound_book g) * most_size

-- P holds of the state at set-up and after every call of a life
abbrev pub EachState : {V W Q A : Type 0} {o : Ops V W} {m : List (List (Alternative V W))} {ask : State V → Q → A} → (State V → Type 0) → {h : List (Event Q V A)} {ss : List (List (Option ℕ))} {s : State V} → Life o m ask h ss s → Type 0
EachState P {s = s} set_up = P s
EachState P (after {s' = s'} c a l d) = EachState P l × P s'
