-- What the parts of a round do to the list of entries.
use Rattle.std.specs.Prelude.{◌≡◌, ℕ, ◌≤◌, Bool, true, false, not, ◌↔◌, List, map, length, Some, None, Option, slice_set}
use Rattle.kinds.specs.Kinds.{Ops}
use Rattle.books.specs.Books.{at, right}
use Rattle.books.specs.Entries.{values, choices, Short}
use Rattle.books.specs.declared.Alternative.{Alternative}
use Rattle.books.specs.declared.Entry.{Entry}
use Rattle.strategy_theory.specs.Strategies.{chosen}
use Rattle.strategy_theory.specs.Solving.{switched, improved, Values, Stage, Settled, Rounds}
use Rattle.strategy_theory.specs.Sweeping.{relaxed, swept}

module _ {V W : Type 0} (o : Ops V W) (m : List (List (Alternative V W))) where
  -- one unknown u, before and after it may have switched; r says whether it has
  pub record Switches (es : List (Entry V)) (u : ℕ) (r : Bool) (es' : List (Entry V)) : Type 0 where
    pub kept : values es' ≡ values es
    pub choice : choices es' ≡ slice_set (choices es) u (switched o m (values es) (choices es) u)
    pub said : r ≡ not (o.at_most (right o m (values es) u) (at o (values es) u))

  -- all unknowns, before and after those with a greater right side have switched; r says whether any has
  pub record ImprovesAll (es : List (Entry V)) (r : Bool) (es' : List (Entry V)) : Type 0 where
    pub kept : values es' ≡ values es
    pub choice : choices es' ≡ improved o m (values es) (choices es)
    pub settled : r ≡ false → Settled o m (values es)
    pub unsettled : r ≡ true → Settled o m (values es) → ⊥

  -- the values after a sweep over all unknowns
  abbrev pub sweep_of : List (Entry V) → List V
  sweep_of es = swept o (chosen m (choices es)) (values es) (length es)

  -- each value on the way of a sweep is short
  abbrev pub ShortSweep : List (Entry V) → Type 0
  ShortSweep es = (i : ℕ) → i ≤ length es → Short o (swept o (chosen m (choices es)) (values es) i)

  -- one unknown u, before and after it was given the smaller of its chosen terms; r says whether its value changed
  pub record Relaxes (es : List (Entry V)) (u : ℕ) (es' : List (Entry V)) : Type 0 where
    pub values : values es' ≡ relaxed o (chosen m (choices es)) (values es) u

  -- all unknowns, after the sweep
  pub record SweepsAll (es : List (Entry V)) (es' : List (Entry V)) : Type 0 where
    pub values : values es' ≡ sweep_of es

  -- after a round's improvement, from the strategy s with the values x, the values become those of the improved strategy
  abbrev pub Evaluates : List (Entry V) → List (Entry V) → Type 0
  Evaluates es es' = (s : List (Option ℕ)) (x : List V) → Stage o m s x → choices es ≡ improved o m x s → Values o m (improved o m x s) (values es')

-- the entry before the first sweep: greatest with a choice, least without
abbrev pub opened_value : {V W : Type 0} → Ops V W → Option ℕ → V
opened_value o None = o.least
opened_value o (Some k) = o.greatest

abbrev pub opened_all : {V W : Type 0} → Ops V W → List (Entry V) → List (Entry V)
opened_all {V} o es = map (λ (e : Entry V). record { value = opened_value o e.choice; choice = e.choice }) es

-- a list that rounds can go on from: its values are those of its strategy, as rounds keep them, and short
pub record Ready {V W : Type 0} (o : Ops V W) (m : List (List (Alternative V W))) (es : List (Entry V)) : Type 0 where
  pub stage : Stage o m (choices es) (values es)
  pub short : Short o (values es)

-- counted rounds from the list es to the list es', k of them
pub record Counts {V W : Type 0} (o : Ops V W) (m : List (List (Alternative V W))) (es : List (Entry V)) (k : ℕ) (es' : List (Entry V)) : Type 0 where
  pub ts : List (List (Option ℕ))
  pub rounds : Rounds o m (choices es) (values es) ts (choices es') (values es')
  pub counted : length ts ≡ k

-- rounds until settled or the budget b is used: k counted rounds, and whether it is settled then
pub record Ran {V W : Type 0} (o : Ops V W) (m : List (List (Alternative V W))) (b : ℕ) (es : List (Entry V)) (k : ℕ) (settled : Bool) (es' : List (Entry V)) : Type 0 where
  pub counts : Counts o m es k es'
  pub said : (settled ≡ true) ↔ Settled o m (values es')
  pub whole : settled ≡ false → k ≡ b
