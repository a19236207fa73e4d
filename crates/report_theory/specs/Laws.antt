-- When the analyses of a script settle, and what can be read back from the text of a report.
use Rattle.std.specs.Prelude.{◌≡◌, ℕ, ◌<◌, ◌≤◌, List, map, length, Some, Option}
use Rattle.kinds.specs.Kinds.{Ops}
use Rattle.kinds.specs.Limits.{most_rounds}
use Rattle.kinds.specs.Values.{bounds}
use Rattle.kinds.specs.declared.bound.Bound.{Bound}
use Rattle.kinds.specs.declared.grade.Grade.{Grade}
use Rattle.books.specs.declared.Alternative.{Alternative}
use Rattle.strategy_theory.specs.Solving.{Settled, Rounds}
use Rattle.strategy_theory.specs.Theory.{none_chosen, all_least}
use Rattle.strategy_theory.specs.Promises.{Least}
use Rattle.language_theory.specs.Graphs.{Graph}
use Rattle.script_equations_theory.specs.Bounds.{variables_of, bound_book}
use Rattle.soundness_theory.specs.Intervals.{interval}
use Rattle.soundness_theory.specs.Findings.{findings}
use Rattle.language_theory.specs.Names.{Verdict}
use Rattle.language_theory.specs.Names.Outcome.{drawn}
use Rattle.report_theory.specs.Texts.{report_text}
use Rattle.report_theory.specs.Reports.{name_of, grade_there, found_at, report_of}

module _ {V W : Type 0} (o : Ops V W) (m : List (List (Alternative V W))) where
  -- from none chosen, k counted rounds come to the values x
  pub record ComesAfter (k : ℕ) (x : List V) : Type 0 where
    pub past : List (List (Option ℕ))
    pub strategy : List (Option ℕ)
    pub rounds : Rounds o m (none_chosen (length m)) (all_least o (length m)) past strategy x
    pub number : length past ≡ k

  -- k counted rounds come to the settled values x
  pub record SettlesAfter (k : ℕ) (x : List V) : Type 0 where
    pub reaches : ComesAfter k x
    pub settled : Settled o m x

  -- k counted rounds come to values that are not settled
  pub record MovesAfter (k : ℕ) : Type 0 where
    pub x : List V
    pub reaches : ComesAfter k x
    pub unsettled : Settled o m x → ⊥

  -- rounds come to one end: it is settled after one number of rounds, and never before, with one list of values, the least solution
  pub record OneEnd : Type 0 where
    pub one : (k j : ℕ) (x y : List V) → SettlesAfter k x → SettlesAfter j y → (k ≡ j) × (x ≡ y)
    pub apart : (k j : ℕ) (x : List V) → SettlesAfter k x → MovesAfter j → j < k
    pub least : (k : ℕ) (x : List V) → SettlesAfter k x → Least o m x

-- two scripts have the same results: k rounds of the bounds, their settled values y, intervals, names, grades and findings; z are the settled values of the grades
pub record SameResults (g : Graph) (y : List Bound) (z : List Grade) (k : ℕ) (g' : Graph) (y' : List Bound) (z' : List Grade) (k' : ℕ) : Type 0 where
  pub points : g.points ≡ g'.points
  pub rounds : k ≡ k'
  pub variables : variables_of g ≡ variables_of g'
  pub names : (v : ℕ) → v < variables_of g → name_of g v ≡ name_of g' v
  pub values : y ≡ y'
  pub intervals : (p v : ℕ) → p < g.points → v < variables_of g → interval g y p v ≡ interval g' y' p v
  -- where there is an interval, the grade
  pub graded : (p v : ℕ) → p < g.points → v < variables_of g → (i : Bound × Bound) → interval g y p v ≡ Some i → grade_there g y z p v ≡ grade_there g' y' z' p v
  pub found : map (found_at g y z) (findings g y) ≡ map (found_at g' y' z') (findings g' y')

-- the text is a script with the graph g, whose bounds settle at the values y after k rounds, no more than a run may make
pub record ScriptSettles (bs : List ℕ) (g : Graph) (k : ℕ) (y : List Bound) : Type 0 where
  pub script : Verdict bs (drawn g)
  pub settles : SettlesAfter bounds (bound_book g) k y
  pub within : k ≤ most_rounds

-- scripts whose reports have the same text have the same results, whatever grades the reports are made with
abbrev pub ReadBack : Type 0
ReadBack = (bs bs' : List ℕ) (g g' : Graph) (k k' : ℕ) (y y' : List Bound) (z z' : List Grade) → ScriptSettles bs g k y → ScriptSettles bs' g' k' y' →
    report_text (report_of g y z k) ≡ report_text (report_of g' y' z' k') → SameResults g y z k g' y' z' k'
