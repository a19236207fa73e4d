-- Where the values of a run come from, along the edges of the graph. Only the last definition, of what grades say of runs, speaks of equations.
use Rattle.std.specs.Prelude.{◌≡◌, ℕ, ◌<◌, true, List, length, replicate, ℤ, Contains, slice_index_or, slice_set}
use Rattle.kinds.specs.Values.{up_to, grades}
use Rattle.kinds.specs.declared.grade.Grade.{Grade}
use Rattle.kinds.specs.declared.grade.Grade.TheVariants as grade
use Rattle.books.specs.Books.{at, HoldsUp}
use Rattle.language_theory.specs.Graphs.{Graph, range}
use Rattle.language_theory.specs.declared.Action.{Action}
use Rattle.language_theory.specs.declared.Action.TheVariants.{Skip, Assign, Assume}
use Rattle.language_theory.specs.declared.Value.{Value}
use Rattle.language_theory.specs.declared.Value.TheVariants.{AnyOf, TableEntry, Sum, Negation}
use Rattle.language_theory.specs.declared.Edge.{Edge}
use Rattle.script_equations_theory.specs.Bounds.{variables_of}
use Rattle.script_equations_theory.specs.Grades.{source_grade, grade_at, grade_book}
use Rattle.soundness_theory.specs.Runs.{of, InRange, Acts, Run}
use Rattle.soundness_theory.specs.Runs.Run.{begins, goes}

-- the grade of the source of v's value, where s has those of all variables; the edges of a script name no other
abbrev pub from : List Grade → ℕ → Grade
from s v = slice_index_or s v grade.Unreached

-- the source of what a variable is set to: a value that is given has its own, what is made of i, and what is read of a table at i, has that of i
abbrev pub value_source : Value → List Grade → Grade
value_source (AnyOf r c) s = source_grade c
value_source (TableEntry i r) s = from s i
value_source (Sum i c) s = from s i
value_source (Negation i) s = from s i

-- the sources behind an edge with this action
abbrev pub traced : Action → List Grade → List Grade
traced Skip s = s
traced (Assign k v) s = slice_set s k (value_source v s)
traced (Assume g) s = s

-- a run comes to the point with the values, and s has the sources of the values: at the beginning all are written in the script
pub data Traced (g : Graph) : ℕ → List ℤ → List Grade → Type 0 where
  starts : {x : List ℤ} → length x ≡ length g.variables → ((v : ℕ) → v < length g.variables → InRange (range g v) (of x v)) → Traced g 0 x (replicate (length g.variables) grade.Written)
  follows : {x x' : List ℤ} {s : List Grade} (e : Edge) → Traced g e.source x s → Contains g.edges e → Acts e.action x x' → Traced g e.target x' (traced e.action s)

-- the run without the sources
abbrev pub run_of : {g : Graph} {p : ℕ} {x : List ℤ} {s : List Grade} → Traced g p x s → Run g p x
run_of (starts l w) = begins l w
run_of (follows e t i d) = goes e (run_of t) i d

-- what grades say of runs
pub record GradesTell (g : Graph) : Type 0 where
  -- every run has sources, beside the same steps
  pub every : (p : ℕ) (x : List ℤ) (r : Run g p x) → (s : List Grade) × (t : Traced g p x s) × (run_of t ≡ r)
  -- each value of a run has one
  pub each : (p : ℕ) (x : List ℤ) (s : List Grade) → Traced g p x s → (v : ℕ) → v < variables_of g → up_to grade.Written (from s v) ≡ true
  -- for all grades that hold up in the grade book, so for every solution, it is at most the grade of the variable at the point
  pub below : (z : List Grade) → HoldsUp grades (grade_book g) z → (p : ℕ) (x : List ℤ) (s : List Grade) → Traced g p x s → (v : ℕ) → v < variables_of g →
      up_to (from s v) (at grades z (grade_at (variables_of g) p v)) ≡ true
