-- The grade book of a graph: where the value of each variable comes from at each point, edge by edge. A variable at a point has one unknown.
use Rattle.std.specs.Prelude.{ℕ, ◌+◌, ◌*◌, ◌/◌, ◌%◌, cond, List, [], ◌∷◌, map, ◌==◌}
use Rattle.std.specs.List.{range_with_len}
use Rattle.kinds.specs.declared.grade.Grade.{Grade}
use Rattle.kinds.specs.declared.grade.Grade.TheVariants as grade
use Rattle.kinds.specs.declared.grade.NoWeight.{NoWeight}
use Rattle.kinds.specs.declared.grade.NoWeight.TheVariants.{Zero}
use Rattle.books.specs.Forms.{constant, shifted}
use Rattle.books.specs.declared.Term.TheVariants.{Constant}
use Rattle.books.specs.declared.Test.TheVariants.{Single}
use Rattle.books.specs.declared.Terms.TheVariants.{One}
use Rattle.books.specs.declared.Alternative.{Alternative}
use Rattle.language_theory.specs.Graphs.{Graph, incoming}
use Rattle.language_theory.specs.declared.Source.{Source}
use Rattle.language_theory.specs.declared.Source.TheVariants as source
use Rattle.language_theory.specs.declared.Action.{Action}
use Rattle.language_theory.specs.declared.Action.TheVariants.{Skip, Assign, Assume}
use Rattle.language_theory.specs.declared.Value.{Value}
use Rattle.language_theory.specs.declared.Value.TheVariants.{AnyOf, TableEntry, Sum, Negation}
use Rattle.language_theory.specs.declared.Edge.{Edge}
use Rattle.script_equations_theory.specs.Bounds.{variables_of}

-- the unknown of the variable v at the point p, of n variables
abbrev pub grade_at : ℕ → ℕ → ℕ → ℕ
grade_at n p v = n * p + v

-- the alternative that is always this unknown
abbrev pub grade_copied : ℕ → Alternative Grade NoWeight
grade_copied u = shifted u Zero

-- the grade of a source
abbrev pub source_grade : Source → Grade
source_grade source.Written = grade.Written
source_grade source.Sensed = grade.Sensed
source_grade source.Heard = grade.Heard

-- the alternative of k for k := x from p: a value that is given has the grade of its source, where p is reached; what is made of i, and what is read of a table at i, has the grade of i
abbrev pub grade_assigned : ℕ → ℕ → ℕ → Value → Alternative Grade NoWeight
grade_assigned n p k (AnyOf r s) = record { test = Single (grade_at n p k) grade.Written; terms = One (Constant (source_grade s)) }
grade_assigned n p k (TableEntry i r) = grade_copied (grade_at n p i)
grade_assigned n p k (Sum i c) = grade_copied (grade_at n p i)
grade_assigned n p k (Negation i) = grade_copied (grade_at n p i)

-- the alternative of v for an edge from p
abbrev pub grade_of : ℕ → ℕ → ℕ → Action → Alternative Grade NoWeight
grade_of n p v Skip = grade_copied (grade_at n p v)
grade_of n p v (Assign k x) = cond (v == k) (grade_assigned n p k x) (grade_copied (grade_at n p v))
grade_of n p v (Assume g) = grade_copied (grade_at n p v)

module _ (g : Graph) where
  -- the alternatives of v at p, in the order of the edges to p: at point 0 every value is written in the script
  abbrev pub grades_at : ℕ → ℕ → List (Alternative Grade NoWeight)
  grades_at p v = cond (p == 0) (constant grade.Written ∷ []) (map (λ (e : Edge). grade_of (variables_of g) e.source v e.action) (incoming p g.edges))

  -- the alternatives of an unknown
  abbrev pub grade_unknown : ℕ → List (Alternative Grade NoWeight)
  grade_unknown u = grades_at (u / variables_of g) (u % variables_of g)

  -- the book
  abbrev pub grade_book : List (List (Alternative Grade NoWeight))
  grade_book = map grade_unknown (range_with_len 0 (variables_of g * g.points))
