-- A point that is reached has a grade for each variable.
use Rattle.std.specs.Prelude.{◌≡◌, ℕ, ◌<◌, List, Some}
use Rattle.kinds.specs.Values.{bounds, grades}
use Rattle.kinds.specs.declared.bound.Bound.{Bound}
use Rattle.kinds.specs.declared.grade.Grade.{Grade}
use Rattle.kinds.specs.declared.grade.Grade.TheVariants.{Unreached}
use Rattle.books.specs.Books.{at}
use Rattle.language_theory.specs.Graphs.{Graph}
use Rattle.script_equations_theory.specs.Bounds.{variables_of, bound_book}
use Rattle.script_equations_theory.specs.Grades.{grade_at, grade_book}
use Rattle.soundness_theory.specs.Intervals.{interval}
use Rattle.report_theory.specs.Laws.{SettlesAfter}

-- no variable that has an interval at a point has the grade 0 there: y are values of the bounds, z those of the grades
abbrev pub HaveGrades : Graph → List Bound → List Grade → Type 0
HaveGrades g y z = (p v : ℕ) → p < g.points → v < variables_of g → (i : Bound × Bound) → interval g y p v ≡ Some i → at grades z (grade_at (variables_of g) p v) ≡ Unreached → ⊥

-- so it is at the settled values of both books
abbrev pub Graded : Graph → Type 0
Graded g = (k j : ℕ) (y : List Bound) (z : List Grade) → SettlesAfter bounds (bound_book g) k y → SettlesAfter grades (grade_book g) j z → HaveGrades g y z
