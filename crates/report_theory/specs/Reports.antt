-- The report of a script.
use Rattle.std.specs.Prelude.{ℕ, List, map, Some, None, Option, flat_map, slice_index_or}
use Rattle.std.specs.List.{range_with_len}
use Rattle.kinds.specs.Values.{grades}
use Rattle.kinds.specs.declared.bound.Bound.{Bound}
use Rattle.kinds.specs.declared.grade.Grade.{Grade}
use Rattle.books.specs.Books.{at}
use Rattle.language_theory.specs.Graphs.{Graph}
use Rattle.language_theory.specs.Graphs.{no_variable}
use Rattle.script_equations_theory.specs.Bounds.{variables_of}
use Rattle.script_equations_theory.specs.Grades.{grade_at}
use Rattle.soundness_theory.specs.Intervals.{interval}
use Rattle.soundness_theory.specs.Findings.{findings}
use Rattle.soundness_theory.specs.declared.Finding.{Finding}
use Rattle.report_theory.specs.Texts.{Reach, Row, Found, Report}

-- what is known of a variable, by its interval and its grade
abbrev pub known : Option (Bound × Bound) → Grade → Option Reach
known None r = None
known (Some i) r = Some (record { lowest = i.0; highest = i.1; grade = r })

-- a row, by the point, the name, the interval and the grade
abbrev pub row : ℕ → List ℕ → Option (Bound × Bound) → Grade → Row
row p n i r = record { point = p; name = n; reach = known i r }

-- what is told of a finding, with the name and the grade of its index
abbrev pub found : Finding → List ℕ → Grade → Found
found f n r = record { line = f.place.line; column = f.place.column; name = n; reach = record { lowest = f.lowest; highest = f.highest; grade = r }; size = f.size }

-- g is the graph, y are the settled values of its bounds, z those of its grades
module _ (g : Graph) where
  -- the name of a variable; no row and no finding is of one that is not there
  abbrev pub name_of : ℕ → List ℕ
  name_of v = (slice_index_or g.variables v no_variable).name

module _ (g : Graph) (y : List Bound) (z : List Grade) where
  -- the grade of the variable v at the point p
  abbrev pub grade_there : ℕ → ℕ → Grade
  grade_there p v = at grades z (grade_at (variables_of g) p v)

  -- its row
  abbrev pub row_of : ℕ → ℕ → Row
  row_of p v = row p (name_of g v) (interval g y p v) (grade_there p v)

  -- the rows of a point, in the order of the variables
  abbrev pub rows_at : ℕ → List Row
  rows_at p = map (row_of p) (range_with_len 0 (variables_of g))

  -- what is found, with the grade of the index
  abbrev pub found_at : Finding → Found
  found_at f = found f (name_of g f.variable) (grade_there f.point f.variable)

  -- the report after so many rounds of the bounds
  abbrev pub report_of : ℕ → Report
  report_of rounds = record { points = g.points; rounds = rounds; rows = flat_map rows_at (range_with_len 0 g.points); found = map found_at (findings g y) }
