-- What the settled values of a script's equations say, as sessions have to answer it.
use Rattle.std.specs.Prelude.{◌≡◌, ℕ, ◌*◌, ◌/◌, ◌%◌, List, length, map, Some, None, Option}
use Rattle.std.specs.List.{range_with_len}
use Rattle.kinds.specs.Values.{bounds, grades}
use Rattle.kinds.specs.declared.bound.Bound.{Bound}
use Rattle.kinds.specs.declared.grade.Grade.{Grade}
use Rattle.books.specs.Books.{at}
use Rattle.language_theory.specs.Graphs.{Graph as Script}
use Rattle.script_graph.specs.Meaning.{meaning}
use Rattle.script_graph.specs.declared.graph.Graph.{Graph}
use Rattle.sessions.specs.Bounds.{variables_of, bound_book}
use Rattle.sessions.specs.Grades.{grade_at, grade_book}
use Rattle.soundness_theory.specs.Intervals.{interval}
use Rattle.soundness_theory.specs.Findings.{findings}
use Rattle.soundness_theory.specs.declared.Finding.{Finding}
use Rattle.report.specs.Laws.{SettlesAfter}
use Rattle.reference.specs.declared.extended.Extended.TheVariants.{NegInf, PosInf}
use Rattle.reference.specs.Readings.{bound_reading, grade_reading}
use Rattle.reference.specs.declared.interval.Interval.{Interval}
use Rattle.reference.specs.declared.results.AbstractValue.{AbstractValue}
use Rattle.reference.specs.declared.results.IndexFinding.{IndexFinding}
use Rattle.script_trials.specs.declared.session_results.SessionResults.{SessionResults}

-- the ends of an interval; where there are none it is empty
abbrev pub interval_of : Option (Bound × Bound) → Interval
interval_of None = record { low = PosInf; high = NegInf }
interval_of (Some i) = record { low = bound_reading i.0; high = bound_reading i.1 }

abbrev pub index_finding : Finding → IndexFinding
index_finding f = record { point = f.point; place = f.place; variable = f.variable; interval = interval_of (Some (f.lowest, f.highest)); size = f.size }

-- how many variables a graph has, and how many pairs of a point and a variable
abbrev pub width_of : Graph → ℕ
width_of g = length g.variables.items

abbrev pub pairs_of : Graph → ℕ
pairs_of g = g.points * width_of g

-- the interval and the grade of the nth pair, of w variables at each point, at the values y of the graph g and z of h
abbrev pub value_numbered : Script → List Bound → Script → List Grade → ℕ → ℕ → AbstractValue
value_numbered g y h z w n = record { interval = interval_of (interval g y (n / w) (n % w)); grade = grade_reading (at grades z (grade_at (variables_of h) (n / w) (n % w))) }

-- the rounds, values and findings are those of the settled values of both books
pub record AnswersOf (g : Graph) (r : SessionResults) : Type 0 where
  pub y : List Bound
  pub z : List Grade
  pub grade_rounds : ℕ
  pub bounds_settle : SettlesAfter bounds (bound_book (meaning g)) r.rounds y
  pub grades_settle : SettlesAfter grades (grade_book (meaning g)) grade_rounds z
  pub variables : r.results.variables ≡ width_of g
  pub known : r.results.values.items ≡ map (value_numbered (meaning g) y (meaning g) z (width_of g)) (range_with_len 0 (pairs_of g))
  pub found : r.results.findings.items ≡ map index_finding (findings (meaning g) y)
