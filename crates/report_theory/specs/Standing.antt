-- The laws of reports.
use Rattle.std.specs.Prelude.{ℕ, List}
use Rattle.kinds.specs.Values.{bounds, grades}
use Rattle.kinds.specs.declared.bound.Bound.{Bound}
use Rattle.language_theory.specs.Graphs.{Graph}
use Rattle.language_theory.specs.Names.{Verdict}
use Rattle.language_theory.specs.Names.Outcome.{drawn}
use Rattle.script_equations_theory.specs.Bounds.{bound_book}
use Rattle.script_equations_theory.specs.Grades.{grade_book}
use Rattle.soundness_theory.specs.Kept.{Sound, Paired, Listed}
use Rattle.soundness_theory.specs.Sources.{GradesTell}
use Rattle.report_theory.specs.Laws.{SettlesAfter, OneEnd, ReadBack}
use Rattle.report_theory.specs.Grading.{Graded}
use Rattle.report_theory.specs.Room.{HasRoom}

-- what holds of the report of a script with the graph g
pub record ReportStands (g : Graph) : Type 0 where
  -- rounds of the bounds come to one end, their least solution, and so do rounds of the grades
  pub bounds_end : OneEnd bounds (bound_book g)
  pub grades_end : OneEnd grades (grade_book g)
  -- at that end every run lies inside the intervals, each point is reached for all variables or for none, and the findings are those of the reads that may fall outside
  pub bounds_tell : (k : ℕ) (y : List Bound) → SettlesAfter bounds (bound_book g) k y → Sound g y × Paired g y × Listed g y
  -- no variable that has an interval has the grade 0, and a value of a run comes from no source above its grade
  pub graded : Graded g
  pub grades_tell : GradesTell g

-- what holds of the reports of all scripts
pub record ReportsStand : Type 0 where
  pub each : (bs : List ℕ) (g : Graph) → Verdict bs (drawn g) → ReportStands g
  -- a buffer of 65,536 bytes has room for each
  pub room : HasRoom
  -- the results can be read back from the text
  pub read_back : ReadBack
