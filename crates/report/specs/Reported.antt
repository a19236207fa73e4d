-- What the report call answers and leaves.
use Rattle.std.specs.Prelude.{◌≡◌, ℕ, ◌<◌, ◌≤◌, ◌⊎◌, List, ◌++◌, length, drop}
use Rattle.kinds.specs.Values.{bounds, grades}
use Rattle.kinds.specs.declared.bound.Bound.{Bound}
use Rattle.kinds.specs.declared.grade.Grade.{Grade}
use Rattle.base.specs.Reasons.{nowhere, no_memory}
use Rattle.base.specs.declared.Refusal.{Refusal}
use Rattle.base.specs.declared.Reason.TheVariants.{BufferTooShort}
use Rattle.sessions.specs.Graphs.{Graph}
use Rattle.sessions.specs.Bounds.{bound_book}
use Rattle.sessions.specs.Grades.{grade_book}
use Rattle.report_theory.specs.Texts.{Report, lines, report_text}
use Rattle.report_theory.specs.Reports.{report_of}
use Rattle.report.specs.Settles.{SettlesWithin, NoEnd}

module _ (g : Graph) (budget : ℕ) where
  -- both analyses settle within an allowed budget, and this is the report of what they settle at
  pub record Reports (r : Report) : Type 0 where
    pub rounds : ℕ
    pub values : List Bound
    pub bounds_settle : SettlesWithin bounds (bound_book g) budget rounds values
    pub grade_rounds : ℕ
    pub grade_values : List Grade
    pub grades_settle : SettlesWithin grades (grade_book g) budget grade_rounds grade_values
    pub is : r ≡ report_of g values grade_values rounds

  -- these are the lines of that report
  pub record Gathered (ls : List (List (List ℕ))) : Type 0 where
    pub report : Report
    pub reports : Reports report
    pub lines : ls ≡ lines report

  -- why there is none: one of the analyses does not settle, or the budget is too large for it; or want of memory
  abbrev pub NoReport : Refusal → Type 0
  NoReport e = NoEnd bounds (bound_book g) budget e ⊎ NoEnd grades (grade_book g) budget e ⊎ (e ≡ no_memory)

  -- the text of the report, n bytes, stands at the front of the buffer; what lies behind stays
  pub record Written (old new : List ℕ) (n : ℕ) : Type 0 where
    pub report : Report
    pub reports : Reports report
    pub count : n ≡ length (report_text report)
    pub room : n ≤ length old
    pub text : new ≡ report_text report ++ drop n old

  -- it does not: there is no report, or 40, it is longer than the buffer; and nothing in the buffer has changed
  pub record NotWritten (old new : List ℕ) (e : Refusal) : Type 0 where
    pub why : NoReport e ⊎ ((r : Report) × Reports r × (length old < length (report_text r)) × (e ≡ nowhere BufferTooShort))
    pub same : new ≡ old
