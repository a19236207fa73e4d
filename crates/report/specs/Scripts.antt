-- What comes of a script's bytes: reading, and then the report with the largest budget.
use Rattle.std.specs.Prelude.{◌≡◌, ℕ, ◌⊎◌, List}
use Rattle.kinds.specs.Limits.{most_rounds}
use Rattle.base.specs.declared.Refusal.{Refusal}
use Rattle.sessions.specs.Graphs.{Graph}
use Rattle.sessions.specs.Names.{Verdict}
use Rattle.sessions.specs.Names.Outcome.{drawn}
use Rattle.parser.specs.Outlines.{RefusedAs}
use Rattle.report_theory.specs.Texts.{Report, report_text}
use Rattle.report.specs.Reported.{Reports, NoReport}

-- the bytes are a script, and this is the text of its report
pub record ReportOf (bs text : List ℕ) : Type 0 where
  pub graph : Graph
  pub read : Verdict bs (drawn graph)
  pub report : Report
  pub reports : Reports graph most_rounds report
  pub is : text ≡ report_text report

-- they are none, or a script that has no report
abbrev pub NoReportOf : List ℕ → Refusal → Type 0
NoReportOf bs e = RefusedAs bs e ⊎ ((g : Graph) × Verdict bs (drawn g) × NoReport g most_rounds e)
