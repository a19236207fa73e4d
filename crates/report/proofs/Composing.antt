-- Reading and report, one behind the other.
use Rattle.std.proofs.Common.{◌≡◌, ℕ, List, Ok, Err, Result, MatchResult, ◌∙◌, inr}
use Rattle.std.specs.Global.{Vec}
use Rattle.kinds.specs.Limits.{most_rounds}
use Rattle.base.specs.Reasons.{no_memory}
use Rattle.base.specs.declared.Refusal.{Refusal}
use Rattle.sessions.specs.Names.{Verdict}
use Rattle.sessions.specs.Names.Outcome.{drawn}
use Rattle.report.specs.Lines.{lines_text, texts}
use Rattle.report.specs.Reported.{Gathered}
use Rattle.report.specs.declared.lines.Field.{Field}
use Rattle.report.proofs.Reporting.{text_of}
use Rattle.script_graph.specs.Meaning.{meaning}
use Rattle.script_graph.specs.declared.graph.Graph.{Graph}
use Rattle.report.specs.Scripts.{ReportOf, NoReportOf}

pub reported : (bs : List ℕ) (g : Graph) (ls : List (Vec Field)) → Verdict bs (drawn (meaning g)) → Gathered (meaning g) most_rounds (texts ls) → (r : Result (Vec ℕ) Refusal) →
    MatchResult r (λ t. t.items ≡ lines_text ls) (λ e. e ≡ no_memory) → MatchResult r (λ t. ReportOf bs t.items) (λ e. NoReportOf bs e)
reported bs g ls v q (Ok t) e = record { graph = meaning g; read = v; report = q.report; reports = q.reports; is = e ∙ text_of q.report ls q.lines }
reported bs g ls v q (Err x) e = inr (meaning g, v, inr (inr e))
