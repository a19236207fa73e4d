use Rattle.std.proofs.Common.{rules, ◌∙◌, w64}
use Rattle.std.proofs.lemmas.Int.{to_z-of_z}
use Rattle.host.proofs.Reporting.{refusal_told}
use Rattle.host.proofs.fence_report.Goals as goal

pub returns-in-Err-clause-answer : goal.returns-in-Err-clause-answer
returns-in-Err-clause-answer c = refusal_told _ _ _ c.in-Err.refusal _ (to_z-of_z w64 c.negated.result (search rules) ∙ c.negated.ensures) c.in-Err.ensures.answer
