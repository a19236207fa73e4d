-- What is said of the text of a script, by what was said of its graph.
use Rattle.std.proofs.Common.{◌≡◌, sym, subst, ℕ, ℤ, pos, List, Ok, Err, Result, MatchResult}
use Rattle.report.specs.Limits.{most_rounds}
use Rattle.base.specs.declared.Refusal.{Refusal}
use Rattle.script_graph.specs.Meaning.{meaning, ReadsAs}
use Rattle.script_graph.specs.declared.graph.Graph.{Graph}
use Rattle.report.specs.Reported.{Written, NotWritten}
use Rattle.host.specs.Answers.{negated, Reported, NotReported, Answers}
use Rattle.host.specs.Answers.NotReported.{not_written}
use Rattle.host.specs.Answers.Answers.{reported, refused}

module _ (text old new : List ℕ) where
  -- what the report call answers
  pub told : (g : Graph) (r : Result ℕ Refusal) → ReadsAs text (Ok g) →
      MatchResult r (λ n. Written (meaning g) most_rounds old new n) (λ e. NotWritten (meaning g) most_rounds old new e) →
      MatchResult r (λ n. Reported text old new n) (λ e. NotReported text old new e)
  told g (Ok n) reads written = record { graph = g; reads = reads; written = written }
  told g (Err e) reads not = not_written g reads not

  -- a number that is answered
  pub length_told : (n : ℕ) (z : ℤ) → z ≡ pos n → Reported text old new n → Answers text old new z
  length_told n z is r = subst (Answers text old new) (sym is) (reported n r)

  pub refusal_told : (e : Refusal) (z : ℤ) → z ≡ negated e → NotReported text old new e → Answers text old new z
  refusal_told e z is r = subst (Answers text old new) (sym is) (refused e r)
