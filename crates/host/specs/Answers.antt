-- What the entry point for C answers to a text, and what it leaves in the buffer.
use Rattle.std.specs.Prelude.{◌≡◌, ℕ, ℤ, pos, neg_ℤ, List, Ok, Err}
use Rattle.report.specs.Limits.{most_rounds}
use Rattle.base.specs.Reasons.{number_of}
use Rattle.base.specs.declared.Refusal.{Refusal}
use Rattle.script_graph.specs.Meaning.{meaning, ReadsAs}
use Rattle.script_graph.specs.declared.graph.Graph.{Graph}
use Rattle.report.specs.Reported.{Written, NotWritten}

-- the number of a refusal, negated
abbrev pub negated : Refusal → ℤ
negated e = neg_ℤ (pos (number_of e.reason))

-- the text is given; the buffer holds old before the call, and new after it
module _ (text old new : List ℕ) where
  -- the text is a script, and its report, n bytes, stands at the front of the buffer; what lies behind stays
  pub record Reported (n : ℕ) : Type 0 where
    pub graph : Graph
    pub reads : ReadsAs text (Ok graph)
    pub written : Written (meaning graph) most_rounds old new n

  -- there is none, and nothing in the buffer has changed: the text is refused, or it is a script and the report call of its graph turns back
  pub data NotReported (e : Refusal) : Type 0 where
    not_read : ReadsAs text (Err e) → new ≡ old → NotReported e
    not_written : (graph : Graph) → ReadsAs text (Ok graph) → NotWritten (meaning graph) most_rounds old new e → NotReported e

  -- the answer: how many bytes the report has, or the number of the refusal, negated
  pub data Answers : ℤ → Type 0 where
    reported : (n : ℕ) → Reported n → Answers (pos n)
    refused : (e : Refusal) → NotReported e → Answers (negated e)
