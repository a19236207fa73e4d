-- What reading a text answers: by the verdict on it, or want of memory.
use Rattle.std.specs.Prelude.{◌≡◌, ℕ, List, Ok, Err, Result}
use Rattle.base.specs.Reasons.{number_of, no_memory}
use Rattle.base.specs.declared.Refusal.{Refusal}
use Rattle.language_theory.specs.Graphs as graphs
use Rattle.language_theory.specs.Graphs.{finished}
use Rattle.language_theory.specs.Names.{Verdict}
use Rattle.language_theory.specs.Names.Outcome.{refused, drawn}
use Rattle.parser.specs.Models.{vars_of, tabs_of, drawn_so}
use Rattle.parser.specs.declared.Outline.{Outline}

-- a refused text: by the verdict on it, or for want of memory
pub data RefusedAs (bs : List ℕ) (e : Refusal) : Type 0 where
  by_verdict : Verdict bs (refused (number_of e.reason) e.place) → RefusedAs bs e
  by_want : e ≡ no_memory → RefusedAs bs e

-- the graph of an outline
abbrev pub outlined : Outline → graphs.Graph
outlined o = finished (vars_of o.names) (tabs_of o.names) (drawn_so o.drawing)

-- Reading answers the outline of the graph that the verdict on the text gives, or turns back as it says.
abbrev pub Outlined : List ℕ → Result Outline Refusal → Type 0
Outlined bs (Ok o) = Verdict bs (drawn (outlined o))
Outlined bs (Err e) = RefusedAs bs e
