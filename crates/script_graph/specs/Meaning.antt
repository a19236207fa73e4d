-- What a graph means, and what reading a text answers.
use Rattle.std.specs.Prelude.{ℕ, List, Ok, Err, vec_items, Result}
use Rattle.base.specs.declared.Refusal.{Refusal}
use Rattle.language_theory.specs.Graphs as graphs
use Rattle.language_theory.specs.Names.{Verdict}
use Rattle.language_theory.specs.Names.Outcome.{drawn}
use Rattle.parser.specs.Outlines.{RefusedAs}
use Rattle.script_graph.specs.Grouping.{graph_of}
use Rattle.script_graph.specs.declared.graph.Graph.{Graph}

abbrev pub meaning : Graph → graphs.Graph
meaning g = graph_of (vec_items g.variables) (vec_items g.tables) g.points (vec_items g.edges) (vec_items g.lookups)

-- Reading answers the graph that the verdict on the text gives, or turns back as it says.
abbrev pub ReadsAs : List ℕ → Result Graph Refusal → Type 0
ReadsAs bs (Ok g) = Verdict bs (drawn (meaning g))
ReadsAs bs (Err e) = RefusedAs bs e
