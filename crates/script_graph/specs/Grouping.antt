-- What every graph keeps: it is the graph of a script, and its edges are grouped by target.
use Rattle.std.specs.Prelude.{◌≡◌, ℕ, ◌<◌, List, map, length, vec_items, slice_index_or}
use Rattle.std.specs.Global.{Vec}
use Rattle.language_theory.specs.Graphs as graphs
use Rattle.language_theory.specs.Graphs.{incoming}
use Rattle.language_theory.specs.Names.{Verdict}
use Rattle.language_theory.specs.Names.Outcome.{drawn}
use Rattle.language_theory.specs.declared.Edge.{Edge}
use Rattle.language_theory.specs.declared.Lookup.{Lookup}
use Rattle.parser.specs.declared.Variable.{Variable}
use Rattle.parser.specs.declared.Table.{Table}
use Rattle.parser.specs.Models.{variable_of, table_of}

-- the graph that these parts mean
abbrev pub graph_of : List Variable → List Table → ℕ → List Edge → List Lookup → graphs.Graph
graph_of vs ts n es ls = record { variables = map variable_of vs; tables = map table_of ts; points = n; edges = es; lookups = ls }

-- it is the graph of some script
pub record OfScript (g : graphs.Graph) : Type 0 where
  pub script : List ℕ
  pub read : Verdict script (drawn g)

-- under the number of each point stand the edges to it
abbrev pub ByTarget : List Edge → List (Vec Edge) → Type 0
ByTarget es lists = (p : ℕ) (d : Vec Edge) → p < length lists → vec_items (slice_index_or lists p d) ≡ incoming p es
