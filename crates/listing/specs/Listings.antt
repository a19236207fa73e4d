-- The listing of a graph: how many points and edges it has, and a line for each edge in the order made.
use Rattle.std.specs.Prelude.{ℕ, List, ◌++◌, length, vec_items, codes, decimal}
use Rattle.std.specs.List.{flat_map}
use Rattle.language_theory.specs.declared.Edge.{Edge}
use Rattle.script_graph.specs.declared.graph.Graph.{Graph}
use Rattle.listing.specs.Edges.{edge_line}
use Rattle.listing.specs.Names.{variable_names}

abbrev pub summary_text : Graph → List ℕ
summary_text g = codes "points " ++ (decimal g.points ++ (codes " edges " ++ decimal (length (vec_items g.edges))))

-- the lines of edges, with a line break before each
abbrev pub edge_lines : List (List ℕ) → List Edge → List ℕ
edge_lines names es = flat_map (λ e. codes "\n" ++ edge_line names e) es

abbrev pub listing_text : Graph → List ℕ
listing_text g = summary_text g ++ edge_lines (variable_names (vec_items g.variables)) (vec_items g.edges)
