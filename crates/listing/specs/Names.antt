-- The names that are shown for variables and tables, which a graph has by their numbers.
use Rattle.std.specs.Prelude.{ℕ, List, map, vec_items, codes, slice_index_or}
use Rattle.parser.specs.declared.Variable.{Variable}
use Rattle.parser.specs.declared.Table.{Table}

-- the name of that number, or ? where there is none
abbrev pub named : List (List ℕ) → ℕ → List ℕ
named names n = slice_index_or names n (codes "?")

abbrev pub variable_names : List Variable → List (List ℕ)
variable_names vs = map (λ v. vec_items v.name) vs
