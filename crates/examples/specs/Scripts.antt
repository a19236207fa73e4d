-- Scripts with their graphs, and where their bounds rest. Three more stand in `Examples` of the language.
use Rattle.std.specs.Prelude.{ℕ, List, [], ◌∷◌, ◌++◌, pos, negsuc, neg_ℤ, Some, Option, codes}
use Rattle.kinds.specs.declared.bound.Bound.{Bound}
use Rattle.kinds.specs.declared.bound.Bound.TheVariants.{Whole}
use Rattle.language_theory.specs.Graphs.{Graph, only}
use Rattle.language_theory.specs.declared.Range.{Range}
use Rattle.language_theory.specs.declared.Source.TheVariants.{Written, Heard}
use Rattle.language_theory.specs.declared.Action.TheVariants.{Skip, Assign, Assume}
use Rattle.language_theory.specs.declared.Guard.TheVariants.{Difference}
use Rattle.language_theory.specs.declared.Value.TheVariants.{AnyOf, Sum}
use Rattle.language_theory.specs.Examples.{at, range, edge}

-- a loop that counts up to a variable
abbrev pub counting_to_n : List ℕ
counting_to_n = codes "var i = 0..0; var n = 3..7; while i < n { i := i + 1; }"

-- its graph: point 1 is the head, 2 the start of the block, 3 its end, 4 the exit
abbrev pub counting_to_n_graph : Graph
counting_to_n_graph = record {
  variables = record { name = codes "i"; range = range 0 0 } ∷ record { name = codes "n"; range = range 3 7 } ∷ [];
  tables = [];
  points = 5;
  edges =
      edge 0 1 Skip (at 1 29) ∷
      edge 1 2 (Assume (Difference 0 1 (negsuc 0))) (at 1 29) ∷
      edge 2 3 (Assign 0 (Sum 0 (pos 1))) (at 1 43) ∷
      edge 3 1 Skip (at 1 29) ∷
      edge 1 4 (Assume (Difference 1 0 (pos 0))) (at 1 29) ∷ [];
  lookups = [];
}

-- a constant, and a value that is heard
abbrev pub hearing : List ℕ
hearing = codes "var i = 0..0;\ni := 5;\ni := hear -2..2;\n"

-- the whole numbers from -2 to 2
abbrev pub around_zero : Range
around_zero = record { low = negsuc 1; high = pos 2 }

-- the graph of `hearing`
abbrev pub hearing_graph : Graph
hearing_graph = record {
  variables = record { name = codes "i"; range = range 0 0 } ∷ [];
  tables = [];
  points = 3;
  edges = edge 0 1 (Assign 0 (AnyOf (only (pos 5)) Written)) (at 2 1) ∷ edge 1 2 (Assign 0 (AnyOf around_zero Heard)) (at 3 1) ∷ [];
  lookups = [];
}

-- the bounds of a variable that lies in a..b: the upper one, and the lower one negated
abbrev pub within : ℕ → ℕ → List Bound
within a b = Whole (pos b) ∷ Whole (neg_ℤ (pos a)) ∷ []

-- the interval a..b
abbrev pub from_to : ℕ → ℕ → Option (Bound × Bound)
from_to a b = Some (Whole (pos a), Whole (pos b))

-- where the bounds of i rest in `counting`, by point
abbrev pub counting_rest : List Bound
counting_rest = within 0 0 ++ within 0 10 ++ within 0 9 ++ within 1 10 ++ within 10 10

-- where those of i and n rest in `counting_to_n`, by point: n stays as it is
abbrev pub counting_to_n_rest : List Bound
counting_to_n_rest =
    within 0 0 ++ within 3 7 ++
    within 0 7 ++ within 3 7 ++
    within 0 6 ++ within 3 7 ++
    within 1 7 ++ within 3 7 ++
    within 3 7 ++ within 3 7

-- where those of i rest in `looking_up`, by point
abbrev pub looking_up_rest : List Bound
looking_up_rest = within 0 4 ++ within 0 4 ++ within 0 3 ++ within 0 4
