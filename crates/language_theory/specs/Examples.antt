-- Examples: three scripts with their graphs, and a refused text for each number with its place.
use Rattle.std.specs.Prelude.{ℕ, List, [], ◌∷◌, pos, negsuc, Some, codes}
use Rattle.language_theory.specs.Graphs.{Graph}
use Rattle.language_theory.specs.Names.{Verdict}
use Rattle.language_theory.specs.Names.Outcome.{refused, drawn}
use Rattle.base.specs.declared.Place.{Place}
use Rattle.language_theory.specs.declared.Range.{Range}
use Rattle.language_theory.specs.declared.Action.{Action}
use Rattle.language_theory.specs.declared.Action.TheVariants.{Skip, Assign, Assume}
use Rattle.language_theory.specs.declared.Guard.TheVariants.{AtMost, AtLeast, Difference}
use Rattle.language_theory.specs.declared.Value.TheVariants.{AnyOf, TableEntry, Sum, Negation}
use Rattle.language_theory.specs.declared.Source.TheVariants.{Sensed}
use Rattle.language_theory.specs.declared.Edge.{Edge}

abbrev pub at : ℕ → ℕ → Place
at l c = record { line = l; column = c }

abbrev pub range : ℕ → ℕ → Range
range a b = record { low = pos a; high = pos b }

abbrev pub edge : ℕ → ℕ → Action → Place → Edge
edge s t a p = record { source = s; target = t; action = a; place = p }

abbrev pub counting : List ℕ
counting = codes "var i = 0..0; while i < 10 { i := i + 1; }"

-- point 1 is the head, 2 the start of the block, 3 its end, 4 the exit
abbrev pub counting_graph : Graph
counting_graph = record {
  variables = record { name = codes "i"; range = range 0 0 } ∷ [];
  tables = [];
  points = 5;
  edges =
      edge 0 1 Skip (at 1 15) ∷
      edge 1 2 (Assume (AtMost 0 (pos 9))) (at 1 15) ∷
      edge 2 3 (Assign 0 (Sum 0 (pos 1))) (at 1 30) ∷
      edge 3 1 Skip (at 1 15) ∷
      edge 1 4 (Assume (AtLeast 0 (pos 10))) (at 1 15) ∷ [];
  lookups = [];
}

abbrev pub looking_up : List ℕ
looking_up = codes "var i = 0..4;\ntable cal[4] = 0..4;\ni := cal[i];\n"

abbrev pub looking_up_graph : Graph
looking_up_graph = record {
  variables = record { name = codes "i"; range = range 0 4 } ∷ [];
  tables = record { name = codes "cal"; size = 4; range = range 0 4 } ∷ [];
  points = 4;
  edges =
      edge 0 1 (Assume (AtLeast 0 (pos 0))) (at 3 1) ∷
      edge 1 2 (Assume (AtMost 0 (pos 3))) (at 3 1) ∷
      edge 2 3 (Assign 0 (TableEntry 0 (range 0 4))) (at 3 1) ∷ [];
  lookups = record { point = 0; index = 0; table = 0; place = at 3 10 } ∷ [];
}

abbrev pub choosing : List ℕ
choosing = codes "var i = 0..9;\nvar n = 3..7;\nif i >= n { i := sense 0..5; } else { i := -n; }\ni := i - 2;\n"

-- point 1 is the start of the first block, 2 its end, 3 and 4 those of the second, 5 the join
abbrev pub choosing_graph : Graph
choosing_graph = record {
  variables = record { name = codes "i"; range = range 0 9 } ∷ record { name = codes "n"; range = range 3 7 } ∷ [];
  tables = [];
  points = 7;
  edges =
      edge 0 1 (Assume (Difference 1 0 (pos 0))) (at 3 1) ∷
      edge 1 2 (Assign 0 (AnyOf (range 0 5) Sensed)) (at 3 13) ∷
      edge 0 3 (Assume (Difference 0 1 (negsuc 0))) (at 3 1) ∷
      edge 3 4 (Assign 0 (Negation 1)) (at 3 39) ∷
      edge 2 5 Skip (at 3 1) ∷
      edge 4 5 Skip (at 3 1) ∷
      edge 5 6 (Assign 0 (Sum 0 (negsuc 1))) (at 4 1) ∷ [];
  lookups = [];
}

abbrev pub Refuses : List ℕ → ℕ → Place → Type 0
Refuses bs n p = Verdict bs (refused n (Some p))

pub record Examples : Type 0 where
  pub counts : Verdict counting (drawn counting_graph)
  pub looks_up : Verdict looking_up (drawn looking_up_graph)
  pub chooses : Verdict choosing (drawn choosing_graph)
  pub no_word : Refuses (codes "var i = 0..3;\ni := i $ 1;") 2 (at 2 8)
  pub large_number : Refuses (codes "var i = 0..2147483648;") 3 (at 1 12)
  pub long_name : Refuses (codes "var i = 0..1;\nabcdefghijklmnopq := 1;") 4 (at 2 1)
  pub unfit_word : Refuses (codes "var i = 0..3;\ni = 3;") 5 (at 2 3)
  pub early_end : Refuses (codes "var i = 0..3;\nif i < 1 {\n  i := 2;") 5 (at 3 10)
  pub end_after_line : Refuses (codes "var i = 0..3\n") 5 (at 2 1)
  pub ninth_level : Refuses (codes "var i = 0..3;\nwhile i<1{while i<1{while i<1{while i<1{while i<1{while i<1{while i<1{while i<1{\nwhile i<1{") 6 (at 3 10)
  pub declared_before : Refuses (codes "var i = 0..3;\ntable i[4] = 0..1;") 7 (at 2 7)
  pub undeclared : Refuses (codes "var i = 0..3;\ni := cal[i];") 8 (at 2 6)
  pub wrong_sort : Refuses (codes "table t[2] = 0..1;\nvar i = 0..3;\ni := t $") 8 (at 3 6)
  pub falling_range : Refuses (codes "var i = 3..-5;") 9 (at 1 13)
  pub size_zero : Refuses (codes "table t[0] = 0..1;") 10 (at 1 9)
  pub large_size : Refuses (codes "table t[65537] = 0..1;") 10 (at 1 9)
  pub name_twice : Refuses (codes "var i = 0..3;\nif i < i { }") 11 (at 2 8)
  pub ninth_variable : Refuses (codes "var a=0..0;var b=0..0;var c=0..0;var d=0..0;var e=0..0;var f=0..0;var g=0..0;var h=0..0;\nvar i=0..0;") 12 (at 2 5)
