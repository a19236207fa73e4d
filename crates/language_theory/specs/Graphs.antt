-- The graph of a script: points, numbered as made, and edges, in the order made.
use Rattle.std.specs.Prelude.{◌≡◌, ℕ, suc, ◌≤◌, true, cond, List, [], ◌∷◌, ◌++◌, filter, ℤ, pos, negsuc, ◌+ℤ◌, ◌-ℤ◌, Some, None, Option, ◌==◌, slice_index_or}
use Rattle.lexer.specs.Words.{among, same}
use Rattle.language_theory.specs.Grammar.{Declaration, Side, Order, Operand, Condition, Statements, Tree}
use Rattle.language_theory.specs.Grammar.Declaration.{variable, table}
use Rattle.language_theory.specs.Grammar.Side.{constant, shifted, negated, any, reading}
use Rattle.language_theory.specs.Grammar.Order.{below, at_most, above, at_least}
use Rattle.language_theory.specs.Grammar.Operand.{against, limit}
use Rattle.language_theory.specs.Grammar.Condition.{compares}
use Rattle.language_theory.specs.Grammar.Statements.{done, assign, choose, repeat}
use Rattle.base.specs.declared.Place.{Place}
use Rattle.language_theory.specs.declared.Range.{Range}
use Rattle.language_theory.specs.declared.Source.TheVariants.{Written}
use Rattle.language_theory.specs.declared.Action.{Action}
use Rattle.language_theory.specs.declared.Action.TheVariants.{Skip, Assign, Assume}
use Rattle.language_theory.specs.declared.Guard.{Guard}
use Rattle.language_theory.specs.declared.Guard.TheVariants.{AtMost, AtLeast, Difference}
use Rattle.language_theory.specs.declared.Value.TheVariants.{AnyOf, TableEntry, Sum, Negation}
use Rattle.language_theory.specs.declared.Edge.{Edge}
use Rattle.language_theory.specs.declared.Lookup.{Lookup}

-- Variables and tables are numbered apart, in the order of their declarations.
pub record Variable : Type 0 where
  pub name : List ℕ
  pub range : Range

pub record Table : Type 0 where
  pub name : List ℕ
  pub size : ℕ
  pub range : Range

abbrev pub variables : List Declaration → List Variable
variables [] = []
variables (variable n g ∷ ds) = record { name = n; range = g } ∷ variables ds
variables (table n c g ∷ ds) = variables ds

abbrev pub tables : List Declaration → List Table
tables [] = []
tables (variable n g ∷ ds) = tables ds
tables (table n c g ∷ ds) = record { name = n; size = c; range = g } ∷ tables ds

abbrev pub var_names : List Variable → List (List ℕ)
var_names [] = []
var_names (v ∷ vs) = v.name ∷ var_names vs

abbrev pub table_names : List Table → List (List ℕ)
table_names [] = []
table_names (t ∷ ts) = t.name ∷ table_names ts

-- the number of the first with this name
abbrev pub number_of : List ℕ → List (List ℕ) → ℕ
number_of n [] = 0
number_of n (m ∷ ms) = cond (same n m) 0 (suc (number_of n ms))

abbrev pub only : ℤ → Range
only c = record { low = c; high = c }

abbrev pub no_table : Table
no_table = record { name = []; size = 0; range = only (pos 0) }

-- What is drawn so far: the count of points, the point where the next statement stands,
-- the edges, and the table reads.
pub record Drawing : Type 0 where
  pub points : ℕ
  pub now : ℕ
  pub edges : List Edge
  pub lookups : List Lookup

abbrev pub blank_sheet : Drawing
blank_sheet = record { points = 1; now = 0; edges = []; lookups = [] }

-- an edge from where we stand to a fresh point, where we stand then
abbrev pub fresh : Action → Place → Drawing → Drawing
fresh a p d = record {
  points = suc d.points;
  now = d.points;
  edges = d.edges ++ (record { source = d.now; target = d.points; action = a; place = p } ∷ []);
  lookups = d.lookups;
}

-- an edge from where we stand to a point made before
abbrev pub back : Action → Place → ℕ → Drawing → Drawing
back a p t d = record {
  points = d.points;
  now = d.now;
  edges = d.edges ++ (record { source = d.now; target = t; action = a; place = p } ∷ []);
  lookups = d.lookups;
}

-- go and stand at a point
abbrev pub stand : ℕ → Drawing → Drawing
stand q d = record { points = d.points; now = q; edges = d.edges; lookups = d.lookups }

abbrev pub note : Lookup → Drawing → Drawing
note l d = record { points = d.points; now = d.now; edges = d.edges; lookups = d.lookups ++ (l ∷ []) }

-- Guards. A strict guard against a constant moves it by one; i ≥ k is k ≤ i, and i > k is k < i.
abbrev pub guard : ℕ → Order → Operand → (List ℕ → ℕ) → Guard
guard i below (limit c) num = AtMost i (c -ℤ pos 1)
guard i at_most (limit c) num = AtMost i c
guard i above (limit c) num = AtLeast i (c +ℤ pos 1)
guard i at_least (limit c) num = AtLeast i c
guard i below (against k) num = Difference i (num k) (negsuc 0)
guard i at_most (against k) num = Difference i (num k) (pos 0)
guard i above (against k) num = Difference (num k) i (negsuc 0)
guard i at_least (against k) num = Difference (num k) i (pos 0)

abbrev pub opposite : Order → Order
opposite below = at_least
opposite at_most = above
opposite above = at_most
opposite at_least = below

abbrev pub holds : (List ℕ → ℕ) → Condition → Action
holds num (compares i o v) = Assume (guard (num i) o v num)

abbrev pub fails : (List ℕ → ℕ) → Condition → Action
fails num (compares i o v) = Assume (guard (num i) (opposite o) v num)

module _ (vs : List Variable) (ts : List Table) where
  -- the numbers of a variable and of a table
  abbrev pub var_number : List ℕ → ℕ
  var_number n = number_of n (var_names vs)

  abbrev pub table_number : List ℕ → ℕ
  table_number n = number_of n (table_names ts)

  abbrev pub table_at : List ℕ → Table
  table_at n = slice_index_or ts (table_number n) no_table

  -- a table read k := t[i]: i ≥ 0, i ≤ size−1, then k := any of t's range
  abbrev pub draw_read : Place → ℕ → List ℕ → List ℕ → Place → Drawing → Drawing
  draw_read p k t i q d =
      fresh (Assign k (TableEntry (var_number i) (table_at t).range)) p
      (fresh (Assume (AtMost (var_number i) (pos (table_at t).size -ℤ pos 1))) p
      (fresh (Assume (AtLeast (var_number i) (pos 0))) p
      (note (record { point = d.now; index = var_number i; table = table_number t; place = q }) d)))

  abbrev pub draw_assign : Place → ℕ → Side → Drawing → Drawing
  draw_assign p k (constant c) d = fresh (Assign k (AnyOf (only c) Written)) p d
  draw_assign p k (shifted i c) d = fresh (Assign k (Sum (var_number i) c)) p d
  draw_assign p k (negated i) d = fresh (Assign k (Negation (var_number i))) p d
  draw_assign p k (any s g) d = fresh (Assign k (AnyOf g s)) p d
  draw_assign p k (reading t i q) d = draw_read p k t i q d

  -- if: a guard to a fresh point and the first block; the negated guard to a fresh point and the second block;
  -- then a fresh join with skips from the end of the first and of the second.
  -- while: a skip to a fresh head; a guard to a fresh point and the block; a skip from its end to the head;
  -- the negated guard from the head to a fresh exit.
  abbrev pub draw : Statements → Drawing → Drawing
  draw done d = d
  draw (assign p k e rest) d = draw rest (draw_assign p (var_number k) e d)
  draw (choose p c b b₂ rest) d =
      let first = draw b (fresh (holds var_number c) p d) in
      let second = draw b₂ (fresh (fails var_number c) p (stand d.now first)) in
      let joined = fresh Skip p (stand first.now second) in
      draw rest (stand joined.now (back Skip p joined.now (stand second.now joined)))
  draw (repeat p c b rest) d =
      let head = fresh Skip p d in
      let body = draw b (fresh (holds var_number c) p head) in
      draw rest (fresh (fails var_number c) p (stand head.now (back Skip p head.now body)))

pub record Graph : Type 0 where
  pub variables : List Variable
  pub tables : List Table
  pub points : ℕ
  pub edges : List Edge
  pub lookups : List Lookup

abbrev pub finished : List Variable → List Table → Drawing → Graph
finished vs ts d = record { variables = vs; tables = ts; points = d.points; edges = d.edges; lookups = d.lookups }

-- the graph of a tree; point 0 stands before the first statement
abbrev pub graph : Tree → Graph
graph t =
    let vs = variables t.declarations in
    let ts = tables t.declarations in
    finished vs ts (draw vs ts t.statements blank_sheet)

-- a variable that is not there
abbrev pub no_variable : Variable
no_variable = record { name = []; range = only (pos 0) }

-- the declared range of a variable
abbrev pub range : Graph → ℕ → Range
range g v = (slice_index_or g.variables v no_variable).range

-- the edges to a point, in the order made
abbrev pub incoming : ℕ → List Edge → List Edge
incoming p es = filter (λ e. e.target == p) es

-- the place of the statement that made a point: that of the first edge to it
abbrev pub maker : ℕ → List Edge → Option Place
maker q [] = None
maker q (e ∷ es) = cond (e.target == q) (Some e.place) (maker q es)

abbrev pub Each : {A : Type 0} → (A → Type 0) → List A → Type 0
Each P [] = Unit {0}
Each P (x ∷ xs) = P x × Each P xs

-- the size of a constant, and a range of constants up to a size
abbrev pub size : ℤ → ℕ
size (pos n) = n
size (negsuc n) = suc n

abbrev pub Within : ℕ → Range → Type 0
Within m g = (size g.low ≤ m) × (size g.high ≤ m)

-- every name that is used is one of these
abbrev pub Among : List ℕ → List (List ℕ) → Type 0
Among n ms = among n ms ≡ true

-- every name that the statements use is one of the names declared for it
abbrev pub NamedOperand : List (List ℕ) → Operand → Type 0
NamedOperand vs (against k) = Among k vs
NamedOperand vs (limit c) = Unit {0}

abbrev pub NamedCondition : List (List ℕ) → Condition → Type 0
NamedCondition vs (compares i o v) = Among i vs × NamedOperand vs v

abbrev pub NamedSide : List (List ℕ) → List (List ℕ) → Side → Type 0
NamedSide vs ts (constant c) = Unit {0}
NamedSide vs ts (shifted i c) = Among i vs
NamedSide vs ts (negated i) = Among i vs
NamedSide vs ts (any s g) = Unit {0}
NamedSide vs ts (reading t i p) = Among t ts × Among i vs

abbrev pub Named : List (List ℕ) → List (List ℕ) → Statements → Type 0
Named vs ts done = Unit {0}
Named vs ts (assign p k e rest) = Among k vs × NamedSide vs ts e × Named vs ts rest
Named vs ts (choose p c b b₂ rest) = NamedCondition vs c × Named vs ts b × Named vs ts b₂ × Named vs ts rest
Named vs ts (repeat p c b rest) = NamedCondition vs c × Named vs ts b × Named vs ts rest

abbrev pub Declared : Tree → Type 0
Declared t = Named (var_names (variables t.declarations)) (table_names (tables t.declarations)) t.statements

-- every constant that is written is at most 2147483647 in size
abbrev pub SmallOperand : Operand → Type 0
SmallOperand (against k) = Unit {0}
SmallOperand (limit c) = size c ≤ 2147483647

abbrev pub SmallCondition : Condition → Type 0
SmallCondition (compares i o v) = SmallOperand v

abbrev pub SmallSide : Side → Type 0
SmallSide (constant c) = size c ≤ 2147483647
SmallSide (shifted i c) = size c ≤ 2147483647
SmallSide (negated i) = Unit {0}
SmallSide (any s g) = Within 2147483647 g
SmallSide (reading t i p) = Unit {0}

abbrev pub Small : Statements → Type 0
Small done = Unit {0}
Small (assign p k e rest) = SmallSide e × Small rest
Small (choose p c b b₂ rest) = SmallCondition c × Small b × Small b₂ × Small rest
Small (repeat p c b rest) = SmallCondition c × Small b × Small rest

abbrev pub SmallHeads : List Declaration → Type 0
SmallHeads [] = Unit {0}
SmallHeads (variable n g ∷ ds) = Within 2147483647 g × SmallHeads ds
SmallHeads (table n c g ∷ ds) = (c ≤ 2147483647) × Within 2147483647 g × SmallHeads ds

abbrev pub SmallTree : Tree → Type 0
SmallTree t = SmallHeads t.declarations × Small t.statements
