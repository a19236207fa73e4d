-- Well-formed graphs, as the graph of every accepted text is; and graphs in bounds, as that of every tree is whose names are
-- declared and whose constants are small.
use Rattle.std.specs.Prelude.{◌≡◌, ℕ, suc, ◌<◌, ◌≤◌, true, List, [], ◌∷◌, ◌++◌, length, ℤ, Contains, ◌≢◌, int_le, slice_index_or}
use Rattle.language_theory.specs.Graphs.{Graph, size, Within, range, no_table, incoming}
use Rattle.language_theory.specs.declared.Range.{Range}
use Rattle.language_theory.specs.declared.Value.{Value}
use Rattle.language_theory.specs.declared.Value.TheVariants.{AnyOf, TableEntry, Sum, Negation}
use Rattle.language_theory.specs.declared.Guard.{Guard}
use Rattle.language_theory.specs.declared.Guard.TheVariants.{AtMost, AtLeast, Difference}
use Rattle.language_theory.specs.declared.Action.{Action}
use Rattle.language_theory.specs.declared.Action.TheVariants.{Skip, Assign, Assume}
use Rattle.language_theory.specs.declared.Edge.{Edge}
use Rattle.language_theory.specs.declared.Lookup.{Lookup}

-- These edges, in this order, make points up to this count: each edge leads from a point made before,
-- to the next number, or again to a point made before.
pub data Made : List Edge → ℕ → Type 0 where
  none : Made [] 1
  next : {es : List Edge} {n : ℕ} (e : Edge) → Made es n → e.source < n → e.target ≡ n → Made (es ++ (e ∷ [])) (suc n)
  again : {es : List Edge} {n : ℕ} (e : Edge) → Made es n → e.source < n → 0 < e.target → e.target < n → Made (es ++ (e ∷ [])) n

-- a constant at most 2^31 in size
abbrev pub ConstantFits : ℤ → Type 0
ConstantFits c = size c ≤ 2147483648

-- a range that does not fall
pub record RangeFits (r : Range) : Type 0 where
  pub rises : int_le r.low r.high ≡ true
  pub low : ConstantFits r.low
  pub high : ConstantFits r.high

-- What an edge names: each variable is below n, and the two of a difference differ.
abbrev pub ValueFits : ℕ → Value → Type 0
ValueFits n (AnyOf r s) = RangeFits r
ValueFits n (TableEntry i r) = (i < n) × RangeFits r
ValueFits n (Sum i c) = (i < n) × ConstantFits c
ValueFits n (Negation i) = i < n

abbrev pub GuardFits : ℕ → Guard → Type 0
GuardFits n (AtMost i c) = (i < n) × ConstantFits c
GuardFits n (AtLeast i c) = (i < n) × ConstantFits c
GuardFits n (Difference i k d) = (i < n) × (k < n) × (i ≢ k) × ConstantFits d

abbrev pub ActionFits : ℕ → Action → Type 0
ActionFits n Skip = Unit {0}
ActionFits n (Assign k x) = (k < n) × ValueFits n x
ActionFits n (Assume g) = GuardFits n g

-- an edge between points of the graph, not to the first one
pub record EdgeFits (g : Graph) (e : Edge) : Type 0 where
  pub source : e.source < g.points
  pub target : e.target < g.points
  pub not_first : 0 < e.target
  pub action : ActionFits (length g.variables) e.action

-- a table read before a point of the graph, of a variable and a table that are there
pub record LookupFits (g : Graph) (l : Lookup) : Type 0 where
  pub point : l.point < g.points
  pub index : l.index < length g.variables
  pub table : l.table < length g.tables

pub record WellFormed (g : Graph) : Type 0 where
  pub few_points : g.points ≤ 96
  pub few_variables : length g.variables ≤ 8
  pub few_tables : length g.tables ≤ 8
  pub first : 0 < g.points
  pub ranges : (v : ℕ) → v < length g.variables → RangeFits (range g v)
  pub tables : (t : ℕ) → t < length g.tables → RangeFits (slice_index_or g.tables t no_table).range
  pub edges : (e : Edge) → Contains g.edges e → EdgeFits g e
  -- at most two edges lead to a point
  pub joins : (p : ℕ) → length (incoming p g.edges) ≤ 2
  pub lookups : (l : Lookup) → Contains g.lookups l → LookupFits g l

-- what an edge names is in bounds: each variable is below n, each constant at most 2^31 in size
abbrev pub ValueInBounds : ℕ → Value → Type 0
ValueInBounds n (AnyOf r s) = Within 2147483648 r
ValueInBounds n (TableEntry i r) = (i < n) × Within 2147483648 r
ValueInBounds n (Sum i c) = (i < n) × ConstantFits c
ValueInBounds n (Negation i) = i < n

abbrev pub GuardInBounds : ℕ → Guard → Type 0
GuardInBounds n (AtMost i c) = (i < n) × ConstantFits c
GuardInBounds n (AtLeast i c) = (i < n) × ConstantFits c
GuardInBounds n (Difference i k d) = (i < n) × (k < n) × ConstantFits d

abbrev pub ActionInBounds : ℕ → Action → Type 0
ActionInBounds n Skip = Unit {0}
ActionInBounds n (Assign k x) = (k < n) × ValueInBounds n x
ActionInBounds n (Assume g) = GuardInBounds n g

-- each variable and table that is named is there, each constant and each end of a range at most 2^31 in size; ranges may fall
pub record InBounds (g : Graph) : Type 0 where
  pub ranges : (v : ℕ) → v < length g.variables → Within 2147483648 (range g v)
  pub tables : (t : ℕ) → t < length g.tables → Within 2147483648 (slice_index_or g.tables t no_table).range
  pub actions : (e : Edge) → Contains g.edges e → ActionInBounds (length g.variables) e.action
  pub lookups : (l : Lookup) → Contains g.lookups l → LookupFits g l
