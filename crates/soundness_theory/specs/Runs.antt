-- Runs of a script: states, and how a run goes on from one to the next along the edges of the graph. Nothing here speaks of equations.
use Rattle.std.specs.Prelude.{◌≡◌, ℕ, ◌<◌, Bool, true, List, length, ℤ, pos, neg_ℤ, ◌+ℤ◌, ◌-ℤ◌, Contains, int_le, slice_index_or, slice_set}
use Rattle.language_theory.specs.Graphs.{Graph, no_table, range}
use Rattle.language_theory.specs.declared.Range.{Range}
use Rattle.language_theory.specs.declared.Action.{Action}
use Rattle.language_theory.specs.declared.Action.TheVariants.{Skip, Assign, Assume}
use Rattle.language_theory.specs.declared.Guard.{Guard}
use Rattle.language_theory.specs.declared.Guard.TheVariants.{AtMost, AtLeast, Difference}
use Rattle.language_theory.specs.declared.Value.{Value}
use Rattle.language_theory.specs.declared.Value.TheVariants.{AnyOf, TableEntry, Sum, Negation}
use Rattle.language_theory.specs.declared.Edge.{Edge}
use Rattle.language_theory.specs.declared.Lookup.{Lookup}

-- the value of the variable v, where x has the values of all variables; the points and edges of a script name no other
abbrev pub of : List ℤ → ℕ → ℤ
of x v = slice_index_or x v (pos 0)

-- z lies in the range r
pub record InRange (r : Range) (z : ℤ) : Type 0 where
  pub low : int_le r.low z ≡ true
  pub high : int_le z r.high ≡ true

-- z can be what a variable is set to, where x has the values of all variables
abbrev pub Gives : Value → List ℤ → ℤ → Type 0
Gives (AnyOf r s) x z = InRange r z
Gives (TableEntry i r) x z = InRange r z
Gives (Sum i c) x z = z ≡ of x i +ℤ c
Gives (Negation i) x z = z ≡ neg_ℤ (of x i)

-- whether a guard holds of the values
abbrev pub guard_holds : Guard → List ℤ → Bool
guard_holds (AtMost i c) x = int_le (of x i) c
guard_holds (AtLeast i c) x = int_le c (of x i)
guard_holds (Difference i k d) x = int_le (of x i) (of x k +ℤ d)

-- the values x become x' along an edge with this action; a guard has to hold
abbrev pub Acts : Action → List ℤ → List ℤ → Type 0
Acts Skip x x' = x' ≡ x
Acts (Assign k v) x x' = (z : ℤ) × Gives v x z × (x' ≡ slice_set x k z)
Acts (Assume g) x x' = (guard_holds g x ≡ true) × (x' ≡ x)

-- a run comes to the point with the values: it begins at point 0 within the declared ranges, and follows edges
pub data Run (g : Graph) : ℕ → List ℤ → Type 0 where
  begins : {x : List ℤ} → length x ≡ length g.variables → ((v : ℕ) → v < length g.variables → InRange (range g v) (of x v)) → Run g 0 x
  goes : {x x' : List ℤ} (e : Edge) → Run g e.source x → Contains g.edges e → Acts e.action x x' → Run g e.target x'

-- the size of the table that is read; every read of a script names one that is there
abbrev pub size_of : Graph → Lookup → ℕ
size_of g l = (slice_index_or g.tables l.table no_table).size

-- with the values x a run stands before the read l, and its index is not in 0 .. size - 1
pub record OutsideRead (g : Graph) (l : Lookup) (x : List ℤ) : Type 0 where
  pub among : Contains g.lookups l
  pub run : Run g l.point x
  pub outside : (int_le (pos 0) (of x l.index) ≡ true) × (int_le (of x l.index) (pos (size_of g l) -ℤ pos 1) ≡ true) → ⊥
