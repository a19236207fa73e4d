-- Which table reads have a finding.
use Rattle.std.specs.Prelude.{◌≡◌, ℕ, Bool, true, cond, ◌&&◌, List, pos, ◌-ℤ◌, Some, None, Option, Contains, filter_map}
use Rattle.kinds.specs.Values.{under}
use Rattle.kinds.specs.declared.bound.Bound.{Bound}
use Rattle.kinds.specs.declared.bound.Bound.TheVariants.{Whole}
use Rattle.language_theory.specs.Graphs.{Graph}
use Rattle.language_theory.specs.declared.Lookup.{Lookup}
use Rattle.soundness_theory.specs.Runs.{size_of}
use Rattle.soundness_theory.specs.Intervals.{interval}
use Rattle.soundness_theory.specs.declared.Finding.{Finding}

-- an interval lies inside 0 .. n - 1
abbrev pub fits_table : Bound × Bound → ℕ → Bool
fits_table i n = under (Whole (pos 0)) i.0 && under i.1 (Whole (pos n -ℤ pos 1))

-- the finding of the read l, whose index has the interval i before it
abbrev pub finding_at : Graph → Lookup → Bound × Bound → Finding
finding_at g l i = record { point = l.point; place = l.place; variable = l.index; lowest = i.0; highest = i.1; size = size_of g l }

-- what is found of a read, by the interval of its index before it: nothing where it is not reached, or lies inside
abbrev pub found_by : Graph → Lookup → Option (Bound × Bound) → Option Finding
found_by g l None = None
found_by g l (Some i) = cond (fits_table i (size_of g l)) None (Some (finding_at g l i))

abbrev pub found_of : Graph → List Bound → Lookup → Option Finding
found_of g y l = found_by g l (interval g y l.point l.index)

-- the findings at the values y, in the order of the text
abbrev pub findings : Graph → List Bound → List Finding
findings g y = filter_map (found_of g y) g.lookups

-- f is the finding of the read l: it is reached, and the interval of its index before it does not lie inside 0 .. size - 1
pub record FindingOf (g : Graph) (y : List Bound) (l : Lookup) (f : Finding) : Type 0 where
  pub among : Contains g.lookups l
  pub i : Bound × Bound
  pub reached : interval g y l.point l.index ≡ Some i
  pub outside : (under (Whole (pos 0)) i.0 ≡ true) × (under i.1 (Whole (pos (size_of g l) -ℤ pos 1)) ≡ true) → ⊥
  pub is : f ≡ finding_at g l i
