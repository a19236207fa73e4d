-- What is seen at a state of a run.
use Rattle.std.specs.Prelude.{◌≡◌, ℕ, ◌+◌, ◌-◌, ◌^◌, ◌<◌, min, if◌then◌else◌, Bool, not, ◌==◌, ◌&&◌, List, ◌++◌, length, count_by, sum_by, pos, int_le, int_lt, option_map, unwrap_or, slice_get}
use Rattle.std.specs.List.{list_all, list_any, range_with_len}
use Rattle.language_theory.specs.declared.Lookup.{Lookup}
use Rattle.listing.specs.Table.{Table}
use Rattle.script_graph.specs.declared.graph.Graph.{Graph}
use Rattle.soundness_theory.specs.Runs.{of}
use Rattle.reference.specs.Intervals.{contains}
use Rattle.reference.specs.Results.{value_at}
use Rattle.base.specs.declared.Place.{Place}
use Rattle.reference.specs.declared.results.IndexFinding.{IndexFinding}
use Rattle.reference.specs.declared.results.Results.{Results}
use Rattle.script_trials.specs.declared.simulation.Observations.{Observations}
use Rattle.script_trials.specs.declared.simulation.RunLimits.{RunLimits}
use Rattle.script_trials.specs.declared.simulation.State.{State}

-- a count with n more, as far as 32 bits go
abbrev pub more : ℕ → ℕ → ℕ
more n count = min (count + n) (2 ^ 32 - 1)

-- whether each value of a state lies in its interval
abbrev pub is_inside : Graph → Results → State → Bool
is_inside g r s = list_all (λ v. contains (value_at r s.point v).interval (of s.values v)) (range_with_len 0 (length g.variables.items))

-- the size of a table; of one that is not there 0
abbrev pub size_of : List Table → ℕ → ℕ
size_of tables n = unwrap_or (option_map (λ t. t.size) (slice_get tables n)) 0

-- whether a table is read at a state, outside of it
abbrev pub is_outside : Graph → State → Lookup → Bool
is_outside g s l = (l.point == s.point) && not (int_le (pos 0) (of s.values l.index) && int_lt (of s.values l.index) (pos (size_of g.tables.items l.table)))

-- whether some finding has this place
abbrev pub has_finding : List IndexFinding → Place → Bool
has_finding findings p = list_any (λ f. (f.place.line == p.line) && (f.place.column == p.column)) findings

-- and there is no finding of it
abbrev pub is_unfound : Graph → Results → State → Lookup → Bool
is_unfound g r s l = is_outside g s l && not (has_finding r.findings.items l.place)

-- a state is counted, and counted as wrong where it lies outside or reads outside without a finding
pub record Looks (g : Graph) (r : Results) (s : State) (old new : Observations) : Type 0 where
  pub states : new.states ≡ more 1 old.states
  pub states_outside : new.states_outside ≡ more (if is_inside g r s then 0 else 1) old.states_outside
  pub reads_unfound : new.reads_unfound ≡ more (count_by (is_unfound g r s) g.lookups.items) old.reads_unfound

-- these states were looked at, one behind the other: what is counted is their number, and what is wrong at each of them
pub record Saw (g : Graph) (r : Results) (ss : List State) (seen : Observations) : Type 0 where
  pub states : seen.states ≡ min (length ss) (2 ^ 32 - 1)
  pub states_outside : seen.states_outside ≡ min (count_by (λ s. not (is_inside g r s)) ss) (2 ^ 32 - 1)
  pub reads_unfound : seen.reads_unfound ≡ min (sum_by (λ s. count_by (is_unfound g r s) g.lookups.items) ss) (2 ^ 32 - 1)

-- behind what was seen further states were looked at, at least one if there is a step
abbrev pub GoesOn : Graph → Results → ℕ → Observations → Observations → Type 0
GoesOn g r steps old new = (ss : List State) → Saw g r ss old → (ts : List State) × Saw g r (ss ++ ts) new × (0 < steps → 0 < length ts)

-- all that was seen, of states of which there is at least one if there is a run of a step
pub record Observed (g : Graph) (r : Results) (limits : RunLimits) (seen : Observations) : Type 0 where
  pub looked_at : List State
  pub saw : Saw g r looked_at seen
  pub some : 0 < limits.runs → 0 < limits.steps → 0 < length looked_at
