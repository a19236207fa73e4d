-- What is known of the scripts: graph, rounds, intervals, findings, and runs along every kind of edge.
use Rattle.std.specs.Prelude.{◌≡◌, ℕ, List, [], ◌∷◌, ℤ, pos, negsuc, Contains}
use Rattle.base.specs.declared.Place.{Place}
use Rattle.kinds.specs.Values.{bounds, grades}
use Rattle.kinds.specs.declared.bound.Bound.{Bound}
use Rattle.kinds.specs.declared.bound.Bound.TheVariants.{Whole}
use Rattle.kinds.specs.declared.grade.Grade.TheVariants as grade
use Rattle.language_theory.specs.Graphs.{Graph, only}
use Rattle.language_theory.specs.Names.{Verdict}
use Rattle.language_theory.specs.Names.Outcome.{drawn}
use Rattle.language_theory.specs.Examples.{at, range, edge, counting, counting_graph, looking_up, looking_up_graph, choosing, choosing_graph}
use Rattle.language_theory.specs.declared.Source.TheVariants.{Written, Sensed, Heard}
use Rattle.language_theory.specs.declared.Action.{Action}
use Rattle.language_theory.specs.declared.Action.TheVariants.{Skip, Assign, Assume}
use Rattle.language_theory.specs.declared.Guard.TheVariants.{AtMost, AtLeast, Difference}
use Rattle.language_theory.specs.declared.Value.TheVariants.{AnyOf, TableEntry, Sum, Negation}
use Rattle.language_theory.specs.declared.Lookup.{Lookup}
use Rattle.soundness_theory.specs.Bounds.{bound_book}
use Rattle.soundness_theory.specs.Grades.{grade_book}
use Rattle.soundness_theory.specs.Runs.{Acts, Run, OutsideRead}
use Rattle.soundness_theory.specs.Intervals.{interval}
use Rattle.soundness_theory.specs.Findings.{findings}
use Rattle.examples.specs.Systems.{ComesTo, SystemsStand}
use Rattle.examples.specs.Scripts.{counting_to_n, counting_to_n_graph, hearing, hearing_graph, around_zero, from_to, counting_rest, counting_to_n_rest, looking_up_rest}
use Rattle.examples.specs.declared.scripts.WorkedScript.{WorkedScript}
use Rattle.examples.specs.declared.scripts.WorkedScript.TheVariants.{CountingToTen, CountingToN, ReadingATable}

-- the text of a script
abbrev pub text_of : WorkedScript → List ℕ
text_of CountingToTen = counting
text_of CountingToN = counting_to_n
text_of ReadingATable = looking_up

-- its graph
abbrev pub graph_of : WorkedScript → Graph
graph_of CountingToTen = counting_graph
graph_of CountingToN = counting_to_n_graph
graph_of ReadingATable = looking_up_graph

-- where its bounds rest
abbrev pub rest_of : WorkedScript → List Bound
rest_of CountingToTen = counting_rest
rest_of CountingToN = counting_to_n_rest
rest_of ReadingATable = looking_up_rest

-- i counts from 0 to 10: its interval at each point
pub record CountingStands : Type 0 where
  pub draws : Verdict counting (drawn counting_graph)
  pub rests : ComesTo bounds (bound_book counting_graph) 6 counting_rest
  pub first : interval counting_graph counting_rest 0 0 ≡ from_to 0 0
  pub head : interval counting_graph counting_rest 1 0 ≡ from_to 0 10
  pub block_start : interval counting_graph counting_rest 2 0 ≡ from_to 0 9
  pub block_end : interval counting_graph counting_rest 3 0 ≡ from_to 1 10
  pub exit : interval counting_graph counting_rest 4 0 ≡ from_to 10 10
  pub nothing_found : findings counting_graph counting_rest ≡ []

-- i counts from 0 to n, which is in 3..7: its interval at the head and at the exit
pub record CountingToNStands : Type 0 where
  pub draws : Verdict counting_to_n (drawn counting_to_n_graph)
  pub rests : ComesTo bounds (bound_book counting_to_n_graph) 6 counting_to_n_rest
  pub head : interval counting_to_n_graph counting_to_n_rest 1 0 ≡ from_to 0 7
  pub exit : interval counting_to_n_graph counting_to_n_rest 4 0 ≡ from_to 3 7
  pub nothing_found : findings counting_to_n_graph counting_to_n_rest ≡ []

-- i, in 0..4, is the index into a table of size 4: behind the guards of the read it is in 0..3, and the read has a finding
pub record LookingUpStands : Type 0 where
  pub draws : Verdict looking_up (drawn looking_up_graph)
  pub rests : ComesTo bounds (bound_book looking_up_graph) 4 looking_up_rest
  pub graded : ComesTo grades (grade_book looking_up_graph) 4 (grade.Written ∷ grade.Written ∷ grade.Written ∷ grade.Written ∷ [])
  pub first : interval looking_up_graph looking_up_rest 0 0 ≡ from_to 0 4
  pub not_below : interval looking_up_graph looking_up_rest 1 0 ≡ from_to 0 4
  pub inside : interval looking_up_graph looking_up_rest 2 0 ≡ from_to 0 3
  pub read : interval looking_up_graph looking_up_rest 3 0 ≡ from_to 0 4
  pub found : findings looking_up_graph looking_up_rest ≡ record { point = 0; place = at 3 10; variable = 0; lowest = Whole (pos 0); highest = Whole (pos 4); size = 4 } ∷ []

-- a run that has come to p with the values x goes on to q with x', along an edge with the action a
pub record GoesAlong (g : Graph) (a : Action) (p : ℕ) (x : List ℤ) (q : ℕ) (x' : List ℤ) : Type 0 where
  pub place : Place
  pub before : Run g p x
  pub among : Contains g.edges (edge p q a place)
  pub acts : Acts a x x'
  pub behind : Run g q x'

-- the read of `looking_up`
abbrev pub the_read : Lookup
the_read = record { point = 0; index = 0; table = 0; place = at 3 10 }

-- Runs along every kind of edge, and one that reads outside a table.
pub record RunsShown : Type 0 where
  -- i becomes 5, and then -1, which is heard
  pub draws_hearing : Verdict hearing (drawn hearing_graph)
  pub gives : GoesAlong hearing_graph (Assign 0 (AnyOf (only (pos 5)) Written)) 0 (pos 0 ∷ []) 1 (pos 5 ∷ [])
  pub hears : GoesAlong hearing_graph (Assign 0 (AnyOf around_zero Heard)) 1 (pos 5 ∷ []) 2 (negsuc 0 ∷ [])
  -- i is 5 and n is 4: i becomes 2, which is sensed, and then 0
  pub draws_choosing : Verdict choosing (drawn choosing_graph)
  pub at_or_above : GoesAlong choosing_graph (Assume (Difference 1 0 (pos 0))) 0 (pos 5 ∷ pos 4 ∷ []) 1 (pos 5 ∷ pos 4 ∷ [])
  pub senses : GoesAlong choosing_graph (Assign 0 (AnyOf (range 0 5) Sensed)) 1 (pos 5 ∷ pos 4 ∷ []) 2 (pos 2 ∷ pos 4 ∷ [])
  pub skips : GoesAlong choosing_graph Skip 2 (pos 2 ∷ pos 4 ∷ []) 5 (pos 2 ∷ pos 4 ∷ [])
  pub shifts : GoesAlong choosing_graph (Assign 0 (Sum 0 (negsuc 1))) 5 (pos 2 ∷ pos 4 ∷ []) 6 (pos 0 ∷ pos 4 ∷ [])
  -- i is 1 and n is 3: i becomes -3
  pub below : GoesAlong choosing_graph (Assume (Difference 0 1 (negsuc 0))) 0 (pos 1 ∷ pos 3 ∷ []) 3 (pos 1 ∷ pos 3 ∷ [])
  pub negates : GoesAlong choosing_graph (Assign 0 (Negation 1)) 3 (pos 1 ∷ pos 3 ∷ []) 4 (negsuc 2 ∷ pos 3 ∷ [])
  -- i is 2: it becomes 4, which is read
  pub at_least : GoesAlong looking_up_graph (Assume (AtLeast 0 (pos 0))) 0 (pos 2 ∷ []) 1 (pos 2 ∷ [])
  pub at_most : GoesAlong looking_up_graph (Assume (AtMost 0 (pos 3))) 1 (pos 2 ∷ []) 2 (pos 2 ∷ [])
  pub reads : GoesAlong looking_up_graph (Assign 0 (TableEntry 0 (range 0 4))) 2 (pos 2 ∷ []) 3 (pos 4 ∷ [])
  -- i is 4, outside a table of size 4
  pub reads_outside : OutsideRead looking_up_graph the_read (pos 4 ∷ [])
  -- the loop of `counting` ends with i at 10
  pub counts : Run counting_graph 4 (pos 10 ∷ [])

-- all of this, and the worked systems
pub record ScriptsStand : Type 0 where
  pub systems_stand : SystemsStand
  pub counting_stands : CountingStands
  pub counting_to_n_stands : CountingToNStands
  pub looking_up_stands : LookingUpStands
  pub runs_stand : RunsShown
