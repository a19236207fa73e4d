-- Scripts with equal reports have the same results.
use Rattle.std.proofs.Common.{◌≡◌, ℕ, ◌<◌, List, get_or, Some, None, Option, sym, refl, ap, ◌∙◌, arith}
use Rattle.std.proofs.lemmas.List.FromFn.{length-map-range_with_len, get_or-map-range_with_len}
use Rattle.std.specs.Prelude.{flat_map}
use Rattle.std.specs.List.{range_with_len}
use Rattle.kinds.specs.declared.bound.Bound.{Bound}
use Rattle.kinds.specs.declared.grade.Grade.{Grade}
use Rattle.books.proofs.Worth.{no_option}
use Rattle.books.proofs.Asked.{some_same}
use Rattle.language_theory.specs.Graphs.{Graph}
use Rattle.script_equations_theory.specs.Bounds.{variables_of}
use Rattle.soundness_theory.specs.Intervals.{interval}
use Rattle.report_theory.specs.Texts.{Reach, Row, Report}
use Rattle.report_theory.specs.Reports.{known, grade_there, row_of, rows_at, report_of}
use Rattle.report_theory.specs.Laws.{SameResults}
use Rattle.report_theory.proofs.Rows.{Wide, same_each, same_width}
use Rattle.report_theory.proofs.Values.{Known, same_values}

-- each point has a row for each variable
rows_wide : (g : Graph) (y : List Bound) (z : List Grade) → Wide (rows_at g y z) (variables_of g)
rows_wide g y z p = length-map-range_with_len (row_of g y z p) 0 (variables_of g)

module _ (g g' : Graph) (y y' : List Bound) (z z' : List Grade) where
  -- what is known of a variable at a point is its interval, and the grade where it has one
  record SameReach (p v : ℕ) (o o' : Option (Bound × Bound)) : Type 0 where
    pub interval : o ≡ o'
    pub graded : (i : Bound × Bound) → o ≡ Some i → grade_there g y z p v ≡ grade_there g' y' z' p v

  same_reach : (p v : ℕ) (o o' : Option (Bound × Bound)) → known o (grade_there g y z p v) ≡ known o' (grade_there g' y' z' p v) → SameReach p v o o'
  same_reach p v None None e = record { interval = refl; graded = λ i f. absurd (no_option f) }
  same_reach p v None (Some i) e = absurd (no_option e)
  same_reach p v (Some i) None e = absurd (no_option (sym e))
  same_reach p v (Some i) (Some j) e =
      let r = some_same e in
      record { interval = ap (λ (k : Reach). Some (k.lowest, k.highest)) r; graded = λ k f. ap (λ (k : Reach). k.grade) r }

  module _ (k k' : ℕ) (e : report_of g y z k ≡ report_of g' y' z' k') (first : 0 < g.points) (w : Known g y) (w' : Known g' y') where
    points : g.points ≡ g'.points
    points = ap (λ (r : Report). r.points) e

    rows : flat_map (rows_at g y z) (range_with_len 0 g.points) ≡ flat_map (rows_at g' y' z') (range_with_len 0 g.points)
    rows = ap (λ (r : Report). r.rows) e ∙ ap (λ (n : ℕ). flat_map (rows_at g' y' z') (range_with_len 0 n)) (sym points)

    variables : variables_of g ≡ variables_of g'
    variables = same_width (rows_at g y z) (rows_at g' y' z') (variables_of g) (variables_of g') g.points (rows_wide g y z) (rows_wide g' y' z') first rows

    rows_there : (p : ℕ) → p < g.points → rows_at g y z p ≡ rows_at g' y' z' p
    rows_there p h = same_each (rows_at g y z) (rows_at g' y' z') (variables_of g) (rows_wide g y z) (λ q. rows_wide g' y' z' q ∙ sym variables) 0 g.points rows p (omega arith) (omega arith)

    row : (p v : ℕ) → p < g.points → v < variables_of g → row_of g y z p v ≡ row_of g' y' z' p v
    row p v h j =
        let d = row_of g y z p v in
        sym (get_or-map-range_with_len (row_of g y z p) 0 (variables_of g) v v d j (omega arith)) ∙
        ap (λ (ws : List Row). get_or ws v d) (rows_there p h) ∙
        get_or-map-range_with_len (row_of g' y' z' p) 0 (variables_of g') v v d (omega (arith, variables)) (omega arith)

    reach : (p v : ℕ) → p < g.points → v < variables_of g → SameReach p v (interval g y p v) (interval g' y' p v)
    reach p v h j = same_reach p v (interval g y p v) (interval g' y' p v) (ap (λ (r : Row). r.reach) (row p v h j))

    intervals : (p v : ℕ) → p < g.points → v < variables_of g → interval g y p v ≡ interval g' y' p v
    intervals p v h j = (reach p v h j).interval

    pub same_results : SameResults g y z k g' y' z' k'
    same_results = record {
      points = points;
      rounds = ap (λ (r : Report). r.rounds) e;
      variables = variables;
      names = λ v j. ap (λ (r : Row). r.name) (row 0 v first j);
      values = same_values g g' y y' w w' points variables intervals;
      intervals = intervals;
      graded = λ p v h j. (reach p v h j).graded;
      found = ap (λ (r : Report). r.found) e;
    }
