-- A buffer of 65,536 bytes has room for the report of every script: at most 768 rows, 31 findings, a first and a last line, of at most 71 bytes each.
use Rattle.std.proofs.Common.{◌≡◌, ℕ, zero, suc, ◌+◌, ◌*◌, ◌<◌, ◌≤◌, Bool, true, false, cond, List, [], ◌∷◌, ◌++◌, length, map, Some, None, Option, All, arith, length-append}
use Rattle.std.proofs.lemmas.Fmt.{length-decimal-le}
use Rattle.std.proofs.lemmas.List.{length-map}
use Rattle.std.proofs.lemmas.List.Concat.{length-flat_map}
use Rattle.std.proofs.lemmas.List.Elements.{All-nil, All-cons, All-append, All-map}
use Rattle.std.proofs.lemmas.List.FromFn.{length-range_with_len, length-map-range_with_len}
use Rattle.std.proofs.lemmas.List.Sums.{sum_by-le}
use Rattle.std.specs.Prelude.{IfSome, decimal, flat_map, filter_map}
use Rattle.std.specs.List.{range_with_len, cons_option}
use Rattle.kinds.specs.Values.{bounds}
use Rattle.kinds.specs.declared.bound.Bound.{Bound}
use Rattle.kinds.specs.declared.grade.Grade.{Grade}
use Rattle.books.specs.Forms.{Well}
use Rattle.language_theory.specs.Graphs.{Graph, Each}
use Rattle.language_theory.specs.declared.Lookup.{Lookup}
use Rattle.language_theory.specs.WellFormed.{WellFormed}
use Rattle.language_theory.proofs.Verdicts.{drawn_well}
use Rattle.script_equations_theory.specs.Bounds.{variables_of, bound_book}
use Rattle.script_equations_theory.proofs.Forms.{bound_well}
use Rattle.soundness_theory.specs.Runs.{size_of}
use Rattle.soundness_theory.specs.Intervals.{interval}
use Rattle.soundness_theory.specs.Findings.{fits_table, finding_at, found_by, found_of, findings}
use Rattle.soundness_theory.specs.declared.Finding.{Finding}
use Rattle.soundness_theory.proofs.Listing.{few_findings}
use Rattle.report_theory.specs.Texts.{Row, Found, Report, line_of, head_fields, row_fields, found_fields, end_fields, lines, report_text}
use Rattle.report_theory.specs.Reports.{row, name_of, grade_there, row_of, rows_at, found_at, report_of}
use Rattle.report_theory.specs.Laws.{ScriptSettles}
use Rattle.report_theory.specs.Room.{most_bytes, HasRoom}
use Rattle.report_theory.proofs.Places.{Early, reads_early}
use Rattle.report_theory.proofs.Plain.{names_short}
use Rattle.report_theory.proofs.ReadCount.{reads_few}
use Rattle.report_theory.proofs.TableSizes.{tables_sized}
use Rattle.report_theory.proofs.ValueSizes.{SizedPair, intervals_sized}
use Rattle.report_theory.proofs.Widths.{most_width, Narrow, line_width, bound_width, rank_width}

-- a list of lists of at most m items each
flat_width : {A B : Type 0} (m : ℕ) (f : A → List B) (xs : List A) → All (λ (x : A). length (f x) ≤ m) xs → length (flat_map f xs) ≤ length xs * m
flat_width m f xs h = let e = length-flat_map f xs in let s = sum_by-le (λ x. length (f x)) m xs h in omega arith

all_option : {B : Type 0} (P : B → Type 0) (o : Option B) (xs : List B) → IfSome o P → All P xs → All P (cons_option o xs)
all_option P None xs h k = k
all_option P (Some x) xs h k = All-cons P x xs h k

-- how many lines a report has
line_count : (r : Report) → length (lines r) ≡ length r.rows + length r.found + 2
line_count r =
    let rows = map row_fields r.rows in
    let found = map found_fields r.found in
    omega (arith, length-append (rows ++ found) (end_fields (length r.found) ∷ []), length-append rows found, length-map r.rows row_fields, length-map r.found found_fields)

module _ (bs : List ℕ) (g : Graph) (k : ℕ) (y : List Bound) (z : List Grade) (s : ScriptSettles bs g k y) where
  fits : WellFormed g
  fits = (drawn_well bs g s.script).1

  well : Well bounds (bound_book g)
  well = bound_well g fits

  -- the rows and the findings of the report, by their lines
  abbrev NarrowRow : Row → Type 0
  NarrowRow r = Narrow (row_fields r)

  abbrev NarrowFinding : Finding → Type 0
  NarrowFinding f = Narrow (found_fields (found_at g y z f))

  row_narrow : (p v : ℕ) → p < 96 → NarrowRow (row_of g y z p v)
  row_narrow p v h = go (interval g y p v) (intervals_sized g well k y s.settles.reaches p v)
    where
      point : length (decimal p) ≤ 2
      point = length-decimal-le 2 p (omega arith) (omega arith) (omega arith)

      name : length (name_of g v) ≤ 16
      name = names_short bs g s.script v

      go : (o : Option (Bound × Bound)) → SizedPair (length (bound_book g)) o → NarrowRow (row p (name_of g v) o (grade_there g y z p v))
      go None q = let w = line_width (row_fields (row p (name_of g v) None (grade_there g y z p v))) (omega arith) in omega (arith, point, name)
      go (Some i) q =
          let w = line_width (row_fields (row p (name_of g v) (Some i) (grade_there g y z p v))) (omega arith) in
          let a = bound_width (length (bound_book g)) i.0 well.small q.0 in
          let b = bound_width (length (bound_book g)) i.1 well.small q.1 in
          omega (arith, point, name, rank_width)

  rows_narrow : (a n : ℕ) → a + n ≤ 96 → All NarrowRow (flat_map (rows_at g y z) (range_with_len a n))
  rows_narrow a zero h = All-nil NarrowRow
  rows_narrow a (suc n) h =
      All-append NarrowRow (rows_at g y z a) (flat_map (rows_at g y z) (range_with_len (a + 1) n))
      (All-map NarrowRow (row_of g y z a) (range_with_len 0 (variables_of g)) (λ i d l. row_narrow a _ (omega arith)))
      (rows_narrow (a + 1) n (omega arith))

  found_narrow : (l : Lookup) → Early 8193 l.place → IfSome (found_of g y l) NarrowFinding
  found_narrow l h = go (interval g y l.point l.index) (intervals_sized g well k y s.settles.reaches l.point l.index)
    where
      go : (o : Option (Bound × Bound)) → SizedPair (length (bound_book g)) o → IfSome (found_by g l o) NarrowFinding
      go None q = tt
      go (Some i) q = by (fits_table i (size_of g l))
        where
          by : (b : Bool) → IfSome (cond b None (Some (finding_at g l i))) NarrowFinding
          by true = tt
          by false =
              let w = line_width (found_fields (found_at g y z (finding_at g l i))) (omega arith) in
              let line = length-decimal-le 4 l.place.line (omega arith) (omega arith) (omega arith) in
              let column = length-decimal-le 4 l.place.column (omega arith) (omega arith) (omega arith) in
              let name = names_short bs g s.script l.index in
              let a = bound_width (length (bound_book g)) i.0 well.small q.0 in
              let b = bound_width (length (bound_book g)) i.1 well.small q.1 in
              let t = tables_sized bs g s.script l in
              let size = length-decimal-le 5 (size_of g l) (omega arith) (omega arith) (omega arith) in
              omega (arith, rank_width)

  founds_narrow : (ls : List Lookup) → Each (λ (l : Lookup). Early 8193 l.place) ls → All NarrowFinding (filter_map (found_of g y) ls)
  founds_narrow [] h = All-nil NarrowFinding
  founds_narrow (l ∷ ls) h = all_option NarrowFinding (found_of g y l) (filter_map (found_of g y) ls) (found_narrow l h.0) (founds_narrow ls h.1)

  head_narrow : Narrow (head_fields g.points k)
  head_narrow =
      let few = fits.few_points in
      let within = s.within in
      let w = line_width (head_fields g.points k) (omega arith) in
      let points = length-decimal-le 2 g.points (omega arith) (omega arith) (omega arith) in
      let rounds = length-decimal-le 5 k (omega arith) (omega arith) (omega arith) in
      omega arith

  -- how many rows, and how many findings
  few_rows : length (report_of g y z k).rows ≤ 768
  few_rows =
      let few = fits.few_points in
      let variables = fits.few_variables in
      let wide = flat_width 8 (rows_at g y z) (range_with_len 0 g.points) (λ i d l. omega (arith, length-map-range_with_len)) in
      omega (arith, length-range_with_len 0 g.points)

  few_found : length (report_of g y z k).found < 32
  few_found =
      let f = few_findings g y in
      let r = reads_few bs g s.script in
      let p = fits.few_points in
      omega (arith, length-map (findings g y) (found_at g y z))

  end_narrow : (n : ℕ) → n < 32 → Narrow (end_fields n)
  end_narrow n h = let w = line_width (end_fields n) (omega arith) in let d = length-decimal-le 2 n (omega arith) (omega arith) (omega arith) in omega arith

  lines_narrow : All Narrow (lines (report_of g y z k))
  lines_narrow =
      let rows = (report_of g y z k).rows in
      let found = (report_of g y z k).found in
      let few = fits.few_points in
      All-cons Narrow (head_fields g.points k) _ head_narrow
      (All-append Narrow (map row_fields rows ++ map found_fields found) _
      (All-append Narrow (map row_fields rows) (map found_fields found)
      (All-map Narrow row_fields rows (rows_narrow 0 g.points (omega arith)))
      (All-map Narrow found_fields found (All-map (λ (f : Found). Narrow (found_fields f)) (found_at g y z) (findings g y) (founds_narrow g.lookups (reads_early bs g s.script)))))
      (All-cons Narrow (end_fields (length found)) [] (end_narrow (length found) few_found) (All-nil Narrow)))

  room : length (report_text (report_of g y z k)) ≤ most_bytes
  room =
      let w = flat_width most_width line_of (lines (report_of g y z k)) lines_narrow in
      let n = line_count (report_of g y z k) in
      let r = few_rows in
      let f = few_found in
      omega arith

pub has_room : HasRoom
has_room = room
