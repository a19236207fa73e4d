-- The text of a script's report is that of no other report of a script: rounds and values have at most 64 digits, and so have values that counted rounds come to.
use Rattle.std.proofs.Common.{Contains, ◌≡◌, ℕ, zero, suc, ◌+◌, ◌<◌, ◌≤◌, Bool, true, false, cond, List, [], ◌∷◌, ◌++◌, length, map, Some, None, Option, arith}
use Rattle.std.specs.Prelude.{IfSome, flat_map, filter_map}
use Rattle.std.specs.List.{range_with_len, cons_option}
use Rattle.kinds.specs.Values.{bounds, SizedBy}
use Rattle.kinds.specs.declared.bound.Bound.{Bound}
use Rattle.kinds.specs.declared.bound.Bound.TheVariants.{Least, Whole, Greatest}
use Rattle.kinds.specs.declared.grade.Grade.{Grade}
use Rattle.language_theory.specs.Graphs.{Graph, Each}
use Rattle.language_theory.specs.Names.{Verdict}
use Rattle.language_theory.specs.Names.Outcome.{drawn}
use Rattle.language_theory.specs.declared.Lookup.{Lookup}
use Rattle.script_equations_theory.proofs.Lists.{contains_first, contains_behind}
use Rattle.language_theory.proofs.Verdicts.{drawn_well}
use Rattle.script_equations_theory.specs.Bounds.{variables_of, bound_book}
use Rattle.script_equations_theory.proofs.Forms.{bound_well}
use Rattle.soundness_theory.specs.Runs.{size_of}
use Rattle.soundness_theory.specs.Intervals.{interval}
use Rattle.soundness_theory.specs.Findings.{fits_table, finding_at, found_by, found_of, findings}
use Rattle.soundness_theory.specs.declared.Finding.{Finding}
use Rattle.report_theory.specs.Texts.{report_text}
use Rattle.report_theory.specs.Reports.{known, grade_there, row_of, rows_at, found_at, report_of}
use Rattle.report_theory.specs.Laws.{ComesAfter}
use Rattle.report_theory.proofs.Plain.{names_plain}
use Rattle.report_theory.proofs.TableSizes.{tables_sized}
use Rattle.report_theory.proofs.ValueSizes.{SizedPair, intervals_sized}
use Rattle.report_theory.proofs.Numerals.{Short, ShortBound}
use Rattle.report_theory.proofs.Places.{Early, reads_early}
use Rattle.report_theory.proofs.Reading.{Known, ReadableRow, ReadableFound, Readable, text_once}

-- What holds of each item of a list.
each_append : {A : Type 0} (P : A → Type 0) (xs ys : List A) → Each P xs → Each P ys → Each P (xs ++ ys)
each_append P [] ys h k = k
each_append P (x ∷ xs) ys h k = (h.0, each_append P xs ys h.1 k)

each_mapped : {A B : Type 0} (P : A → Type 0) (Q : B → Type 0) (f : A → B) → ((x : A) → P x → Q (f x)) → (xs : List A) → Each P xs → Each Q (map f xs)
each_mapped P Q f g [] h = tt
each_mapped P Q f g (x ∷ xs) h = (g x h.0, each_mapped P Q f g xs h.1)

each_flat : {A B : Type 0} (P : A → Type 0) (Q : B → Type 0) (f : A → List B) → ((x : A) → P x → Each Q (f x)) → (xs : List A) → Each P xs → Each Q (flat_map f xs)
each_flat P Q f g [] h = tt
each_flat P Q f g (x ∷ xs) h = each_append Q (f x) (flat_map f xs) (g x h.0) (each_flat P Q f g xs h.1)

each_from : (a n m : ℕ) → a + n ≤ m → Each (λ (k : ℕ). k < m) (range_with_len a n)
each_from a zero m h = tt
each_from a (suc n) m h = (omega arith, each_from (a + 1) n m (omega arith))

each_option : {B : Type 0} (Q : B → Type 0) (o : Option B) (xs : List B) → IfSome o Q → Each Q xs → Each Q (cons_option o xs)
each_option Q None xs h k = k
each_option Q (Some x) xs h k = (h, k)

each_filtered : {A B : Type 0} (P : A → Type 0) (Q : B → Type 0) (f : A → Option B) → ((x : A) → P x → IfSome (f x) Q) → (xs : List A) → Each P xs → Each Q (filter_map f xs)
each_filtered P Q f g [] h = tt
each_filtered P Q f g (x ∷ xs) h = each_option Q (f x) (filter_map f xs) (g x h.0) (each_filtered P Q f g xs h.1)

-- what holds of all that a list contains
each_in : {A : Type 0} (P : A → Type 0) (xs : List A) → ((x : A) → Contains xs x → P x) → Each P xs
each_in P [] h = tt
each_in P (x ∷ xs) h = (h x (contains_first x xs), each_in P xs (λ y c. h y (contains_behind x xs y c)))

each_both : {A : Type 0} (P Q : A → Type 0) (xs : List A) → Each P xs → Each Q xs → Each (λ (x : A). P x × Q x) xs
each_both P Q [] h k = tt
each_both P Q (x ∷ xs) h k = ((h.0, k.0), each_both P Q xs h.1 k.1)

-- the ends of an interval have at most 64 digits
abbrev ShortPair : Option (Bound × Bound) → Type 0
ShortPair None = Unit {0}
ShortPair (Some i) = ShortBound i.0 × ShortBound i.1

module _ (bs : List ℕ) (g : Graph) (v : Verdict bs (drawn g)) (y : List Bound) (z : List Grade) (short : (p x : ℕ) → ShortPair (interval g y p x)) where
  known_short : (o : Option (Bound × Bound)) (r : Grade) → ShortPair o → Known (known o r)
  known_short None r h = tt
  known_short (Some i) r h = record { lowest = h.0; highest = h.1 }

  row_readable : (p x : ℕ) → p < g.points → x < variables_of g → ReadableRow (row_of g y z p x)
  row_readable p x h k = let f = (drawn_well bs g v).1.few_points in record { point = omega arith; name = names_plain bs g v x k; reach = known_short (interval g y p x) (grade_there g y z p x) (short p x) }

  rows_readable : Each ReadableRow (flat_map (rows_at g y z) (range_with_len 0 g.points))
  rows_readable = each_flat (λ (p : ℕ). p < g.points) ReadableRow (rows_at g y z)
      (λ p h. each_mapped (λ (x : ℕ). x < variables_of g) ReadableRow (row_of g y z p) (λ x k. row_readable p x h k) (range_with_len 0 (variables_of g)) (each_from 0 (variables_of g) (variables_of g) (omega arith)))
      (range_with_len 0 g.points) (each_from 0 g.points g.points (omega arith))

  -- a read that stands early, of a variable that is there
  abbrev ReadFits : Lookup → Type 0
  ReadFits l = Early 8193 l.place × (l.index < length g.variables)

  reads_fit : Each ReadFits g.lookups
  reads_fit = each_both (λ (l : Lookup). Early 8193 l.place) (λ (l : Lookup). l.index < length g.variables) g.lookups (reads_early bs g v) (each_in _ g.lookups (λ l c. ((drawn_well bs g v).1.lookups l c).index))

  found_readable : (l : Lookup) → ReadFits l → IfSome (found_of g y l) (λ (f : Finding). ReadableFound (found_at g y z f))
  found_readable l h = go (interval g y l.point l.index) (short l.point l.index)
    where
      go : (o : Option (Bound × Bound)) → ShortPair o → IfSome (found_by g l o) (λ (f : Finding). ReadableFound (found_at g y z f))
      go None k = tt
      go (Some i) k = by (fits_table i (size_of g l))
        where
          by : (b : Bool) → IfSome (cond b None (Some (finding_at g l i))) (λ (f : Finding). ReadableFound (found_at g y z f))
          by true = tt
          by false = let s = tables_sized bs g v l in record {
            line = omega arith;
            column = omega arith;
            name = names_plain bs g v l.index h.1;
            reach = record { lowest = k.0; highest = k.1 };
            size = omega arith;
          }

  founds_readable : Each ReadableFound (map (found_at g y z) (findings g y))
  founds_readable = each_mapped (λ (f : Finding). ReadableFound (found_at g y z f)) ReadableFound (found_at g y z) (λ f h. h) (findings g y)
      (each_filtered ReadFits (λ (f : Finding). ReadableFound (found_at g y z f)) (found_of g y) found_readable g.lookups reads_fit)

  pub readable : (k : ℕ) → Short k → Readable (report_of g y z k)
  readable k h = let f = (drawn_well bs g v).1.few_points in record { points = omega arith; rounds = h; rows = rows_readable; found = founds_readable }

-- so have those of a script's bounds that counted rounds come to
short_sized : (n : ℕ) (x : Bound) → n ≤ 1536 → SizedBy n x → ShortBound x
short_sized n Least h s = tt
short_sized n (Whole a) h s = omega arith
short_sized n Greatest h s = tt

short_pair : (n : ℕ) (o : Option (Bound × Bound)) → n ≤ 1536 → SizedPair n o → ShortPair o
short_pair n None h s = tt
short_pair n (Some i) h s = (short_sized n i.0 h s.0, short_sized n i.1 h s.1)

short_reached : (bs : List ℕ) (g : Graph) → Verdict bs (drawn g) → (k : ℕ) (y : List Bound) → ComesAfter bounds (bound_book g) k y → (p x : ℕ) → ShortPair (interval g y p x)
short_reached bs g v k y r p x =
    let well = bound_well g (drawn_well bs g v).1 in
    let h = well.small in
    short_pair (length (bound_book g)) (interval g y p x) (omega arith) (intervals_sized g well k y r p x)

pub reached_read_back : (bs bs' : List ℕ) (g g' : Graph) → Verdict bs (drawn g) → Verdict bs' (drawn g') → (k k' : ℕ) → Short k → Short k' →
    (y y' : List Bound) → ComesAfter bounds (bound_book g) k y → ComesAfter bounds (bound_book g') k' y' → (z z' : List Grade) →
    report_text (report_of g y z k) ≡ report_text (report_of g' y' z' k') → report_of g y z k ≡ report_of g' y' z' k'
reached_read_back bs bs' g g' v v' k k' h h' y y' r r' z z' e =
    text_once (report_of g y z k) (report_of g' y' z' k') (readable bs g v y z (short_reached bs g v k y r) k h) (readable bs' g' v' y' z' (short_reached bs' g' v' k' y' r') k' h') e
