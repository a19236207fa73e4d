-- The books of a graph that fits are well formed.
use Rattle.std.proofs.Common.{◌≡◌, ℕ, zero, suc, ◌/◌, ◌%◌, ◌<◌, ◌≤◌, true, cond, List, [], ◌∷◌, map, length, get_or, Contains, ℤ, pos, negsuc, neg_ℤ, unsigned_abs, nat_le, eqb, Some, sym, refl, subst, ⊎_elim, arith}
use Rattle.std.specs.List.{range_with_len}
use Rattle.std.proofs.lemmas.Bool.{cases_lt, le-leb}
use Rattle.std.proofs.lemmas.List.{length-map}
use Rattle.std.proofs.lemmas.Nat.{mod_below, mul-le}
use Rattle.kinds.specs.Limits.{most_unknowns, most_alternatives}
use Rattle.kinds.specs.Kinds.{Ops}
use Rattle.kinds.specs.Values.{small, most_size, bounds, grades}
use Rattle.kinds.specs.declared.bound.Bound.{Bound}
use Rattle.kinds.specs.declared.bound.Bound.TheVariants.{Least, Whole}
use Rattle.kinds.specs.declared.grade.Grade.{Grade}
use Rattle.kinds.specs.declared.grade.Grade.TheVariants as grade
use Rattle.kinds.specs.declared.grade.NoWeight.{NoWeight}
use Rattle.kinds.specs.declared.grade.NoWeight.TheVariants.{Zero}
use Rattle.books.specs.Books.{nth}
use Rattle.books.specs.Forms.{constant, Among, Threshold, WellTest, WellTerm, WellAlternative, Well}
use Rattle.books.specs.Forms.Among.{only, first, second}
use Rattle.books.specs.declared.Term.{Term}
use Rattle.books.specs.declared.Term.TheVariants.{Constant, Shifted}
use Rattle.books.specs.declared.Terms.{Terms}
use Rattle.books.specs.declared.Terms.TheVariants.{One, Two}
use Rattle.books.specs.declared.Alternative.{Alternative}
use Rattle.books.proofs.Worth.{no_option}
use Rattle.books.proofs.Rows.{rows_long, row_inside, row_past}
use Rattle.language_theory.specs.Graphs.{Graph, range, incoming}
use Rattle.language_theory.specs.WellFormed.{ConstantFits, ValueFits, GuardFits, ActionFits, WellFormed}
use Rattle.language_theory.specs.declared.Source.{Source}
use Rattle.language_theory.specs.declared.Source.TheVariants.{Written, Sensed, Heard}
use Rattle.language_theory.specs.declared.Action.{Action}
use Rattle.language_theory.specs.declared.Action.TheVariants.{Skip, Assign, Assume}
use Rattle.language_theory.specs.declared.Guard.{Guard}
use Rattle.language_theory.specs.declared.Guard.TheVariants.{AtMost, AtLeast, Difference}
use Rattle.language_theory.specs.declared.Value.{Value}
use Rattle.language_theory.specs.declared.Value.TheVariants.{AnyOf, TableEntry, Sum, Negation}
use Rattle.language_theory.specs.declared.Edge.{Edge}
use Rattle.script_equations_theory.specs.Bounds.{as_is, copied, upper, lower, given, limited, can_hold, upper_assigned, upper_assumed, upper_of, lower_assigned, lower_assumed, lower_of, variables_of, uppers, lowers, bound_unknown, bound_book}
use Rattle.script_equations_theory.specs.Grades.{grade_at, grade_copied, source_grade, grade_assigned, grade_of, grade_unknown, grade_book}
use Rattle.script_equations_theory.proofs.Lists.{by_eq, in_either, contains_none, nth_contains, all_incoming}
use Rattle.script_equations_theory.proofs.Places.{none_of, bound_count, grade_count, upper_below, lower_below, grade_below}

-- a constant of a graph is of the size that books allow
pub small_const : (c : ℤ) → ConstantFits c → small c ≡ true
small_const (pos n) h = le-leb n most_size h
small_const (negsuc n) h = le-leb (suc n) most_size h

-- a constant negated is of allowed size too
same_size : (c : ℤ) → unsigned_abs (neg_ℤ c) ≡ unsigned_abs c
same_size (pos zero) = refl
same_size (pos (suc n)) = refl
same_size (negsuc n) = refl

pub small_minus : (c : ℤ) → small c ≡ true → small (neg_ℤ c) ≡ true
small_minus c h = subst (λ (z : ℕ). nat_le z most_size ≡ true) (sym (same_size c)) h

-- no whole number is least
whole_above : (c : ℤ) → Whole c ≡ Least → ⊥
whole_above c e = cc

whole_fits : (c : ℤ) → small c ≡ true → Threshold bounds (Whole c)
whole_fits c h = (h, whole_above c)

module _ {V W : Type 0} (o : Ops V W) (n : ℕ) where
  pub well_one : (s : Term V W) → WellTerm o n s → (t : Term V W) → Among t (One s) → WellTerm o n t
  well_one s h t only = h

  pub well_two : (s r : Term V W) → WellTerm o n s → WellTerm o n r → (t : Term V W) → Among t (Two s r) → WellTerm o n t
  well_two s r h k t first = h
  well_two s r h k t second = k

  well_case : (v k : ℕ) (a b : Alternative V W) → WellAlternative o n a → WellAlternative o n b → WellAlternative o n (cond (eqb v k) a b)
  well_case v k a b p q = by_eq (WellAlternative o n) v k a b (λ e. p) (λ e. q)

  -- the only alternative of point 0
  well_constant : (c : V) → Threshold o c → (a : Alternative V W) → Contains (constant c ∷ []) a → WellAlternative o n a
  well_constant c w a i = in_either (WellAlternative o n) (constant c) [] a (record { test = tt; each = well_one (Constant c) w }) (λ j. absurd (contains_none a j)) i

-- where an edge begins at p, the alternatives of the variable v are well formed
module _ (g : Graph) (p v : ℕ) (hp : p < g.points) (hv : v < variables_of g) where
  place_u : (i : ℕ) → i < variables_of g → (c : ℤ) → small c ≡ true → WellTerm bounds (bound_count g) (Shifted (upper (variables_of g) p i) c)
  place_u i h c s = (upper_below g p i hp h, s)

  place_l : (i : ℕ) → i < variables_of g → (c : ℤ) → small c ≡ true → WellTerm bounds (bound_count g) (Shifted (lower (variables_of g) p i) c)
  place_l i h c s = (lower_below g p i hp h, s)

  copy_u : (i : ℕ) → i < variables_of g → WellAlternative bounds (bound_count g) (copied (upper (variables_of g) p i))
  copy_u i h = record { test = tt; each = well_one bounds (bound_count g) (as_is (upper (variables_of g) p i)) (place_u i h (pos 0) refl) }

  copy_l : (i : ℕ) → i < variables_of g → WellAlternative bounds (bound_count g) (copied (lower (variables_of g) p i))
  copy_l i h = record { test = tt; each = well_one bounds (bound_count g) (as_is (lower (variables_of g) p i)) (place_l i h (pos 0) refl) }

  given_well : (k : ℕ) → k < variables_of g → (c : ℤ) → small c ≡ true → WellAlternative bounds (bound_count g) (given (variables_of g) p k c)
  given_well k h c s = record { test = (upper_below g p k hp h, lower_below g p k hp h, whole_fits (pos 0) refl); each = well_one bounds (bound_count g) (Constant (Whole c)) (whole_fits c s) }

  abbrev WellTerms : Terms Bound ℤ → Type 0
  WellTerms ts = (t : Term Bound ℤ) → Among t ts → WellTerm bounds (bound_count g) t

  limited_well : (k u : ℕ) (r : Term Bound ℤ) → WellTerm bounds (bound_count g) (as_is u) → WellTerm bounds (bound_count g) r → WellTerms (limited (eqb v k) u r)
  limited_well k u r a b = by_eq WellTerms v k (Two (as_is u) r) (One (as_is u)) (λ e. well_two bounds (bound_count g) (as_is u) r a b) (λ e. well_one bounds (bound_count g) (as_is u) a)

  can_hold_well : (x : Guard) → GuardFits (variables_of g) x → WellTest bounds (bound_count g) (can_hold (variables_of g) p x)
  can_hold_well (AtMost i c) f = (lower_below g p i hp f.0, whole_fits (neg_ℤ c) (small_minus c (small_const c f.1)))
  can_hold_well (AtLeast i c) f = (upper_below g p i hp f.0, whole_fits c (small_const c f.1))
  can_hold_well (Difference i k d) f = (lower_below g p i hp f.0, upper_below g p k hp f.1, whole_fits (neg_ℤ d) (small_minus d (small_const d f.3)))

  upper_assigned_well : (k : ℕ) → k < variables_of g → (x : Value) → ValueFits (variables_of g) x → WellAlternative bounds (bound_count g) (upper_assigned (variables_of g) p k x)
  upper_assigned_well k h (AnyOf r s) f = given_well k h r.high (small_const r.high f.high)
  upper_assigned_well k h (TableEntry i r) f = given_well k h r.high (small_const r.high f.1.high)
  upper_assigned_well k h (Sum i c) f = record { test = tt; each = well_one bounds (bound_count g) _ (place_u i f.0 c (small_const c f.1)) }
  upper_assigned_well k h (Negation i) f = copy_l i f

  upper_assumed_well : (x : Guard) → GuardFits (variables_of g) x → WellTerms (upper_assumed (variables_of g) p v x)
  upper_assumed_well (AtMost i c) f = limited_well i (upper (variables_of g) p v) (Constant (Whole c)) (place_u v hv (pos 0) refl) (whole_fits c (small_const c f.1))
  upper_assumed_well (AtLeast i c) f = (copy_u v hv).each
  upper_assumed_well (Difference i k d) f = limited_well i (upper (variables_of g) p v) (Shifted (upper (variables_of g) p k) d) (place_u v hv (pos 0) refl) (place_u k f.1 d (small_const d f.3))

  pub upper_fine : (a : Action) → ActionFits (variables_of g) a → WellAlternative bounds (bound_count g) (upper_of (variables_of g) p v a)
  upper_fine Skip f = copy_u v hv
  upper_fine (Assign k x) f = well_case bounds (bound_count g) v k _ _ (upper_assigned_well k f.0 x f.1) (copy_u v hv)
  upper_fine (Assume x) f = record { test = can_hold_well x f; each = upper_assumed_well x f }

  lower_assigned_well : (k : ℕ) → k < variables_of g → (x : Value) → ValueFits (variables_of g) x → WellAlternative bounds (bound_count g) (lower_assigned (variables_of g) p k x)
  lower_assigned_well k h (AnyOf r s) f = given_well k h (neg_ℤ r.low) (small_minus r.low (small_const r.low f.low))
  lower_assigned_well k h (TableEntry i r) f = given_well k h (neg_ℤ r.low) (small_minus r.low (small_const r.low f.1.low))
  lower_assigned_well k h (Sum i c) f = record { test = tt; each = well_one bounds (bound_count g) _ (place_l i f.0 (neg_ℤ c) (small_minus c (small_const c f.1))) }
  lower_assigned_well k h (Negation i) f = copy_u i f

  lower_assumed_well : (x : Guard) → GuardFits (variables_of g) x → WellTerms (lower_assumed (variables_of g) p v x)
  lower_assumed_well (AtMost i c) f = (copy_l v hv).each
  lower_assumed_well (AtLeast i c) f = limited_well i (lower (variables_of g) p v) (Constant (Whole (neg_ℤ c))) (place_l v hv (pos 0) refl) (whole_fits (neg_ℤ c) (small_minus c (small_const c f.1)))
  lower_assumed_well (Difference i k d) f = limited_well k (lower (variables_of g) p v) (Shifted (lower (variables_of g) p i) d) (place_l v hv (pos 0) refl) (place_l i f.0 d (small_const d f.3))

  pub lower_fine : (a : Action) → ActionFits (variables_of g) a → WellAlternative bounds (bound_count g) (lower_of (variables_of g) p v a)
  lower_fine Skip f = copy_l v hv
  lower_fine (Assign k x) f = well_case bounds (bound_count g) v k _ _ (lower_assigned_well k f.0 x f.1) (copy_l v hv)
  lower_fine (Assume x) f = record { test = can_hold_well x f; each = lower_assumed_well x f }

-- the same for grades
source_above : (s : Source) → source_grade s ≡ grade.Unreached → ⊥
source_above Written e = cc
source_above Sensed e = cc
source_above Heard e = cc

module _ (g : Graph) (p v : ℕ) (hp : p < g.points) (hv : v < variables_of g) where
  grade_copy : (i : ℕ) → i < variables_of g → WellAlternative grades (grade_count g) (grade_copied (grade_at (variables_of g) p i))
  grade_copy i h = record { test = tt; each = well_one grades (grade_count g) (Shifted (grade_at (variables_of g) p i) Zero) (grade_below g p i hp h, refl) }

  grade_assigned_well : (k : ℕ) → k < variables_of g → (x : Value) → ValueFits (variables_of g) x → WellAlternative grades (grade_count g) (grade_assigned (variables_of g) p k x)
  grade_assigned_well k h (AnyOf r s) f = record { test = (grade_below g p k hp h, (refl, source_above Written)); each = well_one grades (grade_count g) (Constant (source_grade s)) (refl, source_above s) }
  grade_assigned_well k h (TableEntry i r) f = grade_copy i f.0
  grade_assigned_well k h (Sum i c) f = grade_copy i f.0
  grade_assigned_well k h (Negation i) f = grade_copy i f

  pub grade_fine : (a : Action) → ActionFits (variables_of g) a → WellAlternative grades (grade_count g) (grade_of (variables_of g) p v a)
  grade_fine Skip f = grade_copy v hv
  grade_fine (Assign k x) f = well_case grades (grade_count g) v k _ _ (grade_assigned_well k f.0 x f.1) (grade_copy v hv)
  grade_fine (Assume x) f = grade_copy v hv

-- a book that is made by a function of the unknown
module _ {V W : Type 0} (o : Ops V W) (n : ℕ) (f : ℕ → List (Alternative V W)) (fine : (u : ℕ) → u < n → (a : Alternative V W) → Contains (f u) a → WellAlternative o n a)
    (few : (u : ℕ) → length (f u) ≤ most_alternatives) where
  row_fine : (u k : ℕ) (a : Alternative V W) → nth (get_or (map f (range_with_len 0 n)) u []) k ≡ Some a → WellAlternative o n a
  row_fine u k a e =
      ⊎_elim (λ (h : u < n). fine u h a (nth_contains (f u) k a (subst (λ (l : List (Alternative V W)). nth l k ≡ Some a) (row_inside f n u h) e)))
      (λ (h : n ≤ u). absurd (no_option (subst (λ (l : List (Alternative V W)). nth l k ≡ Some a) (row_past f n u h) e))) (cases_lt u n)

  row_few : (u : ℕ) → length (get_or (map f (range_with_len 0 n)) u []) ≤ most_alternatives
  row_few u =
      ⊎_elim (λ (h : u < n). subst (λ (l : List (Alternative V W)). length l ≤ most_alternatives) (sym (row_inside f n u h)) (few u))
      (λ (h : n ≤ u). subst (λ (l : List (Alternative V W)). length l ≤ most_alternatives) (sym (row_past f n u h)) (omega arith)) (cases_lt u n)

  rows_well : n ≤ most_unknowns → Well o (map f (range_with_len 0 n))
  rows_well h = record {
    small = let e = rows_long f n in omega arith;
    few = row_few;
    fine = λ u k a e. subst (λ (j : ℕ). WellAlternative o j a) (sym (rows_long f n)) (row_fine u k a e);
  }

module _ (g : Graph) (fits : WellFormed g) where
  places_few : grade_count g ≤ 768
  places_few = mul-le (variables_of g) g.points 8 96 fits.few_variables fits.few_points

  -- a point has few alternatives: one for each edge to it, or its only one
  made_few : {A : Type 0} (c : A) (f : Edge → A) (p : ℕ) → length (cond (eqb p 0) (c ∷ []) (map f (incoming p g.edges))) ≤ most_alternatives
  made_few {A} c f p = by_eq (λ (l : List A). length l ≤ most_alternatives) p 0 (c ∷ []) (map f (incoming p g.edges)) (λ e. omega arith)
      (λ e. let j = fits.joins p in let s = length-map (incoming p g.edges) f in omega arith)

  -- the alternatives of U and of L are well formed
  uppers_fine : (p v : ℕ) → v < variables_of g → (a : Alternative Bound ℤ) → Contains (uppers g p v) a → WellAlternative bounds (bound_count g) a
  uppers_fine p v hv a = by_eq (λ (l : List (Alternative Bound ℤ)). Contains l a → WellAlternative bounds (bound_count g) a) p 0 _ _
      (λ e. well_constant bounds (bound_count g) (Whole (range g v).high) (whole_fits (range g v).high (small_const (range g v).high (fits.ranges v hv).high)) a)
      (λ e. all_incoming (WellAlternative bounds (bound_count g)) (λ (d : Edge). upper_of (variables_of g) d.source v d.action) p g.edges
      (λ d k t. let f = fits.edges d k in upper_fine g d.source v f.source hv d.action f.action) a)

  lowers_fine : (p v : ℕ) → v < variables_of g → (a : Alternative Bound ℤ) → Contains (lowers g p v) a → WellAlternative bounds (bound_count g) a
  lowers_fine p v hv a = by_eq (λ (l : List (Alternative Bound ℤ)). Contains l a → WellAlternative bounds (bound_count g) a) p 0 _ _
      (λ e. well_constant bounds (bound_count g) (Whole (neg_ℤ (range g v).low)) (whole_fits (neg_ℤ (range g v).low) (small_minus (range g v).low (small_const (range g v).low (fits.ranges v hv).low))) a)
      (λ e. all_incoming (WellAlternative bounds (bound_count g)) (λ (d : Edge). lower_of (variables_of g) d.source v d.action) p g.edges
      (λ d k t. let f = fits.edges d k in lower_fine g d.source v f.source hv d.action f.action) a)

  pub bound_fine : (u : ℕ) → u < bound_count g → (a : Alternative Bound ℤ) → Contains (bound_unknown g u) a → WellAlternative bounds (bound_count g) a
  bound_fine u h a = by_eq (λ (l : List (Alternative Bound ℤ)). Contains l a → WellAlternative bounds (bound_count g) a) (u % 2) 0 _ _
      (λ e. uppers_fine (u / 2 / variables_of g) (u / 2 % variables_of g) hv a) (λ e. lowers_fine (u / 2 / variables_of g) (u / 2 % variables_of g) hv a)
    where
      hv : u / 2 % variables_of g < variables_of g
      hv = mod_below (u / 2) (variables_of g) (none_of (variables_of g) g.points (u / 2) (omega arith))

  bound_few : (u : ℕ) → length (bound_unknown g u) ≤ most_alternatives
  bound_few u = by_eq (λ (l : List (Alternative Bound ℤ)). length l ≤ most_alternatives) (u % 2) 0 _ _ (λ e. made_few _ _ _) (λ e. made_few _ _ _)

  -- the bound book is well formed
  pub bound_well : Well bounds (bound_book g)
  bound_well = rows_well bounds (bound_count g) (bound_unknown g) bound_fine bound_few (let f = places_few in omega arith)

  grades_fine : (u : ℕ) → u < grade_count g → (a : Alternative Grade NoWeight) → Contains (grade_unknown g u) a → WellAlternative grades (grade_count g) a
  grades_fine u h a = by_eq (λ (l : List (Alternative Grade NoWeight)). Contains l a → WellAlternative grades (grade_count g) a) (u / variables_of g) 0 _ _
      (λ e. well_constant grades (grade_count g) grade.Written (refl, source_above Written) a)
      (λ e. all_incoming (WellAlternative grades (grade_count g)) (λ (d : Edge). grade_of (variables_of g) d.source (u % variables_of g) d.action) (u / variables_of g) g.edges
      (λ d k t. let f = fits.edges d k in grade_fine g d.source (u % variables_of g) f.source (mod_below u (variables_of g) (none_of (variables_of g) g.points u h)) d.action f.action) a)

  -- the grade book is well formed
  pub grade_well : Well grades (grade_book g)
  grade_well = rows_well grades (grade_count g) (grade_unknown g) grades_fine (λ u. made_few _ _ _) (let f = places_few in omega arith)
