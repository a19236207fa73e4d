-- Every run has sources, and grades that hold up are at least those of its values.
use Rattle.std.proofs.Common.{◌≡◌, ℕ, ◌<◌, Bool, false, cond, eqb, List, [], ◌∷◌, length, map, replicate, set, Contains, ℤ, sym, refl, ap, ◌∙◌, subst, ne_eqb, arith}
use Rattle.std.proofs.lemmas.List.{length-set, length-replicate, get_or-replicate, get_or-set_same, get_or-set_other}
use Rattle.kinds.specs.Values.{grades}
use Rattle.kinds.specs.Laws.{grades_laws}
use Rattle.kinds.specs.declared.grade.Grade.{Grade}
use Rattle.kinds.specs.declared.grade.Grade.TheVariants.{Unreached, Written}
use Rattle.kinds.specs.declared.grade.NoWeight.{NoWeight}
use Rattle.books.specs.Books.{at, worth, best, right, HoldsUp}
use Rattle.books.specs.Forms.{constant}
use Rattle.books.specs.declared.Alternative.{Alternative}
use Rattle.books.proofs.Order.{Le, le_of_eq}
use Rattle.language_theory.specs.Graphs.{Graph, incoming}
use Rattle.language_theory.specs.WellFormed.{ValueFits, ActionFits, WellFormed}
use Rattle.language_theory.specs.declared.Source.{Source}
use Rattle.language_theory.specs.declared.Source.TheVariants as source
use Rattle.language_theory.specs.declared.Action.{Action}
use Rattle.language_theory.specs.declared.Action.TheVariants.{Skip, Assign, Assume}
use Rattle.language_theory.specs.declared.Value.{Value}
use Rattle.language_theory.specs.declared.Value.TheVariants.{AnyOf, TableEntry, Sum, Negation}
use Rattle.language_theory.specs.declared.Edge.{Edge}
use Rattle.script_equations_theory.specs.Bounds.{variables_of}
use Rattle.script_equations_theory.specs.Grades.{grade_at, grade_copied, source_grade, grade_assigned, grade_of, grades_at, grade_book}
use Rattle.script_equations_theory.proofs.Lists.{by_eq, contains_first, in_incoming, in_best}
use Rattle.script_equations_theory.proofs.Places.{grade_book_long, grade_below, grade_stands}
use Rattle.soundness_theory.specs.Runs.{Run}
use Rattle.soundness_theory.specs.Runs.Run.{begins, goes}
use Rattle.soundness_theory.specs.Sources.{from, value_source, traced, Traced, run_of, GradesTell}
use Rattle.soundness_theory.specs.Sources.Traced.{starts, follows}

-- the order of grades
infix 40 ◌≼◌
abbrev ◌≼◌ : Grade → Grade → Type 0
a ≼ b = Le grades a b

-- the sources of a run
tracked : (g : Graph) (p : ℕ) (x : List ℤ) (r : Run g p x) → (s : List Grade) × (t : Traced g p x s) × (run_of t ≡ r)
tracked g _ _ (begins l w) = (replicate (length g.variables) Written, starts l w, refl)
tracked g _ _ (goes {x' = x'} e r i d) = let h = tracked g e.source _ r in (traced e.action h.0, follows e h.1 i d, ap (λ (q : Run g e.source _). goes {x' = x'} e q i d) h.2)

-- the grade of a source is at least Written
pub source_given : (c : Source) → Written ≼ source_grade c
source_given source.Written = refl
source_given source.Sensed = refl
source_given source.Heard = refl

-- what holds of a new source of k, and of the others as they were
changed : {X : Type 0} (R : Grade → X → Type 0) (s : List Grade) (k v : ℕ) (t : Grade) (a b : X) → k < length s → R t a → R (from s v) b → R (from (set s k t) v) (cond (eqb v k) a b)
changed {X} R s k v t a b h p q = by_eq (λ (y : X). R (from (set s k t) v) y) v k a b
    (λ e. subst (λ (c : Grade). R c a) (sym (ap (λ (j : ℕ). from (set s k t) j) e ∙ get_or-set_same s k t Unreached h)) p)
    (λ f. subst (λ (c : Grade). R c b) (sym (get_or-set_other s k v t Unreached f)) q)

-- each of n variables has a source
record Given (n : ℕ) (s : List Grade) : Type 0 where
  long : length s ≡ n
  each : (v : ℕ) → v < n → Written ≼ from s v

module _ (n : ℕ) (s : List Grade) (w : Given n s) where
  given_set : (k : ℕ) (t : Grade) → k < n → Written ≼ t → Given n (set s k t)
  given_set k t h p = record {
    long = length-set s k t ∙ w.long;
    each = λ v hv. changed (λ (a b : Grade). Written ≼ a) s k v t t (from s v) (subst (λ (j : ℕ). k < j) (sym w.long) h) p (w.each v hv);
  }

  -- behind an edge
  value_given : (x : Value) → ValueFits n x → Written ≼ value_source x s
  value_given (AnyOf r c) f = source_given c
  value_given (TableEntry i r) f = w.each i f.0
  value_given (Sum i c) f = w.each i f.0
  value_given (Negation i) f = w.each i f

  given_behind : (a : Action) → ActionFits n a → Given n (traced a s)
  given_behind Skip f = w
  given_behind (Assign k x) f = given_set k (value_source x s) f.0 (value_given x f.1)
  given_behind (Assume g) f = w

  -- where the grades z at the point p are at least the sources, each alternative of an edge from there is at least the source behind it
  module _ (z : List Grade) (p : ℕ) (u : (v : ℕ) → v < n → from s v ≼ at grades z (grade_at n p v)) where
    under_set : (k v : ℕ) (t : Grade) (a : Alternative Grade NoWeight) → k < n → v < n → t ≼ worth grades z a → from (set s k t) v ≼ worth grades z (cond (eqb v k) a (grade_copied (grade_at n p v)))
    under_set k v t a h hv q =
        changed (λ (b : Grade) (c : Alternative Grade NoWeight). b ≼ worth grades z c) s k v t a (grade_copied (grade_at n p v)) (subst (λ (j : ℕ). k < j) (sym w.long) h) q (u v hv)

    -- a point where a run stands is reached
    reached_at : (v : ℕ) → v < n → Written ≼ at grades z (grade_at n p v)
    reached_at v h = grades_laws.transitive Written (from s v) (at grades z (grade_at n p v)) (w.each v h) (u v h)

    under_value : (k : ℕ) → k < n → (x : Value) → ValueFits n x → value_source x s ≼ worth grades z (grade_assigned n p k x)
    under_value k h (AnyOf r c) f = subst (λ (b : Bool). source_grade c ≼ cond b (source_grade c) Unreached) (sym (reached_at k h)) (grades_laws.reflexive (source_grade c))
    under_value k h (TableEntry i r) f = u i f.0
    under_value k h (Sum i c) f = u i f.0
    under_value k h (Negation i) f = u i f

    under_behind : (a : Action) → ActionFits n a → (v : ℕ) → v < n → from (traced a s) v ≼ worth grades z (grade_of n p v a)
    under_behind Skip f v hv = u v hv
    under_behind (Assign k x) f v hv = under_set k v (value_source x s) (grade_assigned n p k x) f.0 hv (under_value k f.0 x f.1)
    under_behind (Assume g) f v hv = u v hv

module _ (g : Graph) (fits : WellFormed g) where
  given : {p : ℕ} {x : List ℤ} {s : List Grade} → Traced g p x s → Given (variables_of g) s
  given (starts l w) = record {
    long = length-replicate (variables_of g) Written;
    each = λ v h. le_of_eq grades grades_laws (sym (get_or-replicate (variables_of g) v Written Unreached h));
  }
  given (follows {s = s} e t i d) = given_behind (variables_of g) s (given t) e.action (fits.edges e i).action

  module _ (z : List Grade) (up : HoldsUp grades (grade_book g) z) where
    -- what holds up lies at or above its alternatives, so above those of each edge
    pub over : (p v : ℕ) → p < g.points → v < variables_of g → (a : Alternative Grade NoWeight) → Contains (grades_at g p v) a → worth grades z a ≼ at grades z (grade_at (variables_of g) p v)
    over p v hp hv a i = grades_laws.transitive (worth grades z a) (right grades (grade_book g) z (grade_at (variables_of g) p v)) (at grades z (grade_at (variables_of g) p v))
        (subst (λ (l : List (Alternative Grade NoWeight)). worth grades z a ≼ best grades z l) (sym (grade_stands g p v hp hv)) (in_best grades grades_laws z a (grades_at g p v) i))
        (up.under (grade_at (variables_of g) p v) (subst (λ (j : ℕ). grade_at (variables_of g) p v < j) (sym (grade_book_long g)) (grade_below g p v hp hv)))

    module _ (e : Edge) (i : Contains g.edges e) where
      later : eqb e.target 0 ≡ false
      later = let h = (fits.edges e i).not_first in ne_eqb e.target 0 (λ (t : e.target ≡ 0). omega arith)

      pub over_edge : (v : ℕ) → v < variables_of g → worth grades z (grade_of (variables_of g) e.source v e.action) ≼ at grades z (grade_at (variables_of g) e.target v)
      over_edge v hv = over e.target v (fits.edges e i).target hv (grade_of (variables_of g) e.source v e.action)
          (subst (λ (b : Bool). Contains (cond b (constant Written ∷ []) (map (λ (d : Edge). grade_of (variables_of g) d.source v d.action) (incoming e.target g.edges))) (grade_of (variables_of g) e.source v e.action))
          (sym later) (in_incoming (λ (d : Edge). grade_of (variables_of g) d.source v d.action) e g.edges i))

    under : {p : ℕ} {x : List ℤ} {s : List Grade} → Traced g p x s → (v : ℕ) → v < variables_of g → from s v ≼ at grades z (grade_at (variables_of g) p v)
    under (starts l w) v h = subst (λ (a : Grade). a ≼ at grades z (grade_at (variables_of g) 0 v)) (sym (get_or-replicate (variables_of g) v Written Unreached h))
        (over 0 v fits.first h (constant Written) (contains_first (constant Written) []))
    under (follows {s = s} e t i d) v h = grades_laws.transitive (from (traced e.action s) v) (worth grades z (grade_of (variables_of g) e.source v e.action)) (at grades z (grade_at (variables_of g) e.target v))
        (under_behind (variables_of g) s (given t) z e.source (under t) e.action (fits.edges e i).action v h) (over_edge e i v h)

pub grades_tell : (g : Graph) → WellFormed g → GradesTell g
grades_tell g fits = record {
  every = tracked g;
  each = λ p x s t. (given g fits t).each;
  below = λ z up p x s t. under g fits z up t;
}
