-- A point that is reached has a grade for each variable: along an edge from a point where all variables have grades all get grades, so the bounds of all other points are least.
use Rattle.std.proofs.Common.{◌≡◌, ℕ, ◌<◌, Bool, true, false, cond, eqb, List, [], Contains, sym, ap, ◌∙◌, subst, ⊎_elim}
use Rattle.std.proofs.lemmas.Bool.{cases_Bool, false≢true}
use Rattle.kinds.specs.Values.{bounds, grades, up_to}
use Rattle.kinds.specs.Laws.{bounds_laws, grades_laws}
use Rattle.kinds.specs.declared.bound.Bound.{Bound}
use Rattle.kinds.specs.declared.grade.Grade.{Grade}
use Rattle.kinds.specs.declared.grade.Grade.TheVariants.{Unreached, Written}
use Rattle.kinds.specs.declared.grade.NoWeight.{NoWeight}
use Rattle.books.specs.Books.{at, worth, HoldsUp}
use Rattle.books.specs.Forms.{constant}
use Rattle.books.specs.declared.Alternative.{Alternative}
use Rattle.books.proofs.Worth.{no_option}
use Rattle.strategy_theory.specs.Theory.{Below}
use Rattle.language_theory.specs.Graphs.{Graph}
use Rattle.language_theory.specs.Names.{Verdict}
use Rattle.language_theory.specs.Names.Outcome.{drawn}
use Rattle.language_theory.specs.declared.Action.{Action}
use Rattle.language_theory.specs.declared.Action.TheVariants.{Skip, Assign, Assume}
use Rattle.language_theory.specs.declared.Value.{Value}
use Rattle.language_theory.specs.declared.Value.TheVariants.{AnyOf, TableEntry, Sum, Negation}
use Rattle.language_theory.specs.declared.Edge.{Edge}
use Rattle.language_theory.specs.WellFormed.{ValueFits, ActionFits, WellFormed}
use Rattle.language_theory.proofs.Verdicts.{drawn_well}
use Rattle.script_equations_theory.specs.Bounds.{lower, variables_of, bound_book}
use Rattle.script_equations_theory.specs.Grades.{grade_at, grade_copied, source_grade, grade_of, grade_book, grade_assigned}
use Rattle.script_equations_theory.proofs.Lists.{by_eq, contains_first}
use Rattle.script_equations_theory.proofs.Forms.{bound_well, grade_well}
use Rattle.soundness_theory.specs.Intervals.{ends}
use Rattle.soundness_theory.specs.Questions.{all_below}
use Rattle.soundness_theory.proofs.Settling.{all_out, all_in}
use Rattle.soundness_theory.proofs.Passing.{Blocked, blocked}
use Rattle.soundness_theory.proofs.Sources.{over, over_edge, source_given}
use Rattle.soundness_theory.proofs.Outside.{without, upper_not, lower_not, least_outside}
use Rattle.report_theory.specs.Grading.{HaveGrades, Graded}
use Rattle.report_theory.proofs.Ends.{settled_least}

module _ (g : Graph) (z : List Grade) where
  -- whether v has a grade at p
  abbrev has_grade : ℕ → ℕ → Bool
  has_grade p v = up_to Written (at grades z (grade_at (variables_of g) p v))

  -- whether all variables have one
  abbrev all_graded : ℕ → Bool
  all_graded p = all_below (has_grade p) (variables_of g)

  -- where one has none, not all have one
  not_all : (p v : ℕ) → v < variables_of g → at grades z (grade_at (variables_of g) p v) ≡ Unreached → all_graded p ≡ false
  not_all p v hv e = ⊎_elim
      (λ (h : all_graded p ≡ true). absurd (false≢true (sym (ap (λ (x : Grade). up_to Written x) e) ∙ all_out (has_grade p) (variables_of g) h v hv)))
      (λ (h : all_graded p ≡ false). h) (cases_Bool (all_graded p))

  -- what an edge makes of variables that all have grades has a grade
  module _ (q : ℕ) (all : (v : ℕ) → v < variables_of g → has_grade q v ≡ true) where
    abbrev Carries : Alternative Grade NoWeight → Type 0
    Carries a = up_to Written (worth grades z a) ≡ true

    sets : (k v : ℕ) (a : Alternative Grade NoWeight) → Carries a → v < variables_of g → Carries (cond (eqb v k) a (grade_copied (grade_at (variables_of g) q v)))
    sets k v a c hv = by_eq Carries v k a (grade_copied (grade_at (variables_of g) q v)) (λ e. c) (λ e. all v hv)

    value_carries : (k : ℕ) → k < variables_of g → (x : Value) → ValueFits (variables_of g) x → Carries (grade_assigned (variables_of g) q k x)
    value_carries k h (AnyOf r s) f = subst (λ (b : Bool). up_to Written (cond b (source_grade s) Unreached) ≡ true) (sym (all k h)) (source_given s)
    value_carries k h (TableEntry i r) f = all i f.0
    value_carries k h (Sum i c) f = all i f.0
    value_carries k h (Negation i) f = all i f

    carries : (a : Action) → ActionFits (variables_of g) a → (v : ℕ) → v < variables_of g → Carries (grade_of (variables_of g) q v a)
    carries Skip f v hv = all v hv
    carries (Assign k x) f v hv = sets k v (grade_assigned (variables_of g) q k x) (value_carries k f.0 x f.1) hv
    carries (Assume b) f v hv = all v hv

  module _ (fits : WellFormed g) (up : HoldsUp grades (grade_book g) z) where
    -- all variables have grades at the first point
    first : all_graded 0 ≡ true
    first = all_in (has_grade 0) (variables_of g) (λ v hv. over g fits z up 0 v fits.first hv (constant Written) (contains_first (constant Written) []))

    -- and where an edge leads from a point where all have grades
    module _ (e : Edge) (i : Contains g.edges e) where
      closed : all_graded e.source ≡ true → all_graded e.target ≡ true
      closed h = let fit = fits.edges e i in all_in (has_grade e.target) (variables_of g)
          (λ v hv. grades_laws.transitive Written (worth grades z (grade_of (variables_of g) e.source v e.action)) (at grades z (grade_at (variables_of g) e.target v))
          (carries e.source (all_out (has_grade e.source) (variables_of g) h) e.action fit.action v hv)
          (over_edge g fits z up e i v hv))

    -- with the values of all other points taken out no edge carries anything to one of them
    module _ (y : List Bound) (e : Edge) (i : Contains g.edges e) (f : all_graded e.target ≡ false) where
      none : all_graded e.source ≡ false
      none = ⊎_elim (λ (h : all_graded e.source ≡ true). absurd (false≢true (sym f ∙ closed e i h))) (λ (h : all_graded e.source ≡ false). h) (cases_Bool (all_graded e.source))

      halted : Blocked (variables_of g) (without g all_graded y) e.source e.action
      halted =
          let fit = fits.edges e i in
          blocked (variables_of g) (without g all_graded y) e.source
          (λ v hv. upper_not g all_graded y e.source v fit.source hv none) (λ v hv. lower_not g all_graded y e.source v fit.source hv none) e.action fit.action

    -- for the least bounds
    have_grades : (y : List Bound) → HoldsUp bounds (bound_book g) y → ((x : List Bound) → HoldsUp bounds (bound_book g) x → Below bounds y x) → HaveGrades g y z
    have_grades y h least p v hp hv i there e =
        let low = (least_outside g all_graded y fits first (halted y) h least p v hp hv (not_all p v hv e)).0 in
        no_option (sym (ap (λ (b : Bound). ends b (at bounds y (lower (variables_of g) p v))) low) ∙ there)

pub graded : (bs : List ℕ) (g : Graph) → Verdict bs (drawn g) → Graded g
graded bs g d k j y z s t =
    let fits = (drawn_well bs g d).1 in
    let b = settled_least bounds bounds_laws (bound_book g) (bound_well g fits) k y s in
    let r = settled_least grades grades_laws (grade_book g) (grade_well g fits) j z t in
    have_grades g z fits (record { long = r.solves.long; under = t.settled }) y (record { long = b.solves.long; under = s.settled }) b.below
