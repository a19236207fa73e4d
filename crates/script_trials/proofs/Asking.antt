-- Answers that are not refused.
use Rattle.std.proofs.Common.{◌≡◌, ℕ, ◌/◌, ◌%◌, Bool, true, List, Result, Ok, refl, sym, ap, ◌∙◌, subst}
use Rattle.std.specs.Prelude.{Option}
use Rattle.kinds.specs.Kinds.{Ops}
use Rattle.kinds.specs.Values.{bounds, grades}
use Rattle.kinds.specs.declared.bound.Bound.{Bound}
use Rattle.kinds.specs.declared.grade.Grade.{Grade}
use Rattle.base.specs.declared.Refusal.{Refusal}
use Rattle.books.specs.Books.{at}
use Rattle.books.specs.declared.Alternative.{Alternative}
use Rattle.sessions.specs.Lives.{State, begun}
use Rattle.report.specs.Laws.{SettlesAfter}
use Rattle.language_theory.specs.Graphs.{Graph}
use Rattle.sessions.specs.Bounds.{bound_book, variables_of, is_there}
use Rattle.sessions.specs.Grades.{grade_at, grade_book}
use Rattle.soundness_theory.specs.Intervals.{interval}
use Rattle.soundness_theory.specs.Questions.{is_settled}
use Rattle.reference.specs.declared.extended.Extended.{Extended}
use Rattle.reference.specs.declared.interval.Interval.{Interval}
use Rattle.reference.specs.declared.results.AbstractValue.{AbstractValue}
use Rattle.reference.specs.Readings.{grade_reading}
use Rattle.script_trials.specs.Sessions.{interval_of, value_numbered}
use Rattle.sessions.specs.Answers.{asked_interval, asked_grade}
use Rattle.sessions.proofs.Asked.{if_asked}

-- an interval that is answered is the one of the point and the variable, and a grade likewise
pub interval_told : (g : Graph) (y : List Bound) (p v : ℕ) (i : Option (Bound × Bound)) → ◌≡◌ {A = Result (Option (Bound × Bound)) Refusal} (Ok i) (asked_interval g y p v) → i ≡ interval g y p v
interval_told g y p v i e = if_asked (is_there g p v) (is_settled bounds (bound_book g) y) (interval g y p v) (λ j. j ≡ interval g y p v) (λ _ _. refl) (Ok i) e

pub grade_told : (g : Graph) (z : List Grade) (p v : ℕ) (i : Grade) → ◌≡◌ {A = Result Grade Refusal} (Ok i) (asked_grade g z p v) → i ≡ at grades z (grade_at (variables_of g) p v)
grade_told g z p v i e = if_asked (is_there g p v) (is_settled grades (grade_book g) z) (at grades z (grade_at (variables_of g) p v)) (λ j. j ≡ at grades z (grade_at (variables_of g) p v)) (λ _ _. refl) (Ok i) e

-- what is known of a run of a session, told of the book itself: the session has the book of h, which is that of g
pub settles_on : {G V W : Type 0} (o : Ops V W) (book : G → List (List (Alternative V W))) (k : ℕ) (t : Bool) (x : List V) (s : State V) (h h' g : G) → h ≡ g → h' ≡ h →
    s ≡ begun o (book h) → (s ≡ begun o (book h') → (t ≡ true) × SettlesAfter o (book h') k x) → SettlesAfter o (book g) k x
settles_on {G} o book k t x s h h' g e f b p =
    subst (λ (i : G). SettlesAfter o (book i) k x) (f ∙ e) (p (b ∙ ap (λ (i : G). begun o (book i)) (sym f))).1

-- so is the value of the nth pair, w being the count of variables
pub value_told : (g : Graph) (y : List Bound) (h : Graph) (z : List Grade) (w v n : ℕ) → v ≡ w →
    (i : Option (Bound × Bound)) → ◌≡◌ {A = Result (Option (Bound × Bound)) Refusal} (Ok i) (asked_interval g y (n / v) (n % v)) →
    (r : Grade) → ◌≡◌ {A = Result Grade Refusal} (Ok r) (asked_grade h z (n / v) (n % v)) →
    (a : Interval) → a ≡ interval_of i → (b : Extended) → b ≡ grade_reading r → record { interval = a; grade = b } ≡ value_numbered g y h z w n
value_told g y h z w v n same i p r q a e b f =
    let x : AbstractValue = value_numbered g y h z v n in
    let interval : a ≡ x.interval = e ∙ ap interval_of (interval_told g y (n / v) (n % v) i p) in
    let grade : b ≡ x.grade = f ∙ ap grade_reading (grade_told h z (n / v) (n % v) r q) in
    let there : ◌≡◌ {A = AbstractValue} (record { interval = a; grade = b }) x = λ k. record { interval = interval k; grade = grade k } in
    there ∙ ap (λ (m : ℕ). value_numbered g y h z m n) same
