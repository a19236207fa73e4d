-- What a session on a script answers.
use Rattle.std.specs.Prelude.{◌≡◌, ℕ, ◌<◌, ◌≤◌, true, false, cond, ◌⊎◌, List, length, take, Ok, Err, Option, Result}
use Rattle.kinds.specs.Values.{bounds, grades}
use Rattle.kinds.specs.declared.bound.Bound.{Bound}
use Rattle.kinds.specs.declared.grade.Grade.{Grade}
use Rattle.base.specs.Reasons.{number_of, nowhere}
use Rattle.base.specs.declared.Refusal.{Refusal}
use Rattle.base.specs.declared.Reason.TheVariants.{NotThere, NotSettled, ListTooShort}
use Rattle.books.specs.Books.{at}
use Rattle.base.specs.Fronts.{Front}
use Rattle.language_theory.specs.Graphs.{Graph}
use Rattle.script_equations_theory.specs.Bounds.{bound_book, variables_of, is_there}
use Rattle.script_equations_theory.specs.Grades.{grade_at, grade_book}
use Rattle.soundness_theory.specs.Intervals.{interval}
use Rattle.soundness_theory.specs.Findings.{findings}
use Rattle.soundness_theory.specs.Questions.{Told, is_settled}
use Rattle.soundness_theory.specs.Questions.Told.{filled, turned_back}
use Rattle.soundness_theory.specs.declared.Finding.{Finding}

-- the interval of the variable v at the point p, y being the values: 30 where one of them is not there, then 31 where the analysis is not settled
abbrev pub asked_interval : Graph → List Bound → ℕ → ℕ → Result (Option (Bound × Bound)) Refusal
asked_interval g y p v = cond (is_there g p v) (cond (is_settled bounds (bound_book g) y) (Ok (interval g y p v)) (Err (nowhere NotSettled))) (Err (nowhere NotThere))

-- the grade, likewise
abbrev pub asked_grade : Graph → List Grade → ℕ → ℕ → Result Grade Refusal
asked_grade g y p v = cond (is_there g p v) (cond (is_settled grades (grade_book g) y) (Ok (at grades y (grade_at (variables_of g) p v))) (Err (nowhere NotSettled))) (Err (nowhere NotThere))

-- an answer to a question, or the number of the refusal
abbrev pub told_by : {X : Type 0} → (X → Told) → Result X Refusal → Told
told_by f (Ok x) = f x
told_by f (Err e) = turned_back (number_of e.reason)

-- the findings, n of them, stand at the front of the list es', which was es before; what lies behind stays
pub record FilledIn (g : Graph) (y : List Bound) (es es' : List Finding) (n : ℕ) : Type 0 where
  pub settled : is_settled bounds (bound_book g) y ≡ true
  pub room : n ≤ length es
  pub front : Front (findings g y) es es' n

-- they do not: 31, the analysis is not settled; or else 33, the list is too short; and nothing in it has changed
pub record NotFilled (g : Graph) (y : List Bound) (es es' : List Finding) (e : Refusal) : Type 0 where
  pub why : ((is_settled bounds (bound_book g) y ≡ false) × (e ≡ nowhere NotSettled)) ⊎ ((is_settled bounds (bound_book g) y ≡ true) × (length es < length (findings g y)) × (e ≡ nowhere ListTooShort))
  pub same : es' ≡ es

-- what is told of that: the entries filled
abbrev pub told_findings : List Finding → Result ℕ Refusal → Told
told_findings es' r = told_by (λ n. filled (take n es')) r
