-- The questions of a script's analyses, besides those of every analysis. They change nothing.
use Rattle.std.specs.Prelude.{ℕ, zero, suc, Bool, true, cond, ◌&&◌, List, length, Option, nat_le}
use Rattle.kinds.specs.Kinds.{Ops}
use Rattle.kinds.specs.Values.{bounds, grades}
use Rattle.kinds.specs.declared.bound.Bound.{Bound}
use Rattle.kinds.specs.declared.grade.Grade.{Grade}
use Rattle.books.specs.Books.{at, right}
use Rattle.books.specs.declared.Alternative.{Alternative}
use Rattle.strategy_theory.specs.Lives.{State}
use Rattle.language_theory.specs.Graphs.{Graph}
use Rattle.script_equations_theory.specs.Bounds.{bound_book, variables_of, is_there}
use Rattle.script_equations_theory.specs.Grades.{grade_at, grade_book}
use Rattle.soundness_theory.specs.Intervals.{interval}
use Rattle.soundness_theory.specs.Findings.{findings}
use Rattle.soundness_theory.specs.declared.Finding.{Finding}

-- f is true of every number below n
abbrev pub all_below : (ℕ → Bool) → ℕ → Bool
all_below f zero = true
all_below f (suc n) = f n && all_below f n

-- whether no right side is greater than its value
abbrev pub is_settled : {V W : Type 0} → Ops V W → List (List (Alternative V W)) → List V → Bool
is_settled o m x = all_below (λ u. o.at_most (right o m x u) (at o x u)) (length m)

-- the interval and the grade of a variable at a point; the findings, into a list of this length
pub data Question : Type 0 where
  interval_of : ℕ → ℕ → Question
  grade_of : ℕ → ℕ → Question
  findings_into : ℕ → Question

-- what is answered: an interval, a grade, the findings, or the number of a refusal
pub data Told : Type 0 where
  shown : Option (Bound × Bound) → Told
  graded : Grade → Told
  filled : List Finding → Told
  turned_back : ℕ → Told

-- What bounds answer. 30: the point or the variable is not there; 31: not settled; 33: the list is shorter than the findings. There are no grades to ask for.
abbrev pub ask : Graph → State Bound → Question → Told
ask g s (interval_of p v) = cond (is_there g p v) (cond (is_settled bounds (bound_book g) s.values) (shown (interval g s.values p v)) (turned_back 31)) (turned_back 30)
ask g s (grade_of p v) = turned_back 30
ask g s (findings_into n) = cond (is_settled bounds (bound_book g) s.values) (cond (nat_le (length (findings g s.values)) n) (filled (findings g s.values)) (turned_back 33)) (turned_back 31)

-- What grades answer. There are no intervals and no findings to ask for.
abbrev pub ask_grades : Graph → State Grade → Question → Told
ask_grades g s (interval_of p v) = turned_back 30
ask_grades g s (grade_of p v) = cond (is_there g p v) (cond (is_settled grades (grade_book g) s.values) (graded (at grades s.values (grade_at (variables_of g) p v))) (turned_back 31)) (turned_back 30)
ask_grades g s (findings_into n) = turned_back 30
