-- What a session on grades answers when it is asked for one.
use Rattle.std.proofs.Common.{◌≡◌, ℕ, Bool, true, cond, List, length, Ok, Err, Result, sym, ap, ◌∙◌, subst, arith}
use Rattle.kinds.specs.Values.{grades}
use Rattle.kinds.specs.Laws.{grades_laws}
use Rattle.kinds.specs.declared.grade.Grade.{Grade}
use Rattle.base.specs.Reasons.{nowhere}
use Rattle.base.specs.declared.Refusal.{Refusal}
use Rattle.base.specs.declared.Reason.TheVariants.{NotThere}
use Rattle.books.specs.Books.{at}
use Rattle.books.specs.Entries.{values}
use Rattle.books.specs.declared.Entry.{Entry}
use Rattle.strategy_theory.specs.Lives.Call.{question}
use Rattle.strategy_theory.specs.Lives.Answer.{told}
use Rattle.strategy_theory.specs.Promises.{GoesOn}
use Rattle.strategy_theory.specs.Calls.{state, Shows}
use Rattle.strategy_theory.proofs.Asking.{question_on}
use Rattle.script_equations_theory.specs.Bounds.{variables_of, is_there}
use Rattle.script_equations_theory.specs.Grades.{grade_at, grade_book}
use Rattle.script_equations_theory.proofs.Places.{grade_book_long, grade_below}
use Rattle.soundness_theory.specs.Questions.{Told, ask_grades, is_settled}
use Rattle.soundness_theory.specs.Questions.Question.{grade_of}
use Rattle.soundness_theory.specs.Questions.Told.{graded}
use Rattle.script_graph.specs.Meaning.{meaning}
use Rattle.script_graph.specs.declared.graph.Graph.{Graph}
use Rattle.script_books.specs.Fitted.{grades_well}
use Rattle.sessions.specs.Sessions.{Lived}
use Rattle.sessions.specs.Answers.{asked_grade, told_by}
use Rattle.sessions.proofs.Standing.{long_of}
use Rattle.sessions.proofs.Asked.{told_asked, asked_is, there_of, unknown_of}

module _ (g : Graph) (es : List (Entry Grade)) (n : ℕ) (t : ∥ Lived grades (grade_book (meaning g)) (state es n) ∥₁) (p v : ℕ) where
  abbrev there : Bool
  there = is_there (meaning g) p v

  abbrev settled : Bool
  settled = is_settled grades (grade_book (meaning g)) (values es)

  abbrev shows : Grade
  shows = at grades (values es) (grade_at (variables_of (meaning g)) p v)

  long : length es ≡ length (grade_book (meaning g))
  long = long_of grades grades_laws (grade_book (meaning g)) (grades_well g) es n t

  -- the value of its unknown, which is there
  pub answered : (u : ℕ) → ◌≡◌ {A = Result ℕ Refusal} (Ok u) (cond there (Ok (grade_at (variables_of (meaning g)) p v)) (Err (nowhere NotThere))) → settled ≡ true →
      (r : Result Grade Refusal) → Shows grades es u r → r ≡ asked_grade (meaning g) (values es) p v
  answered u f s (Ok x) e =
      let h = unknown_of (meaning g) p v (grade_at (variables_of (meaning g)) p v) u f in
      ap Ok (e.1 ∙ ap (at grades (values es)) h.2) ∙ sym (asked_is there settled shows (there_of (meaning g) p v h.0 h.1) s)
  answered u f s (Err d) e =
      let h = unknown_of (meaning g) p v (grade_at (variables_of (meaning g)) p v) u f in
      let a = grade_below (meaning g) p v h.0 h.1 in
      let b = grade_book_long (meaning g) in
      let c = long in
      absurd (omega arith)

  -- the question goes on with every life
  pub goes_on : (r : Result Grade Refusal) → r ≡ asked_grade (meaning g) (values es) p v →
      GoesOn grades (grade_book (meaning g)) (ask_grades (meaning g)) (question (grade_of p v)) (told (told_by graded r)) (state es n) (state es n)
  goes_on r e = subst (λ (z : Told). GoesOn grades (grade_book (meaning g)) (ask_grades (meaning g)) (question (grade_of p v)) (told z) (state es n) (state es n))
      (told_asked graded there settled shows ∙ ap (told_by graded) (sym e))
      (question_on grades (grade_book (meaning g)) (ask_grades (meaning g)) grades_laws (grades_well g) (grade_of p v) (state es n))
