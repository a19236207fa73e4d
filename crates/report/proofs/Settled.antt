-- What settled sessions on a graph answer.
use Rattle.std.proofs.Common.{◌≡◌, ℕ, ◌<◌, Bool, true, false, ◌⊎◌, List, length, get_or, Contains, Ok, Option, Result, inl, inr, sym, ap, ◌∙◌, subst, arith}
use Rattle.std.proofs.lemmas.Bool.{false≢true}
use Rattle.std.proofs.lemmas.List.Elements.{Contains-get_or}
use Rattle.kinds.specs.Values.{bounds, grades}
use Rattle.kinds.specs.declared.bound.Bound.{Bound}
use Rattle.kinds.specs.declared.grade.Grade.{Grade}
use Rattle.base.specs.Reasons.{nowhere}
use Rattle.base.specs.declared.Refusal.{Refusal}
use Rattle.base.specs.declared.Reason.TheVariants.{NotSettled, ListTooShort}
use Rattle.books.specs.Books.{at}
use Rattle.sessions.specs.Bounds.{bound_book, variables_of, is_there}
use Rattle.sessions.specs.Grades.{grade_at, grade_book}
use Rattle.soundness_theory.specs.Intervals.{interval}
use Rattle.soundness_theory.specs.Findings.{findings}
use Rattle.soundness_theory.specs.Questions.{is_settled}
use Rattle.soundness_theory.specs.declared.Finding.{Finding}
use Rattle.soundness_theory.proofs.Listing.{listed, few_findings}
use Rattle.script_graph.specs.Meaning.{meaning}
use Rattle.script_graph.specs.declared.graph.Graph.{Graph}
use Rattle.script_books.specs.Fitted.{graph_fits}
use Rattle.sessions.specs.Answers.{NotFilled, asked_interval, asked_grade}
use Rattle.sessions.proofs.Asked.{asked_is, there_of}
use Rattle.report.specs.Settles.{SettledOn}

-- an answer, not refused
abbrev answered : {X : Type 0} → X → Result X Refusal
answered x = Ok x

same_answer : {X : Type 0} (a b : X) → answered a ≡ answered b → a ≡ b
same_answer a b e = cc

module _ (g : Graph) (y : List Bound) where
  -- what is found is at a point and of a variable that are there
  found_there : (f : Finding) → Contains (findings (meaning g) y) f → (f.point < g.points) × (f.variable < variables_of (meaning g))
  found_there f c =
      let r = (listed (meaning g) y).each f c in
      let fits = (graph_fits g).lookups r.0 r.1.among in
      subst (λ (x : Finding). (x.point < g.points) × (x.variable < variables_of (meaning g))) (sym r.1.is) (fits.point, fits.index)

  -- so is the next of the findings
  pub next_there : (fs : List Finding) (i : ℕ) (d : Finding) → fs ≡ findings (meaning g) y → i < length fs → ((get_or fs i d).point < g.points) × ((get_or fs i d).variable < variables_of (meaning g))
  next_there fs i d e h = found_there (get_or fs i d) (subst (λ (l : List Finding). Contains l (get_or fs i d)) e (Contains-get_or fs i d h))

  -- a list with an entry for each read is never refused
  pub never_refused : (s : Bool) (b : Graph) → s ≡ is_settled bounds (bound_book (meaning b)) y → SettledOn s b g →
      (es es' : List Finding) → length es ≡ length g.lookups.items → (e : Refusal) → NotFilled (meaning b) y es es' e → ⊥
  never_refused s b e on es es' long d n = go n.why
    where
      go : ((is_settled bounds (bound_book (meaning b)) y ≡ false) × (d ≡ nowhere NotSettled)) ⊎ ((is_settled bounds (bound_book (meaning b)) y ≡ true) × (length es < length (findings (meaning b) y)) × (d ≡ nowhere ListTooShort)) → ⊥
      go (inl q) = false≢true (sym q.0 ∙ sym e ∙ on.yes)
      go (inr q) = let few = few_findings (meaning b) y in let same = ap (λ (x : Graph). length x.lookups.items) on.same in let short = q.1 in omega arith

-- where the point and the variable are there, the interval and the grade are told
module _ (g : Graph) (p v : ℕ) (h : p < g.points) (k : v < variables_of (meaning g)) where
  pub interval_is : (y : List Bound) (s : Bool) (b : Graph) → s ≡ is_settled bounds (bound_book (meaning b)) y → SettledOn s b g →
      (i : Option (Bound × Bound)) → Ok i ≡ asked_interval (meaning b) y p v → i ≡ interval (meaning g) y p v
  interval_is y s b e on i a =
      same_answer _ _ (
      subst (λ (x : Graph). Ok i ≡ asked_interval (meaning x) y p v) on.same a ∙
      asked_is (is_there (meaning g) p v) (is_settled bounds (bound_book (meaning g)) y) (interval (meaning g) y p v) (there_of (meaning g) p v h k)
      (subst (λ (x : Graph). is_settled bounds (bound_book (meaning x)) y ≡ true) on.same (sym e ∙ on.yes))
      )

  pub grade_is : (z : List Grade) (s : Bool) (b : Graph) → s ≡ is_settled grades (grade_book (meaning b)) z → SettledOn s b g →
      (r : Grade) → Ok r ≡ asked_grade (meaning b) z p v → r ≡ at grades z (grade_at (variables_of (meaning g)) p v)
  grade_is z s b e on r a =
      same_answer _ _ (
      subst (λ (x : Graph). Ok r ≡ asked_grade (meaning x) z p v) on.same a ∙
      asked_is (is_there (meaning g) p v) (is_settled grades (grade_book (meaning g)) z) (at grades z (grade_at (variables_of (meaning g)) p v)) (there_of (meaning g) p v h k)
      (subst (λ (x : Graph). is_settled grades (grade_book (meaning x)) z ≡ true) on.same (sym e ∙ on.yes))
      )
