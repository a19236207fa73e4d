-- What a session on bounds answers when it is asked for an interval.
use Rattle.std.proofs.Common.{◌≡◌, ℕ, ◌+◌, ◌<◌, Bool, true, cond, List, length, ℤ, Ok, Err, Option, Result, IfOk, IfSome, sym, ap, ◌∙◌, subst, ⊎_elim, arith}
use Rattle.kinds.specs.Values.{bounds, Near}
use Rattle.kinds.specs.Laws.{bounds_laws}
use Rattle.kinds.specs.declared.bound.Bound.{Bound}
use Rattle.base.specs.Reasons.{nowhere}
use Rattle.base.specs.declared.Refusal.{Refusal}
use Rattle.base.specs.declared.Reason.TheVariants.{NotThere}
use Rattle.books.specs.Books.{at}
use Rattle.books.specs.Entries.{values}
use Rattle.books.specs.declared.Entry.{Entry}
use Rattle.strategy_theory.specs.Lives.Call.{question}
use Rattle.strategy_theory.specs.Lives.Answer.{told}
use Rattle.strategy_theory.specs.Promises.{GoesOn}
use Rattle.strategy_theory.specs.Calls.{state}
use Rattle.strategy_theory.proofs.Asking.{question_on}
use Rattle.script_equations_theory.specs.Bounds.{upper, variables_of, is_there, bound_book}
use Rattle.script_equations_theory.proofs.Places.{book_long, upper_below, lower_below}
use Rattle.soundness_theory.specs.Runs.{Run, of}
use Rattle.soundness_theory.specs.Intervals.{ends, interval, LiesIn, Stands}
use Rattle.soundness_theory.specs.Questions.{Told, ask, is_settled}
use Rattle.soundness_theory.specs.Questions.Question.{interval_of}
use Rattle.soundness_theory.specs.Questions.Told.{shown}
use Rattle.soundness_theory.specs.Kept.{Reached, Unreached}
use Rattle.soundness_theory.proofs.Sound.{inside}
use Rattle.soundness_theory.proofs.Pairs.{paired}
use Rattle.script_graph.specs.Meaning.{meaning}
use Rattle.script_graph.specs.declared.graph.Graph.{Graph}
use Rattle.script_books.specs.Fitted.{graph_fits, bounds_well}
use Rattle.sessions.specs.Sessions.{Lived}
use Rattle.sessions.specs.Answers.{asked_interval, told_by}
use Rattle.sessions.proofs.Standing.{long_of, holds_of, least_of, near_of}
use Rattle.sessions.proofs.Asked.{told_asked, asked_is, if_asked, there_of, below_of, unknown_of}

module _ (g : Graph) (es : List (Entry Bound)) (n : ℕ) (t : ∥ Lived bounds (bound_book (meaning g)) (state es n) ∥₁) (p v : ℕ) where
  abbrev there : Bool
  there = is_there (meaning g) p v

  abbrev settled : Bool
  settled = is_settled bounds (bound_book (meaning g)) (values es)

  abbrev shows : Option (Bound × Bound)
  shows = interval (meaning g) (values es) p v

  long : length es ≡ length (bound_book (meaning g))
  long = long_of bounds bounds_laws (bound_book (meaning g)) (bounds_well g) es n t

  -- the unknown that is found, and the next one, are in the list
  module _ (u : ℕ) (e : ◌≡◌ {A = Result ℕ Refusal} (Ok u) (cond there (Ok (upper (variables_of (meaning g)) p v)) (Err (nowhere NotThere)))) where
    found : (p < g.points) × (v < variables_of (meaning g)) × (u ≡ upper (variables_of (meaning g)) p v)
    found = unknown_of (meaning g) p v (upper (variables_of (meaning g)) p v) u e

    pub upper_in : u < length es
    upper_in = let a = upper_below (meaning g) p v found.0 found.1 in let b = book_long (meaning g) in let c = long in let d = found.2 in omega arith

    pub lower_in : u + 1 < length es
    lower_in = let a = lower_below (meaning g) p v found.0 found.1 in let b = book_long (meaning g) in let c = long in let d = found.2 in omega arith

    -- the ends by the two values
    pub answered : settled ≡ true → (a b : Bound) → a ≡ at bounds (values es) u → b ≡ at bounds (values es) (u + 1) → (r : Option (Bound × Bound)) → (Near b → r ≡ ends a b) → Ok r ≡ asked_interval (meaning g) (values es) p v
    answered s a b ea eb r f = ap Ok (f (subst Near (sym eb) (near_of (bound_book (meaning g)) (bounds_well g) es n t (u + 1))) ∙ ends_are) ∙ sym (asked_is there settled shows (there_of (meaning g) p v found.0 found.1) s)
      where
        ends_are : ends a b ≡ shows
        ends_are = ap (λ (z : Bound). ends z b) (ea ∙ ap (at bounds (values es)) found.2) ∙
            ap (ends (at bounds (values es) (upper (variables_of (meaning g)) p v))) (eb ∙ ap (at bounds (values es)) (let d = found.2 in omega arith))

  module _ (r : Result (Option (Bound × Bound)) Refusal) (e : r ≡ asked_interval (meaning g) (values es) p v) where
    -- every value of a run lies inside
    pub lies_inside : IfOk r (λ i. (x : List ℤ) → Run (meaning g) p x → LiesIn i (of x v))
    lies_inside = if_asked there settled shows (λ i. (x : List ℤ) → Run (meaning g) p x → LiesIn i (of x v))
        (λ h s x d. inside (meaning g) (graph_fits g) (values es) (holds_of bounds bounds_laws (bound_book (meaning g)) (bounds_well g) es n t s) p x d v (below_of (meaning g) p v h).1) r e

    -- an interval does not fall
    pub stands_there : IfOk r (λ i. IfSome i Stands)
    stands_there = if_asked there settled shows (λ i. IfSome i Stands) stands r e
      where
        stands : there ≡ true → settled ≡ true → IfSome shows Stands
        stands h s =
            let least = least_of bounds bounds_laws (bound_book (meaning g)) (bounds_well g) es n t s in
            let below = below_of (meaning g) p v h in
            ⊎_elim
            (λ (d : (w : ℕ) → w < variables_of (meaning g) → Reached (meaning g) (values es) p w). subst (λ (i : Option (Bound × Bound)). IfSome i Stands) (sym (d v below.1).there) (d v below.1).stands)
            (λ (d : (w : ℕ) → w < variables_of (meaning g) → Unreached (meaning g) (values es) p w). subst (λ (i : Option (Bound × Bound)). IfSome i Stands) (sym (d v below.1).absent) tt)
            (paired (meaning g) (graph_fits g) (values es) least.solves least.below p below.0)

    -- the question goes on with every life
    pub goes_on : GoesOn bounds (bound_book (meaning g)) (ask (meaning g)) (question (interval_of p v)) (told (told_by shown r)) (state es n) (state es n)
    goes_on = subst (λ (z : Told). GoesOn bounds (bound_book (meaning g)) (ask (meaning g)) (question (interval_of p v)) (told z) (state es n) (state es n))
        (told_asked shown there settled shows ∙ ap (told_by shown) (sym e))
        (question_on bounds (bound_book (meaning g)) (ask (meaning g)) bounds_laws (bounds_well g) (interval_of p v) (state es n))
