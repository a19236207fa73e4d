-- What a session on bounds answers when it is asked for the findings.
use Rattle.std.proofs.Common.{◌≡◌, ℕ, zero, suc, ◌<◌, ◌≤◌, [], ◌∷◌, ◌++◌, length-append, not-suc-le-zero, Bool, true, false, cond, ◌⊎◌, List, length, take, drop, min, ℤ, Ok, Err, Result, MatchResult, OnOk, nat_le, refl, sym, ap, ◌∙◌, subst, inl, inr, arith}
use Rattle.std.proofs.lemmas.List.{take_at}
use Rattle.std.proofs.lemmas.Bool.Decides.{nat_tests}
use Rattle.kinds.specs.Values.{bounds}
use Rattle.kinds.specs.Laws.{bounds_laws}
use Rattle.kinds.specs.declared.bound.Bound.{Bound}
use Rattle.base.specs.Reasons.{number_of, nowhere}
use Rattle.base.specs.declared.Refusal.{Refusal}
use Rattle.base.specs.declared.Reason.TheVariants.{NotSettled, ListTooShort}
use Rattle.books.specs.Entries.{values}
use Rattle.books.specs.declared.Entry.{Entry}
use Rattle.strategy_theory.specs.Lives.Call.{question}
use Rattle.strategy_theory.specs.Lives.Answer.{told}
use Rattle.strategy_theory.specs.Promises.{GoesOn}
use Rattle.strategy_theory.specs.Calls.{state}
use Rattle.strategy_theory.proofs.Asking.{question_on}
use Rattle.language_theory.specs.Graphs as graphs
use Rattle.language_theory.specs.declared.Lookup.{Lookup}
use Rattle.script_equations_theory.specs.Bounds.{bound_book}
use Rattle.soundness_theory.specs.Runs.{OutsideRead}
use Rattle.soundness_theory.specs.Findings.{findings, FindingOf}
use Rattle.soundness_theory.specs.Questions.{Told, ask, is_settled}
use Rattle.soundness_theory.specs.Questions.Question.{findings_into}
use Rattle.soundness_theory.specs.Questions.Told.{filled, turned_back}
use Rattle.soundness_theory.specs.declared.Finding.{Finding}
use Rattle.soundness_theory.proofs.Sound.{reads}
use Rattle.soundness_theory.proofs.Listing.{few_findings}
use Rattle.script_graph.specs.Meaning.{meaning}
use Rattle.script_graph.specs.declared.graph.Graph.{Graph}
use Rattle.script_books.specs.Fitted.{graph_fits, bounds_well}
use Rattle.sessions.specs.Sessions.{Lived}
use Rattle.sessions.specs.Answers.{FilledIn, NotFilled, told_findings}
use Rattle.sessions.proofs.Standing.{holds_of}

-- what is told where the analysis is settled, and the list long enough, or not
module _ (fs : List Finding) where
  abbrev tells : Bool → Bool → Told
  tells settled room = cond settled (cond room (filled fs) (turned_back 33)) (turned_back 31)

  tells_is : (settled room : Bool) (a b : Bool) → settled ≡ a → room ≡ b → tells settled room ≡ tells a b
  tells_is settled room a b h k = ap (λ (z : Bool). tells z room) h ∙ ap (tells a) k

module _ (g : graphs.Graph) (y : List Bound) (es es' : List Finding) where
  abbrev is_rest : Bool
  is_rest = is_settled bounds (bound_book g) y

  abbrev has_room : Bool
  has_room = nat_le (length (findings g y)) (length es)

  pub told_answer : (r : Result ℕ Refusal) → MatchResult r (λ n. FilledIn g y es es' n) (λ e. NotFilled g y es es' e) → tells (findings g y) is_rest has_room ≡ told_findings es' r
  told_answer (Ok n) f =
      tells_is (findings g y) is_rest has_room true true f.settled (let c = f.front.count in let h = f.room in grind (arith, nat_tests)) ∙
      ap filled (sym (ap (take n) f.front.list ∙ take_at (findings g y) (drop n es) n (sym f.front.count)))
  told_answer (Err e) f = go f.why
    where
      go : ((is_rest ≡ false) × (e ≡ nowhere NotSettled)) ⊎ ((is_rest ≡ true) × (length es < length (findings g y)) × (e ≡ nowhere ListTooShort)) → tells (findings g y) is_rest has_room ≡ turned_back (number_of e.reason)
      go (inl q) = tells_is (findings g y) is_rest has_room false has_room q.0 refl ∙ ap (λ (d : Refusal). turned_back (number_of d.reason)) (sym q.1)
      go (inr q) = tells_is (findings g y) is_rest has_room true false q.0 (let h = q.1 in grind (arith, nat_tests)) ∙ ap (λ (d : Refusal). turned_back (number_of d.reason)) (sym q.2)

module _ (g : Graph) (es : List (Entry Bound)) (n : ℕ) (t : ∥ Lived bounds (bound_book (meaning g)) (state es n) ∥₁) where
  -- a run reads outside a table only where there is a finding
  pub all_found : (list list' : List Finding) (r : Result ℕ Refusal) → MatchResult r (λ k. FilledIn (meaning g) (values es) list list' k) (λ e. NotFilled (meaning g) (values es) list list' e) →
      OnOk r ((l : Lookup) (x : List ℤ) → OutsideRead (meaning g) l x → (f : Finding) × FindingOf (meaning g) (values es) l f)
  all_found list list' (Ok k) f = reads (meaning g) (graph_fits g) (values es) (holds_of bounds bounds_laws (bound_book (meaning g)) (bounds_well g) es n t f.settled)
  all_found list list' (Err e) f = tt

  -- the question goes on with every life
  pub goes_on : (list list' : List Finding) (r : Result ℕ Refusal) → MatchResult r (λ k. FilledIn (meaning g) (values es) list list' k) (λ e. NotFilled (meaning g) (values es) list list' e) →
      GoesOn bounds (bound_book (meaning g)) (ask (meaning g)) (question (findings_into (length list))) (told (told_findings list' r)) (state es n) (state es n)
  goes_on list list' r f = subst (λ (z : Told). GoesOn bounds (bound_book (meaning g)) (ask (meaning g)) (question (findings_into (length list))) (told z) (state es n) (state es n))
      (told_answer (meaning g) (values es) list list' r f)
      (question_on bounds (bound_book (meaning g)) (ask (meaning g)) bounds_laws (bounds_well g) (findings_into (length list)) (state es n))

  -- so does the question for a list of any length, if the list that is filled has that length, or one entry for each read
  pub goes_on_from : (k : ℕ) (list list' : List Finding) (r : Result ℕ Refusal) → length list ≡ min k (length g.lookups.items) → MatchResult r (λ i. FilledIn (meaning g) (values es) list list' i) (λ e. NotFilled (meaning g) (values es) list list' e) →
      GoesOn bounds (bound_book (meaning g)) (ask (meaning g)) (question (findings_into k)) (told (told_findings list' r)) (state es n) (state es n)
  goes_on_from k list list' r e f = subst (λ (z : Told). GoesOn bounds (bound_book (meaning g)) (ask (meaning g)) (question (findings_into k)) (told z) (state es n) (state es n))
      (ap (λ (b : Bool). tells (findings (meaning g) (values es)) (is_settled bounds (bound_book (meaning g)) (values es)) b) same_room ∙ told_answer (meaning g) (values es) list list' r f)
      (question_on bounds (bound_book (meaning g)) (ask (meaning g)) bounds_laws (bounds_well g) (findings_into k) (state es n))
    where
      same_room : nat_le (length (findings (meaning g) (values es))) k ≡ nat_le (length (findings (meaning g) (values es))) (length list)
      same_room = let few = few_findings (meaning g) (values es) in grind (arith, nat_tests)

-- the first k of a list, and of what stands behind it, where the whole has been cut to a length of k or more
pub taken_front : {A : Type 0} (k len : ℕ) (xs rest : List A) → k ≤ len → k ≤ length xs → take k (take len (xs ++ rest)) ≡ take k xs
taken_front zero len xs rest h e = refl
taken_front (suc k) zero xs rest h e = absurd (not-suc-le-zero h)
taken_front (suc k) (suc len) [] rest h e = absurd (not-suc-le-zero e)
taken_front (suc k) (suc len) (x ∷ xs) rest h e = ap (λ (l : List _). x ∷ l) (taken_front k len xs rest (omega arith) (omega arith))

-- the list that was filled has room for the findings
pub filled_long : (g : graphs.Graph) (y : List Bound) (es es' : List Finding) (n : ℕ) → FilledIn g y es es' n → n ≤ length es'
filled_long g y es es' n f = omega (arith, ap length f.front.list ∙ length-append (findings g y) (drop n es), f.front.count)
