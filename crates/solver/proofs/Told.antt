-- the answers of calls that may refuse, in the lives of an analysis
use Rattle.std.proofs.Common.{◌≡◌, ℕ, ◌+◌, ◌<◌, ◌≤◌, min, List, length, get_or, Ok, Err, Option, Result, sym, ap, ◌∙◌, subst}
use Rattle.kinds.specs.Limits.{most_rounds}
use Rattle.kinds.specs.Kinds.{Ops, Laws}
use Rattle.base.specs.Reasons.{number_of, nowhere}
use Rattle.base.specs.declared.Refusal.{Refusal}
use Rattle.base.specs.declared.Reason.{Reason}
use Rattle.base.specs.declared.Reason.TheVariants.{NotThere, BudgetTooLarge}
use Rattle.books.specs.Forms.{Well}
use Rattle.books.specs.declared.Alternative.{Alternative}
use Rattle.books.specs.declared.Entry.{Entry}
use Rattle.strategy_theory.specs.Steps.{Ready, Ran}
use Rattle.strategy_theory.specs.Lives.{State, Call}
use Rattle.strategy_theory.specs.Lives.Call.{run, value_of, choice_of}
use Rattle.strategy_theory.specs.Lives.Answer.{value, choice, refused}
use Rattle.strategy_theory.specs.Calls.{state, Shows, ShowsChoice, Prolongs}
use Rattle.strategy_theory.proofs.Choosing.{value_is}
use Rattle.strategy_theory.proofs.Paths.{choice_is}
use Rattle.strategy_theory.proofs.Making.{shows_value, refuses_value, shows_choice, refuses_choice, makes_run, refuses_run}
use Rattle.solver.specs.Answers.{progressed, answered}
use Rattle.solver.specs.declared.rounds.Progress.{Progress}

module _ {V W : Type 0} (o : Ops V W) (l : Laws o) (m : List (List (Alternative V W))) (well : Well o m) (es : List (Entry V)) (n : ℕ) where
  -- a refusal in the number of which a call is known to turn back
  refusal_is : (c : Call ⊥) (s s' : State V) (e : Refusal) (r : Reason) → e ≡ nowhere r → Prolongs o m c (refused (number_of r)) s s' → Prolongs o m c (refused (number_of e.reason)) s s'
  refusal_is c s s' e r is p = subst (λ (d : Refusal). Prolongs o m c (refused (number_of d.reason)) s s') (sym is) p

  pub told_value : (u : ℕ) (r : Result V Refusal) → Shows o es u r → Prolongs o m (value_of u) (answered value r) (state es n) (state es n)
  told_value u (Ok v) p = shows_value o l m well es n u v p.0 p.1
  told_value u (Err e) p = refusal_is (value_of u) (state es n) (state es n) e NotThere p.1 (refuses_value o l m well es n u p.0)

  pub value_of_entry : (u : ℕ) (e : Entry V) → (u < length es) × (e ≡ get_or es u e) → Prolongs o m (value_of u) (value e.value) (state es n) (state es n)
  value_of_entry u e said = shows_value o l m well es n u e.value said.0 (ap (λ (d : Entry V). d.value) said.1 ∙ value_is o es u e said.0)

  pub told_choice : (u : ℕ) (r : Result (Option ℕ) Refusal) → ShowsChoice es u r → Prolongs o m (choice_of u) (answered choice r) (state es n) (state es n)
  told_choice u (Ok k) p = shows_choice o l m well es n u k p.0 p.1
  told_choice u (Err e) p = refusal_is (choice_of u) (state es n) (state es n) e NotThere p.1 (refuses_choice o l m well es n u p.0)

  pub choice_of_entry : (u : ℕ) (e : Entry V) → (u < length es) × (e ≡ get_or es u e) → Prolongs o m (choice_of u) (choice e.choice) (state es n) (state es n)
  choice_of_entry u e said = shows_choice o l m well es n u e.choice said.0 (ap (λ (d : Entry V). d.choice) said.1 ∙ choice_is es u e said.0)

  pub told_run : (b : ℕ) (p : Progress) (es' : List (Entry V)) (n' : ℕ) → b ≤ most_rounds → p.rounds ≤ b → (Ready o m es → Ran o m b es p.rounds p.settled es') → n' ≡ min (n + p.rounds) most_rounds →
      Prolongs o m (run b) (progressed p) (state es n) (state es' n')
  told_run b p es' n' h le f e = makes_run o l m well es n b p.rounds p.settled es' n' h f le e

  pub told_no_run : (b : ℕ) (e : Refusal) (es' : List (Entry V)) → most_rounds < b → e ≡ nowhere BudgetTooLarge → es' ≡ es → Prolongs o m (run b) (refused (number_of e.reason)) (state es n) (state es' n)
  told_no_run b e es' h is same = refusal_is (run b) (state es n) (state es' n) e BudgetTooLarge is (subst (λ (ds : List (Entry V)). Prolongs o m (run b) (refused 32) (state es n) (state ds n)) (sym same) (refuses_run o l m well es n b h))
