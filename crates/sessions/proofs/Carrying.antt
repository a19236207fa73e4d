-- Calls of an analysis in a session: a life goes on, and the flag tells whether it is settled.
use Rattle.std.proofs.Common.{◌≡◌, ℕ, ◌≤◌, Bool, List, [], ◌∷◌, length, Ok, Err, Option, Result, IsErrAnd, sym, refl, ap, ◌∙◌, subst, arith}
use Rattle.std.specs.Cmp.{both_ways}
use mathlib.Core.Bool.{Bool-set}
use Rattle.kinds.specs.Kinds.{Ops, Laws}
use Rattle.base.specs.Reasons.{number_of}
use Rattle.base.specs.declared.Refusal.{Refusal}
use Rattle.books.specs.Forms.{Well}
use Rattle.books.specs.declared.Alternative.{Alternative}
use Rattle.books.specs.declared.Entry.{Entry}
use Rattle.books.proofs.Order.{le_of_eq}
use Rattle.strategy_theory.specs.Solving.{Rounds}
use Rattle.strategy_theory.specs.Solving.Rounds.{start, round}
use Rattle.strategy_theory.specs.Theory.{none_chosen, all_least}
use Rattle.strategy_theory.specs.Lives.{State, Call, Answer, Event, event, Life, begun}
use Rattle.strategy_theory.specs.Lives.Call.{run}
use Rattle.strategy_theory.specs.Lives.Answer.{made, refused}
use Rattle.strategy_theory.specs.Lives.Life.{set_up}
use Rattle.strategy_theory.specs.Promises.{Promises}
use Rattle.strategy_theory.specs.Calls.{state, unasked, fresh, Prolongs, call_with, answer_with}
use Rattle.strategy_theory.proofs.Making.{fresh_state}
use Rattle.strategy_theory.proofs.Asking.{asked_on, begins_with}
use Rattle.solver.specs.Answers.{answered}
use Rattle.soundness_theory.specs.Questions.{is_settled}
use Rattle.soundness_theory.proofs.Settling.{settled_is}
use Rattle.sessions.specs.Sessions.{Lived, Opens, CarriesOn}

-- no rounds leave what was
none_made : {V W : Type 0} (o : Ops V W) (m : List (List (Alternative V W))) {s₀ s : List (Option ℕ)} {x₀ x : List V} {ss : List (List (Option ℕ))} → Rounds o m s₀ x₀ ss s x → length ss ≡ 0 → (s ≡ s₀) × (x ≡ x₀)
none_made o m start e = (refl, refl)
none_made o m (round r u v) e = absurd (omega arith)

module _ {V W : Type 0} (o : Ops V W) (l : Laws o) (m : List (List (Alternative V W))) (well : Well o m) where
  pub carries : (c : Call ⊥) (a : Answer V ⊥) (s s' : State V) → Prolongs o m c a s s' → CarriesOn o m (call_with c) (answer_with a) s s'
  carries c a s s' p ask = asked_on o m ask l well c a s s' p

  pub opens : (s : State V) → s ≡ begun o m → Opens o m s
  opens s e = subst (λ (r : State V). Opens o m r) (sym e) (λ ask. begins_with o m ask l well)

  -- some life still led here
  pub lived_on : (c : Call ⊥) (a : Answer V ⊥) (s s' : State V) → Prolongs o m c a s s' → ∥ Lived o m s ∥₁ → ∥ Lived o m s' ∥₁
  lived_on c a s s' p t = ∥∥₁_rec squash₁ (λ (d : Lived o m s). let q = p d.history d.past d.life in ∣ record { history = event c a ∷ d.history; past = q.0; life = q.1 } ∣₁) t

  pub lived_begun : (s : State V) → s ≡ begun o m → ∥ Lived o m s ∥₁
  lived_begun s e = subst (λ (r : State V). ∥ Lived o m r ∥₁) (sym e) ∣ record { history = []; past = []; life = set_up } ∣₁

  -- what a round or run answers is whether it is settled
  told_settled : {h : List (Event ⊥ V ⊥)} {ss : List (List (Option ℕ))} {s : State V} (c : Call ⊥) (k : ℕ) (b : Bool) → Promises o m (event c (made k b) ∷ h) ss s → b ≡ is_settled o m s.values
  told_settled {s = s} c k b p =
      let said = p.said b refl in
      let test = settled_is o m s.values in
      both_ways b (is_settled o m s.values)
      (λ e. let q = said.0 e in test.1 (λ u h. le_of_eq o l (sym (q.same u h))))
      (λ e. said.1 (p.least (test.0 e)).solves)

  pub known_on : (c : Call ⊥) (k : ℕ) (b : Bool) (s s' : State V) → Prolongs o m c (made k b) s s' → ∥ Lived o m s ∥₁ → b ≡ is_settled o m s'.values
  known_on c k b s s' p t = ∥∥₁_rec (Bool-set b (is_settled o m s'.values)) (λ (d : Lived o m s). let q = p d.history d.past d.life in told_settled c k b q.2) t

  -- a run of no rounds at the beginning
  still : (k : ℕ) (b : Bool) (ss : List (List (Option ℕ))) (s : State V) → k ≤ 0 → Promises o m {Q = ⊥} {A = ⊥} (event (run 0) (made k b) ∷ []) ss s → s ≡ begun o m
  still k b ss s le p =
      let none = none_made o m p.rounds (omega (arith, p.answered)) in
      let shown : s.shown ≡ 0 = omega (arith, p.shown) in
      ap (λ (t : List (Option ℕ)). record { strategy = t; values = s.values; shown = s.shown }) none.0
      ∙ ap (λ (x : List V). record { strategy = none_chosen (length m); values = x; shown = s.shown }) none.1
      ∙ ap (λ (n : ℕ). record { strategy = none_chosen (length m); values = all_least o (length m); shown = n }) shown

  pub still_begun : (k : ℕ) (b : Bool) (s s' : State V) → s ≡ begun o m → k ≤ 0 → Prolongs o m (run 0) (made k b) s s' → s' ≡ begun o m
  still_begun k b s s' e le p =
      let q = p [] [] (subst (λ (r : State V). Life o m unasked [] [] r) (sym e) set_up) in
      still k b q.0 s' le q.2

  -- a list as at set-up, with no rounds
  pub begun_by : (es : List (Entry V)) (n k : ℕ) → es ≡ fresh o k → n ≡ 0 → k ≡ length m → state es n ≡ begun o m
  begun_by es n k e f h = ap (λ (ds : List (Entry V)). state ds n) e ∙ ap (λ (i : ℕ). state (fresh o k) i) f ∙ fresh_state o l m k h

  -- a call carries on to a state that is the same
  pub carries_to : (c : Call ⊥) (a : Answer V ⊥) (s s' r : State V) → Prolongs o m c a s s' → r ≡ s' → CarriesOn o m (call_with c) (answer_with a) s r
  carries_to c a s s' r p e = subst (λ (q : State V). CarriesOn o m (call_with c) (answer_with a) s q) (sym e) (carries c a s s' p)

  -- a refusal that is handed on
  pub refused_on : {X : Type 0} (f : X → Answer V ⊥) (c : Call ⊥) (r : Result X Refusal) (x : Refusal) (s s' : State V) → IsErrAnd r (λ y. y ≡ x) → Prolongs o m c (refused (number_of x.reason)) s s' → CarriesOn o m (call_with c) (answer_with (answered f r)) s s'
  refused_on f c (Ok v) x s s' h p = absurd h
  refused_on f c (Err y) x s s' h p = subst (λ (z : Refusal). CarriesOn o m (call_with c) (refused (number_of z.reason)) s s') (sym h) (carries c (refused (number_of x.reason)) s s' p)
