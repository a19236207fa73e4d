-- questions besides change nothing: lives with them and lives without
use Rattle.std.proofs.Common.{◌≡◌, ℕ, List, [], ◌∷◌, get_or, None, Option, sym, refl, ap, subst, subst₂, inl, inr}
use Rattle.kinds.specs.Kinds.{Ops, Laws}
use Rattle.books.specs.Books.{at}
use Rattle.books.specs.Forms.{Well}
use Rattle.books.specs.declared.Alternative.{Alternative}
use Rattle.strategy_theory.specs.Lives.{State, Call, Answer, Event, event, Keeps, begun, Runs, Does, Life}
use Rattle.strategy_theory.specs.Lives.Call.{one_round, run, restart, value_of, choice_of, rounds_shown, question}
use Rattle.strategy_theory.specs.Lives.Answer.{made, done, value, choice, number, told, refused}
use Rattle.strategy_theory.specs.Lives.Life.{set_up, after}
use Rattle.strategy_theory.specs.Promises.{Promises, GoesOn}
use Rattle.strategy_theory.specs.Calls.{unasked, call_with, answer_with, WithoutQuestions, Prolongs}
use Rattle.strategy_theory.specs.Calls.WithoutQuestions.{none, left_out, kept}
use Rattle.strategy_theory.proofs.Keeping.{promised}
use Rattle.strategy_theory.proofs.Agreeing.{same}
use Rattle.strategy_theory.proofs.Calls.{does_question}

module _ {V W Q A : Type 0} (o : Ops V W) (m : List (List (Alternative V W))) (ask : State V → Q → A) where
  keeps_with : (b a : Answer V ⊥) (ss ss' : List (List (Option ℕ))) (s s' : State V) → Keeps b ss s a ss' s' → Keeps (answer_with {A = A} b) ss s (answer_with a) ss' s'
  keeps_with b a ss ss' s s' d = record { answer = ap (answer_with {A = A}) d.answer; past = d.past; state = d.state }

  runs_with : (b : ℕ) (a : Answer V ⊥) (ss ss' : List (List (Option ℕ))) (s s' : State V) → Runs o m b ss s a ss' s' → Runs o m b ss s (answer_with {A = A} a) ss' s'
  runs_with b a ss ss' s s' d = record {
    k = d.k;
    settled = d.settled;
    ts = d.ts;
    answer = ap (answer_with {A = A}) d.answer;
    past = d.past;
    rounds = d.rounds;
    counted = d.counted;
    within = d.within;
    said = d.said;
    whole = d.whole;
    shown = d.shown;
  }

  -- a call does the same where questions may be asked besides
  does_with : (c : Call ⊥) (a : Answer V ⊥) (ss ss' : List (List (Option ℕ))) (s s' : State V) → Does o m unasked c ss s a ss' s' → Does o m ask (call_with c) ss s (answer_with a) ss' s'
  does_with one_round a ss ss' s s' d = runs_with 1 a ss ss' s s' d
  does_with (run b) a ss ss' s s' (inl d) = inl (d.0, runs_with b a ss ss' s s' d.1)
  does_with (run b) a ss ss' s s' (inr d) = inr (d.0, keeps_with (refused 32) a ss ss' s s' d.1)
  does_with restart a ss ss' s s' d = record { answer = ap (answer_with {A = A}) d.answer; past = d.past; state = d.state }
  does_with (value_of u) a ss ss' s s' (inl d) = inl (d.0, keeps_with _ a ss ss' s s' d.1)
  does_with (value_of u) a ss ss' s s' (inr d) = inr (d.0, keeps_with _ a ss ss' s s' d.1)
  does_with (choice_of u) a ss ss' s s' (inl d) = inl (d.0, keeps_with _ a ss ss' s s' d.1)
  does_with (choice_of u) a ss ss' s s' (inr d) = inr (d.0, keeps_with _ a ss ss' s s' d.1)
  does_with rounds_shown a ss ss' s s' d = keeps_with _ a ss ss' s s' d
  does_with (question q) a ss ss' s s' d = absurd q

  -- what is left of a life when its questions are left out
  pub record Left (h : List (Event Q V A)) (ss : List (List (Option ℕ))) (s : State V) : Type 0 where
    pub history : List (Event ⊥ V ⊥)
    pub without : WithoutQuestions h history
    pub life : Life o m unasked history ss s

  module _ (h : List (Event Q V A)) (ss : List (List (Option ℕ))) (s : State V) (r : Left h ss s) (a : Answer V A) (ss' : List (List (Option ℕ))) (s' : State V) where
    left_call : (c : Call ⊥) (b : Answer V ⊥) → a ≡ answer_with b → Does o m unasked c ss s b ss' s' → Left (event (call_with c) a ∷ h) ss' s'
    left_call c b e d = record {
      history = event c b ∷ r.history;
      without = subst (λ (x : Answer V A). WithoutQuestions (event (call_with c) x ∷ h) (event c b ∷ r.history)) (sym e) (kept c b r.without);
      life = after c b r.life d;
    }

    left_runs : (b : ℕ) (d : Runs o m b ss s a ss' s') → Runs o m {A = ⊥} b ss s (made d.k d.settled) ss' s'
    left_runs b d = record { k = d.k; settled = d.settled; ts = d.ts; answer = refl; past = d.past; rounds = d.rounds; counted = d.counted; within = d.within; said = d.said; whole = d.whole; shown = d.shown }

    left_keeps : (b : Answer V ⊥) → Keeps (answer_with b) ss s a ss' s' → Keeps b ss s b ss' s'
    left_keeps b d = record { answer = refl; past = d.past; state = d.state }

    left_step : (c : Call Q) → Does o m ask c ss s a ss' s' → Left (event c a ∷ h) ss' s'
    left_step one_round d = left_call one_round (made d.k d.settled) d.answer (left_runs 1 d)
    left_step (run b) (inl d) = left_call (run b) (made d.1.k d.1.settled) d.1.answer (inl (d.0, left_runs b d.1))
    left_step (run b) (inr d) = left_call (run b) (refused 32) d.1.answer (inr (d.0, left_keeps (refused 32) d.1))
    left_step restart d = left_call restart done d.answer (record { answer = refl; past = d.past; state = d.state })
    left_step (value_of u) (inl d) = left_call (value_of u) (value (at o s.values u)) d.1.answer (inl (d.0, left_keeps (value (at o s.values u)) d.1))
    left_step (value_of u) (inr d) = left_call (value_of u) (refused 30) d.1.answer (inr (d.0, left_keeps (refused 30) d.1))
    left_step (choice_of u) (inl d) = left_call (choice_of u) (choice (get_or s.strategy u None)) d.1.answer (inl (d.0, left_keeps (choice (get_or s.strategy u None)) d.1))
    left_step (choice_of u) (inr d) = left_call (choice_of u) (refused 30) d.1.answer (inr (d.0, left_keeps (refused 30) d.1))
    left_step rounds_shown d = left_call rounds_shown (number s.shown) d.answer (left_keeps (number s.shown) d)
    left_step (question q) d = record {
      history = r.history;
      without = left_out q a r.without;
      life = subst₂ (λ (x : List (List (Option ℕ))) (y : State V). Life o m unasked r.history x y) (sym d.past) (sym d.state) r.life;
    }

  -- every life is one without questions, to which questions were added
  pub forgets : {h : List (Event Q V A)} {ss : List (List (Option ℕ))} {s : State V} → Life o m ask h ss s → Left h ss s
  forgets set_up = record { history = []; without = none; life = set_up }
  forgets (after {h = h} {ss = ss} {ss' = ss'} {s = s} {s' = s'} c a l d) = left_step h ss s (forgets l) a ss' s' c d

  -- what the last call of a life did, where the life before it is known
  last_step : (l : Laws o) → Well o m → {h : List (Event ⊥ V ⊥)} {ss ss' : List (List (Option ℕ))} {s s' : State V} {c : Call ⊥} {a : Answer V ⊥} →
      Life o m unasked h ss s → Life o m unasked (event c a ∷ h) ss' s' → Does o m unasked c ss s a ss' s'
  last_step l well {ss' = ss'} {s' = s'} {c = c} {a = a} k (after c' a' j d) =
      let r = same o m unasked l well j k refl in
      subst₂ (λ (x : List (List (Option ℕ))) (y : State V). Does o m unasked c x y a ss' s') r.1 r.2 d

  module _ (l : Laws o) (well : Well o m) where
    -- a call of an analysis does the same to a life with questions
    pub asked_on : (c : Call ⊥) (a : Answer V ⊥) (s s' : State V) → Prolongs o m c a s s' → GoesOn o m ask (call_with c) (answer_with a) s s'
    asked_on c a s s' p h ss k =
        let r = forgets k in
        let q = p r.history ss r.life in
        let k' = after (call_with c) (answer_with a) k (does_with c a ss q.0 s s' (last_step l well r.life q.1)) in
        (q.0, k', promised o m ask l well k')

    -- a question is answered, and changes nothing
    pub question_on : (q : Q) (s : State V) → GoesOn o m ask (question q) (told (ask s q)) s s
    question_on q s h ss k = let k' = after (question q) (told (ask s q)) k (does_question o m ask s q ss) in (ss, k', promised o m ask l well k')

    -- at set-up, whatever is asked besides
    pub begins_with : Life o m ask [] [] (begun o m) × Promises o m {Q = Q} {A = A} [] [] (begun o m)
    begins_with = (set_up, promised o m ask l well set_up)
