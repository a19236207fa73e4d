-- the same calls get the same answers, and all calls can be made
use Rattle.std.proofs.Common.{◌≡◌, ℕ, ◌+◌, ◌<◌, ◌≤◌, min, Bool, true, false, ◌⊎◌, List, [], ◌∷◌, ◌++◌, length, get_or, None, Option, sym, refl, ap, ◌∙◌, subst, ap₂, inl, inr, true≢false, arith}
use mathlib.Core.Path.{subst₃}
use mathlib.Core.List.{head-eq_of_cons-eq, tail-eq_of_cons-eq}
use native.Mathlib.Decide.{dec_lt, dec_le}
use Rattle.kinds.specs.Limits.{most_rounds}
use Rattle.kinds.specs.Kinds.{Ops, Laws}
use Rattle.books.specs.Books.{at}
use Rattle.books.specs.Forms.{Well}
use Rattle.strategy_theory.specs.Solving.{Stage, Settled, Unsettled}
use Rattle.books.specs.declared.Alternative.{Alternative}
use Rattle.std.proofs.lemmas.Bool.{cases_Bool}
use Rattle.strategy_theory.specs.Lives.{State, Call, Answer, Event, event, calls, Keeps, begun, Runs, Restarts, Does, Life}
use Rattle.strategy_theory.specs.Lives.Call.{one_round, run, restart, value_of, choice_of, rounds_shown, question}
use Rattle.strategy_theory.specs.Lives.Answer.{made, done, value, choice, number, told, refused}
use Rattle.strategy_theory.specs.Lives.Life.{set_up, after}
use Rattle.strategy_theory.proofs.Histories.{both_never, earlier, same_rounds, Ran, ran}
use Rattle.strategy_theory.proofs.Keeping.{promised}

module _ {V W Q A : Type 0} (o : Ops V W) (m : List (List (Alternative V W))) (ask : State V → Q → A) (l : Laws o) (well : Well o m) where
  -- a step that comes to the same
  pub record Same (a b : Answer V A) (ss ts : List (List (Option ℕ))) (s t : State V) : Type 0 where
    pub answer : a ≡ b
    pub past : ss ≡ ts
    pub state : s ≡ t

  module _ (ss : List (List (Option ℕ))) (s : State V) (a₁ a₂ : Answer V A) (ss₁ ss₂ : List (List (Option ℕ))) (s₁ s₂ : State V) where
    keeps_same : (b : Answer V A) → Keeps b ss s a₁ ss₁ s₁ → Keeps b ss s a₂ ss₂ s₂ → Same a₁ a₂ ss₁ ss₂ s₁ s₂
    keeps_same b p q = record { answer = p.answer ∙ sym q.answer; past = p.past ∙ sym q.past; state = p.state ∙ sym q.state }

    restarts_same : Restarts o m a₁ ss₁ s₁ → Restarts o m a₂ ss₂ s₂ → Same a₁ a₂ ss₁ ss₂ s₁ s₂
    restarts_same p q = record { answer = p.answer ∙ sym q.answer; past = p.past ∙ sym q.past; state = p.state ∙ sym q.state }

    -- a run that ends before its budget is settled, so no other run goes on from there
    never_longer : (b : ℕ) (p : Runs o m b ss s a₁ ss₁ s₁) (q : Runs o m b ss s a₂ ss₂ s₂) → p.k < q.k → ⊥
    never_longer b p q h = go (cases_Bool p.settled)
      where
        go : (p.settled ≡ true) ⊎ (p.settled ≡ false) → ⊥
        go (inr e) = let f : p.k ≡ b = p.whole e in let g : q.k ≤ b = q.within in omega arith
        go (inl e) =
            let f : length p.ts ≡ p.k = p.counted in
            let g : length q.ts ≡ q.k = q.counted in
            let i : length p.ts < length q.ts = omega arith in
            let r = earlier o m q.rounds (length p.ts) i in
            let j = same_rounds o m l well p.rounds r.rounds (sym r.long) in
            both_never o m r.x (subst (λ (x : List V). Settled o m x) j.2 (p.said.0 e)) r.un

  runs_same : (ss : List (List (Option ℕ))) (s : State V) (a₁ a₂ : Answer V A) (ss₁ ss₂ : List (List (Option ℕ))) (s₁ s₂ : State V) (b : ℕ) →
      Runs o m b ss s a₁ ss₁ s₁ → Runs o m b ss s a₂ ss₂ s₂ → Same a₁ a₂ ss₁ ss₂ s₁ s₂
  runs_same ss s a₁ a₂ ss₁ ss₂ s₁ s₂ b p q = record {
    answer = p.answer ∙ ap₂ {C = Answer V A} (λ (k : ℕ) (t : Bool). made k t) ks ends ∙ sym q.answer;
    past = p.past ∙ ap (λ (ts : List (List (Option ℕ))). ts ++ ss) all.0 ∙ sym q.past;
    state = λ i. record { strategy = all.1 i; values = all.2 i; shown = shows i };
  }
    where
      ks : p.k ≡ q.k
      ks = let f = never_longer ss s a₁ a₂ ss₁ ss₂ s₁ s₂ b p q in let g = never_longer ss s a₂ a₁ ss₂ ss₁ s₂ s₁ b q p in omega arith

      all : (p.ts ≡ q.ts) × (s₁.strategy ≡ s₂.strategy) × (s₁.values ≡ s₂.values)
      all = same_rounds o m l well p.rounds q.rounds (p.counted ∙ ks ∙ sym q.counted)

      shows : s₁.shown ≡ s₂.shown
      shows = p.shown ∙ ap (λ (k : ℕ). min most_rounds (s.shown + k)) ks ∙ sym q.shown

      by : (c d : Bool) → p.settled ≡ c → q.settled ≡ d → c ≡ d
      by true true e f = refl
      by false false e f = refl
      by true false e f = absurd (true≢false (sym (q.said.1 (subst (λ (x : List V). Settled o m x) all.2 (p.said.0 e))) ∙ f))
      by false true e f = absurd (true≢false (sym (p.said.1 (subst (λ (x : List V). Settled o m x) (sym all.2) (q.said.0 f))) ∙ e))

      ends : p.settled ≡ q.settled
      ends = by p.settled q.settled refl refl

  does_same : (c : Call Q) (ss : List (List (Option ℕ))) (s : State V) (a₁ a₂ : Answer V A) (ss₁ ss₂ : List (List (Option ℕ))) (s₁ s₂ : State V) →
      Does o m ask c ss s a₁ ss₁ s₁ → Does o m ask c ss s a₂ ss₂ s₂ → Same a₁ a₂ ss₁ ss₂ s₁ s₂
  does_same one_round ss s a₁ a₂ ss₁ ss₂ s₁ s₂ p q = runs_same ss s a₁ a₂ ss₁ ss₂ s₁ s₂ 1 p q
  does_same (run b) ss s a₁ a₂ ss₁ ss₂ s₁ s₂ (inl p) (inl q) = runs_same ss s a₁ a₂ ss₁ ss₂ s₁ s₂ b p.1 q.1
  does_same (run b) ss s a₁ a₂ ss₁ ss₂ s₁ s₂ (inl p) (inr q) = let e : b ≤ most_rounds = p.0 in let f : most_rounds < b = q.0 in absurd (omega arith)
  does_same (run b) ss s a₁ a₂ ss₁ ss₂ s₁ s₂ (inr p) (inl q) = let e : b ≤ most_rounds = q.0 in let f : most_rounds < b = p.0 in absurd (omega arith)
  does_same (run b) ss s a₁ a₂ ss₁ ss₂ s₁ s₂ (inr p) (inr q) = keeps_same ss s a₁ a₂ ss₁ ss₂ s₁ s₂ (refused 32) p.1 q.1
  does_same restart ss s a₁ a₂ ss₁ ss₂ s₁ s₂ p q = restarts_same ss s a₁ a₂ ss₁ ss₂ s₁ s₂ p q
  does_same (value_of u) ss s a₁ a₂ ss₁ ss₂ s₁ s₂ (inl p) (inl q) = keeps_same ss s a₁ a₂ ss₁ ss₂ s₁ s₂ (value (at o s.values u)) p.1 q.1
  does_same (value_of u) ss s a₁ a₂ ss₁ ss₂ s₁ s₂ (inl p) (inr q) = let e : u < length m = p.0 in let f : length m ≤ u = q.0 in absurd (omega arith)
  does_same (value_of u) ss s a₁ a₂ ss₁ ss₂ s₁ s₂ (inr p) (inl q) = let e : u < length m = q.0 in let f : length m ≤ u = p.0 in absurd (omega arith)
  does_same (value_of u) ss s a₁ a₂ ss₁ ss₂ s₁ s₂ (inr p) (inr q) = keeps_same ss s a₁ a₂ ss₁ ss₂ s₁ s₂ (refused 30) p.1 q.1
  does_same (choice_of u) ss s a₁ a₂ ss₁ ss₂ s₁ s₂ (inl p) (inl q) = keeps_same ss s a₁ a₂ ss₁ ss₂ s₁ s₂ (choice (get_or s.strategy u None)) p.1 q.1
  does_same (choice_of u) ss s a₁ a₂ ss₁ ss₂ s₁ s₂ (inl p) (inr q) = let e : u < length m = p.0 in let f : length m ≤ u = q.0 in absurd (omega arith)
  does_same (choice_of u) ss s a₁ a₂ ss₁ ss₂ s₁ s₂ (inr p) (inl q) = let e : u < length m = q.0 in let f : length m ≤ u = p.0 in absurd (omega arith)
  does_same (choice_of u) ss s a₁ a₂ ss₁ ss₂ s₁ s₂ (inr p) (inr q) = keeps_same ss s a₁ a₂ ss₁ ss₂ s₁ s₂ (refused 30) p.1 q.1
  does_same rounds_shown ss s a₁ a₂ ss₁ ss₂ s₁ s₂ p q = keeps_same ss s a₁ a₂ ss₁ ss₂ s₁ s₂ (number s.shown) p q
  does_same (question k) ss s a₁ a₂ ss₁ ss₂ s₁ s₂ p q = keeps_same ss s a₁ a₂ ss₁ ss₂ s₁ s₂ (told (ask s k)) p q

  no_calls : (c : Call Q) (cs : List (Call Q)) → ◌≡◌ {A = List (Call Q)} [] (c ∷ cs) → ⊥
  no_calls c cs e = let f : length {A = Call Q} [] ≡ length (c ∷ cs) = ap length e in omega arith

  -- the same calls get the same answers and come to the same state
  pub same : {h h' : List (Event Q V A)} {ss ss' : List (List (Option ℕ))} {s s' : State V} → Life o m ask h ss s → Life o m ask h' ss' s' → calls h ≡ calls h' → (h ≡ h') × (ss ≡ ss') × (s ≡ s')
  same set_up set_up e = (refl, refl, refl)
  same set_up (after {h = h} c a k d) e = absurd (no_calls c (calls h) e)
  same (after {h = h} c a k d) set_up e = absurd (no_calls c (calls h) (sym e))
  same (after {h = h} {ss = ss} {ss' = ss₁} {s = s} {s' = s₁} c a k d) (after {h = h'} {ss = ss'} {ss' = ss₂} {s = s'} {s' = s₂} c' a' k' d') e =
      go (head-eq_of_cons-eq e) (same k k' (tail-eq_of_cons-eq e))
    where
      go : c ≡ c' → (h ≡ h') × (ss ≡ ss') × (s ≡ s') → (◌≡◌ {A = List (Event Q V A)} (event c a ∷ h) (event c' a' ∷ h')) × (ss₁ ≡ ss₂) × (s₁ ≡ s₂)
      go f g =
          let d'' : Does o m ask c' ss' s' a ss₁ s₁ = subst₃ (λ (p : Call Q) (q : List (List (Option ℕ))) (r : State V). Does o m ask p q r a ss₁ s₁) f g.1 g.2 d in
          let r = does_same c' ss' s' a a' ss₁ ss₂ s₁ s₂ d'' d' in
          (λ i. event (f i) (r.answer i) ∷ g.0 i, r.past, r.state)

  -- a call that can be made
  record Done (c : Call Q) (ss : List (List (Option ℕ))) (s : State V) : Type 0 where
    pub a : Answer V A
    pub ss' : List (List (Option ℕ))
    pub s' : State V
    pub does : Does o m ask c ss s a ss' s'

  record RunMade (b : ℕ) (ss : List (List (Option ℕ))) (s : State V) : Type 0 where
    pub a : Answer V A
    pub ss' : List (List (Option ℕ))
    pub s' : State V
    pub runs : Runs o m b ss s a ss' s'

  run_of : (b : ℕ) (ss : List (List (Option ℕ))) (s : State V) → Ran o m l well b s.strategy s.values → RunMade b ss s
  run_of b ss s r = go r.ended
    where
      go : (Settled o m r.x' × (length r.ts ≤ b)) ⊎ (Unsettled o m r.x' × (length r.ts ≡ b)) → RunMade b ss s
      go (inl h) = record {
        a = made (length r.ts) true;
        ss' = r.ts ++ ss;
        s' = record { strategy = r.s'; values = r.x'; shown = min most_rounds (s.shown + length r.ts) };
        runs = record { k = length r.ts; settled = true; ts = r.ts; answer = refl; past = refl; rounds = r.rounds; counted = refl; within = h.1; said = (λ e. h.0, λ e. refl); whole = λ e. absurd (true≢false e); shown = refl };
      }
      go (inr h) = record {
        a = made (length r.ts) false;
        ss' = r.ts ++ ss;
        s' = record { strategy = r.s'; values = r.x'; shown = min most_rounds (s.shown + length r.ts) };
        runs = record { k = length r.ts; settled = false; ts = r.ts; answer = refl; past = refl; rounds = r.rounds; counted = refl; within = let e = h.1 in omega arith; said = (λ e. absurd (true≢false (sym e)), λ e. absurd (both_never o m r.x' e h.0)); whole = λ e. h.1; shown = refl };
      }

  kept_as : (b : Answer V A) (ss : List (List (Option ℕ))) (s : State V) → Keeps b ss s b ss s
  kept_as b ss s = record { answer = refl; past = refl; state = refl }

  done_call : (c : Call Q) (ss : List (List (Option ℕ))) (s : State V) → Stage o m s.strategy s.values → Done c ss s
  done_call one_round ss s st = let r = run_of 1 ss s (ran o m l well s.strategy s.values st 1) in record { a = r.a; ss' = r.ss'; s' = r.s'; does = r.runs }
  done_call (run b) ss s st = go (dec_le b most_rounds)
    where
      go : Dec (b ≤ most_rounds) → Done (run b) ss s
      go (yes h) = let r = run_of b ss s (ran o m l well s.strategy s.values st b) in record { a = r.a; ss' = r.ss'; s' = r.s'; does = inl (h, r.runs) }
      go (no h) = record { a = refused 32; ss' = ss; s' = s; does = inr (omega arith, kept_as (refused 32) ss s) }
  done_call restart ss s st = record { a = done; ss' = []; s' = begun o m; does = record { answer = refl; past = refl; state = refl } }
  done_call (value_of u) ss s st = go (dec_lt u (length m))
    where
      go : Dec (u < length m) → Done (value_of u) ss s
      go (yes h) = record { a = value (at o s.values u); ss' = ss; s' = s; does = inl (h, kept_as (value (at o s.values u)) ss s) }
      go (no h) = record { a = refused 30; ss' = ss; s' = s; does = inr (omega arith, kept_as (refused 30) ss s) }
  done_call (choice_of u) ss s st = go (dec_lt u (length m))
    where
      go : Dec (u < length m) → Done (choice_of u) ss s
      go (yes h) = record { a = choice (get_or s.strategy u None); ss' = ss; s' = s; does = inl (h, kept_as (choice (get_or s.strategy u None)) ss s) }
      go (no h) = record { a = refused 30; ss' = ss; s' = s; does = inr (omega arith, kept_as (refused 30) ss s) }
  done_call rounds_shown ss s st = record { a = number s.shown; ss' = ss; s' = s; does = kept_as (number s.shown) ss s }
  done_call (question q) ss s st = record { a = told (ask s q); ss' = ss; s' = s; does = kept_as (told (ask s q)) ss s }

  -- any calls can be made
  pub every : (cs : List (Call Q)) → (h : List (Event Q V A)) × (ss : List (List (Option ℕ))) × (s : State V) × Life o m ask h ss s × (calls h ≡ cs)
  every [] = ([], [], begun o m, set_up, refl)
  every (c ∷ cs) =
      let r = every cs in
      let d = done_call c r.1 r.2 (promised o m ask l well r.3).stage in
      (event c d.a ∷ r.0, d.ss', d.s', after c d.a r.3 d.does, ap {B = List (Call Q)} (λ (k : List (Call Q)). c ∷ k) r.4)
