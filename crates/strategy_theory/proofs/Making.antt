-- each call of an analysis, from what its code has computed to the life that goes on with it
use Rattle.std.proofs.Common.{◌≡◌, ℕ, zero, suc, ◌+◌, ◌<◌, ◌≤◌, min, Bool, List, [], ◌∷◌, ◌++◌, map, length, get_or, replicate, None, Option, sym, refl, ap, ◌∙◌, subst, inl, arith}
use Rattle.kinds.specs.Limits.{most_rounds}
use Rattle.kinds.specs.Kinds.{Ops, Laws}
use Rattle.books.specs.Books.{at}
use Rattle.books.specs.Forms.{Well}
use Rattle.books.specs.Entries.{values, choices}
use Rattle.books.specs.declared.Alternative.{Alternative}
use Rattle.books.specs.declared.Entry.{Entry}
use Rattle.strategy_theory.specs.Theory.{all_least}
use Rattle.strategy_theory.specs.Steps.{Ready, Ran}
use Rattle.strategy_theory.specs.Lives.{State, Call, Answer, Event, begun, Runs, Does, Life}
use Rattle.strategy_theory.specs.Lives.Call.{one_round, run, restart, value_of, choice_of, rounds_shown}
use Rattle.strategy_theory.specs.Lives.Answer.{made, done, value, choice, number, refused}
use Rattle.strategy_theory.specs.Lives.Life.{set_up, after}
use Rattle.strategy_theory.specs.Calls.{state, unasked, fresh_entry, fresh, Begins, Prolongs}
use Rattle.strategy_theory.proofs.Keeping.{promised}
use Rattle.strategy_theory.proofs.Turns.{short_rounds, ready_long}
use Rattle.strategy_theory.proofs.Calls.{does_refuse, does_value, does_no_value, does_choice, does_no_choice, does_rounds}

map_replicate : {X Y : Type 0} (f : X → Y) (n : ℕ) (d : X) → map f (replicate n d) ≡ replicate n (f d)
map_replicate f zero d = refl
map_replicate f (suc n) d = ap (λ (ys : List _). f d ∷ ys) (map_replicate f n d)

module _ {V W : Type 0} (o : Ops V W) (l : Laws o) where
  pub fresh_state : (m : List (List (Alternative V W))) (n : ℕ) → n ≡ length m → state (fresh o n) 0 ≡ begun o m
  fresh_state m n e = ap (λ (k : ℕ). state (fresh o k) 0) e ∙
      ap (λ (x : List V). record { strategy = choices (fresh o (length m)); values = x; shown = 0 }) (map_replicate (λ (e : Entry V). e.value) (length m) (fresh_entry o)) ∙
      ap (λ (s : List (Option ℕ)). record { strategy = s; values = all_least o (length m); shown = 0 }) (map_replicate (λ (e : Entry V). e.choice) (length m) (fresh_entry o))

  module _ (m : List (List (Alternative V W))) (well : Well o m) where
    pub begins : (n : ℕ) → n ≡ length m → Begins o m (state (fresh o n) 0)
    begins n e = subst (λ (s : State V). Begins o m s) (sym (fresh_state m n e)) (record { life = set_up; promises = promised o m unasked l well set_up })

    pub ready_of : (es : List (Entry V)) (n : ℕ) (h : List (Event ⊥ V ⊥)) (ss : List (List (Option ℕ))) → Life o m unasked h ss (state es n) → Ready o m es
    ready_of es n h ss life = let p = promised o m unasked l well life in record { stage = p.stage; short = short_rounds o l m well p.rounds }

    -- what a call does to a list that rounds can go on from carries every life on
    pub goes_on : (c : Call ⊥) (a : Answer V ⊥) (es : List (Entry V)) (n : ℕ) (s' : State V) → (Ready o m es → (ss : List (List (Option ℕ))) → (ss' : List (List (Option ℕ))) × Does o m unasked c ss (state es n) a ss' s') →
        Prolongs o m c a (state es n) s'
    goes_on c a es n s' d h ss life =
        let r = d (ready_of es n h ss life) ss in
        (r.0, after c a life r.1, promised o m unasked l well (after c a life r.1))

    pub runs_of : (b : ℕ) (es : List (Entry V)) (n k : ℕ) (t : Bool) (es' : List (Entry V)) (n' : ℕ) → (Ready o m es → Ran o m b es k t es') → k ≤ b → n' ≡ min (n + k) most_rounds →
        Ready o m es → (ss : List (List (Option ℕ))) → (ss' : List (List (Option ℕ))) × Runs o m {A = ⊥} b ss (state es n) (made k t) ss' (state es' n')
    runs_of b es n k t es' n' f le e r ss =
        let q = f r in
        (q.counts.ts ++ ss, record { k = k; settled = t; ts = q.counts.ts; answer = refl; past = refl; rounds = q.counts.rounds; counted = q.counts.counted; within = le; said = q.said; whole = q.whole; shown = omega arith })

    module _ (es : List (Entry V)) (n : ℕ) where
      pub makes_round : (k : ℕ) (t : Bool) (es' : List (Entry V)) (n' : ℕ) → (Ready o m es → Ran o m 1 es k t es') → k ≤ 1 → n' ≡ min (n + k) most_rounds → Prolongs o m one_round (made k t) (state es n) (state es' n')
      makes_round k t es' n' f le e = goes_on one_round (made k t) es n (state es' n') (runs_of 1 es n k t es' n' f le e)

      pub makes_run : (b k : ℕ) (t : Bool) (es' : List (Entry V)) (n' : ℕ) → b ≤ most_rounds → (Ready o m es → Ran o m b es k t es') → k ≤ b → n' ≡ min (n + k) most_rounds → Prolongs o m (run b) (made k t) (state es n) (state es' n')
      makes_run b k t es' n' h f le e = goes_on (run b) (made k t) es n (state es' n') (λ r ss. let p = runs_of b es n k t es' n' f le e r ss in (p.0, inl (h, p.1)))

      pub refuses_run : (b : ℕ) → most_rounds < b → Prolongs o m (run b) (refused 32) (state es n) (state es n)
      refuses_run b h = goes_on (run b) (refused 32) es n (state es n) (λ r ss. (ss, does_refuse o m unasked (state es n) b h ss))

      pub restarts : Prolongs o m restart done (state es n) (state (fresh o (length es)) 0)
      restarts = goes_on restart done es n _ (λ r ss. ([], record { answer = refl; past = refl; state = fresh_state m (length es) (ready_long o l m well es r) }))

      pub shows_value : (u : ℕ) (v : V) → u < length es → v ≡ at o (values es) u → Prolongs o m (value_of u) (value v) (state es n) (state es n)
      shows_value u v h e = goes_on (value_of u) (value v) es n (state es n)
          (λ r ss. let g = ready_long o l m well es r in (ss, subst (λ (y : V). Does o m unasked (value_of u) ss (state es n) (value y) ss (state es n)) (sym e) (does_value o m unasked (state es n) u (omega arith) ss)))

      pub refuses_value : (u : ℕ) → length es ≤ u → Prolongs o m (value_of u) (refused 30) (state es n) (state es n)
      refuses_value u h = goes_on (value_of u) (refused 30) es n (state es n) (λ r ss. let g = ready_long o l m well es r in (ss, does_no_value o m unasked (state es n) u (omega arith) ss))

      pub shows_choice : (u : ℕ) (k : Option ℕ) → u < length es → k ≡ get_or (choices es) u None → Prolongs o m (choice_of u) (choice k) (state es n) (state es n)
      shows_choice u k h e = goes_on (choice_of u) (choice k) es n (state es n)
          (λ r ss. let g = ready_long o l m well es r in (ss, subst (λ (j : Option ℕ). Does o m unasked (choice_of u) ss (state es n) (choice j) ss (state es n)) (sym e) (does_choice o m unasked (state es n) u (omega arith) ss)))

      pub refuses_choice : (u : ℕ) → length es ≤ u → Prolongs o m (choice_of u) (refused 30) (state es n) (state es n)
      refuses_choice u h = goes_on (choice_of u) (refused 30) es n (state es n) (λ r ss. let g = ready_long o l m well es r in (ss, does_no_choice o m unasked (state es n) u (omega arith) ss))

      pub shows_rounds : Prolongs o m rounds_shown (number n) (state es n) (state es n)
      shows_rounds = goes_on rounds_shown (number n) es n (state es n) (λ r ss. (ss, does_rounds o m unasked (state es n) ss))
