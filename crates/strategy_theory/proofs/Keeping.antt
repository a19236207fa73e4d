-- what each call keeps
use Rattle.std.proofs.Common.{◌≡◌, ℕ, ◌+◌, ◌<◌, min, Bool, true, false, ◌↔◌, List, [], ◌∷◌, ◌++◌, length, Some, None, Option, sym, refl, ap, ◌∙◌, subst, subst₂, inl, inr, true≢false, arith}
use mathlib.Core.Path.{subst₃}
use Rattle.kinds.specs.Limits.{most_rounds}
use Rattle.kinds.specs.Kinds.{Ops, Laws}
use Rattle.books.specs.Books.{Solution, HoldsUp}
use Rattle.books.specs.Forms.{Well}
use Rattle.strategy_theory.specs.Solving.{Values, Stage, Settled, Rounds, count}
use Rattle.strategy_theory.specs.Solving.Rounds.{start}
use Rattle.strategy_theory.specs.Theory.{none_chosen, all_least, Below, Facts}
use Rattle.books.specs.declared.Alternative.{Alternative}
use Rattle.strategy_theory.proofs.Chains.{rounds_stage, rounds_under}
use Rattle.books.proofs.Order.{le_of_eq}
use Rattle.strategy_theory.proofs.Stands.{facts}
use Rattle.strategy_theory.specs.Lives.{State, Call, Answer, Event, event, budget, Keeps, begun, Runs, Restarts, Does, Life}
use Rattle.strategy_theory.specs.Lives.Call.{one_round, run, restart, value_of, choice_of, rounds_shown, question}
use Rattle.strategy_theory.specs.Lives.Answer.{made, done, value, choice, number, told, refused}
use Rattle.strategy_theory.specs.Lives.Life.{set_up, after}
use Rattle.strategy_theory.specs.Promises.{counted, since, says, last, EachWhole, Promises, Always}
use Rattle.strategy_theory.proofs.Histories.{joined}

-- the rounds that an answer says were made
abbrev said_made : {V A : Type 0} → Answer V A → Option ℕ
said_made (made k b) = Some k
said_made done = None
said_made (value x) = None
said_made (choice k) = None
said_made (number k) = None
said_made (told a) = None
said_made (refused k) = None

is_some : Option ℕ → Bool
is_some None = false
is_some (Some k) = true

no_some : (k : ℕ) → None ≡ Some k → ⊥
unfolding is_some
no_some k e = true≢false (sym (ap is_some e))

or_zero : Option ℕ → ℕ
or_zero None = 0
or_zero (Some k) = k

some_same : {a b : ℕ} → ◌≡◌ {A = Option ℕ} (Some a) (Some b) → a ≡ b
unfolding or_zero
some_same e = ap or_zero e

flag : {V A : Type 0} → Answer V A → Bool
flag (made k b) = b
flag done = true
flag (value x) = true
flag (choice k) = true
flag (number k) = true
flag (told a) = true
flag (refused k) = true

flag_same : {V A : Type 0} (j k : ℕ) (b d : Bool) → ◌≡◌ {A = Answer V A} (made j b) (made k d) → b ≡ d
unfolding flag
flag_same j k b d e = ap flag e

or_false : Option Bool → Bool
or_false None = false
or_false (Some b) = b

bool_same : {a b : Bool} → ◌≡◌ {A = Option Bool} (Some a) (Some b) → a ≡ b
unfolding or_false
bool_same e = ap or_false e

some_bool : Option Bool → Bool
some_bool None = false
some_bool (Some b) = true

no_bool : (b : Bool) → None ≡ Some b → ⊥
unfolding some_bool
no_bool b e = true≢false (sym (ap some_bool e))

long-++ : {A : Type 0} (xs ys : List A) → length (xs ++ ys) ≡ length ys + length xs
long-++ [] ys = omega arith
long-++ (x ∷ xs) ys = let e = long-++ xs ys in omega arith

module _ {V W Q A : Type 0} (o : Ops V W) (m : List (List (Alternative V W))) (ask : State V → Q → A) where
  -- what each call keeps
  pub record Kept (h : List (Event Q V A)) (ss : List (List (Option ℕ))) (s : State V) : Type 0 where
    pub rounds : Rounds o m (none_chosen (length m)) (all_least o (length m)) ss s.strategy s.values
    pub answered : length ss ≡ since h
    pub shown : s.shown ≡ min most_rounds (since h)
    pub whole : EachWhole h
    pub said : (b : Bool) → last h ≡ Some b → (b ≡ true) ↔ Settled o m s.values

  kept_first : Kept [] [] (begun o m)
  kept_first = record { rounds = start; answered = refl; shown = omega arith; whole = tt; said = λ b e. absurd (no_bool b e) }

  -- an answer that counts nothing
  record Quiet (b : Answer V A) : Type 0 where
    pub counts : (n : ℕ) → counted b n ≡ n
    pub silent : (r : Option Bool) → says b r ≡ r
    pub none : said_made b ≡ None

  kept_quiet : (c : Call Q) (b : Answer V A) → Quiet b → (h : List (Event Q V A)) (ss : List (List (Option ℕ))) (s : State V) → Kept h ss s →
      (a : Answer V A) (ss' : List (List (Option ℕ))) (s' : State V) → Keeps b ss s a ss' s' → Kept (event c a ∷ h) ss' s'
  kept_quiet c b q h ss s k a ss' s' d = subst₃ (λ (x : Answer V A) (y : List (List (Option ℕ))) (z : State V). Kept (event c x ∷ h) y z) (sym d.answer) (sym d.past) (sym d.state) here
    where
      here : Kept (event c b ∷ h) ss s
      here = record {
        rounds = k.rounds;
        answered = k.answered ∙ sym (q.counts (since h));
        shown = k.shown ∙ ap (λ (n : ℕ). min most_rounds n) (sym (q.counts (since h)));
        whole = (λ j n e f. absurd (no_some n (sym q.none ∙ ap said_made f)), k.whole);
        said = λ t e. k.said t (sym (q.silent (last h)) ∙ e);
      }

  kept_run : (c : Call Q) (b : ℕ) → budget c ≡ Some b → (h : List (Event Q V A)) (ss : List (List (Option ℕ))) (s : State V) → Kept h ss s →
      (a : Answer V A) (ss' : List (List (Option ℕ))) (s' : State V) → Runs o m b ss s a ss' s' → Kept (event c a ∷ h) ss' s'
  kept_run c b eb h ss s k a ss' s' d = subst₂ (λ (x : Answer V A) (y : List (List (Option ℕ))). Kept (event c x ∷ h) y s') (sym d.answer) (sym d.past) here
    where
      here : Kept (event c (made d.k d.settled) ∷ h) (d.ts ++ ss) s'
      here = record {
        rounds = joined o m k.rounds d.rounds;
        answered = long-++ d.ts ss ∙ (let e = k.answered in let f = d.counted in let g : length ss + length d.ts ≡ since h + d.k = omega arith in g);
        shown = let e = k.shown in let f = d.shown in let g : s'.shown ≡ min most_rounds (since h + d.k) = omega arith in g;
        whole = (λ j n e f. let p : n ≡ d.k = sym (some_same (ap said_made f)) in p ∙ d.whole (flag_same d.k n d.settled false f) ∙ some_same (sym eb ∙ e), k.whole);
        said = λ t e. subst (λ (y : Bool). (y ≡ true) ↔ Settled o m s'.values) (bool_same e) d.said;
      }

  kept_restart : (c : Call Q) (h : List (Event Q V A)) (ss : List (List (Option ℕ))) (s : State V) → Kept h ss s →
      (a : Answer V A) (ss' : List (List (Option ℕ))) (s' : State V) → Restarts o m a ss' s' → Kept (event c a ∷ h) ss' s'
  kept_restart c h ss s k a ss' s' d = subst₃ (λ (x : Answer V A) (y : List (List (Option ℕ))) (z : State V). Kept (event c x ∷ h) y z) (sym d.answer) (sym d.past) (sym d.state) here
    where
      here : Kept (event c done ∷ h) [] (begun o m)
      here = record {
        rounds = start;
        answered = refl;
        shown = omega arith;
        whole = (λ j n e f. absurd (no_some n (ap said_made f)), k.whole);
        said = λ b e. absurd (no_bool b e);
      }

  quiet : (b : Answer V A) → said_made b ≡ None → ((n : ℕ) → counted b n ≡ n) → ((r : Option Bool) → says b r ≡ r) → Quiet b
  quiet b e f g = record { counts = f; silent = g; none = e }

  pub kept_call : (c : Call Q) (h : List (Event Q V A)) (ss : List (List (Option ℕ))) (s : State V) → Kept h ss s →
      (a : Answer V A) (ss' : List (List (Option ℕ))) (s' : State V) → Does o m ask c ss s a ss' s' → Kept (event c a ∷ h) ss' s'
  kept_call one_round h ss s k a ss' s' d = kept_run one_round 1 refl h ss s k a ss' s' d
  kept_call (run b) h ss s k a ss' s' (inl d) = kept_run (run b) b refl h ss s k a ss' s' d.1
  kept_call (run b) h ss s k a ss' s' (inr d) = kept_quiet (run b) (refused 32) (quiet (refused 32) refl (λ n. refl) (λ r. refl)) h ss s k a ss' s' d.1
  kept_call restart h ss s k a ss' s' d = kept_restart restart h ss s k a ss' s' d
  kept_call (value_of u) h ss s k a ss' s' (inl d) = kept_quiet (value_of u) _ (quiet _ refl (λ n. refl) (λ r. refl)) h ss s k a ss' s' d.1
  kept_call (value_of u) h ss s k a ss' s' (inr d) = kept_quiet (value_of u) (refused 30) (quiet (refused 30) refl (λ n. refl) (λ r. refl)) h ss s k a ss' s' d.1
  kept_call (choice_of u) h ss s k a ss' s' (inl d) = kept_quiet (choice_of u) _ (quiet _ refl (λ n. refl) (λ r. refl)) h ss s k a ss' s' d.1
  kept_call (choice_of u) h ss s k a ss' s' (inr d) = kept_quiet (choice_of u) (refused 30) (quiet (refused 30) refl (λ n. refl) (λ r. refl)) h ss s k a ss' s' d.1
  kept_call rounds_shown h ss s k a ss' s' d = kept_quiet rounds_shown (number s.shown) (quiet (number s.shown) refl (λ n. refl) (λ r. refl)) h ss s k a ss' s' d
  kept_call (question q) h ss s k a ss' s' d = kept_quiet (question q) (told (ask s q)) (quiet (told (ask s q)) refl (λ n. refl) (λ r. refl)) h ss s k a ss' s' d

  pub kept : {h : List (Event Q V A)} {ss : List (List (Option ℕ))} {s : State V} → Life o m ask h ss s → Kept h ss s
  kept set_up = kept_first
  kept (after {h = h} {ss = ss} {ss' = ss'} {s = s} {s' = s'} c a l d) = kept_call c h ss s (kept l) a ss' s' d

  module _ (l : Laws o) (well : Well o m) where
    holds_up : (y : List V) → Solution o m y → HoldsUp o m y
    holds_up y q = record { long = q.long; under = λ u h. le_of_eq o l (sym (q.same u h)) }

    pub promises_of : (h : List (Event Q V A)) (ss : List (List (Option ℕ))) (s : State V) → Kept h ss s → Promises o m h ss s
    promises_of h ss s k = record {
      below = below;
      below_solutions = λ y q. below y (holds_up y q);
      said = λ b e. (λ p. (f.rounds s.strategy s.values st).rests.0 ((k.said b e).0 p), λ p. (k.said b e).1 ((f.rounds s.strategy s.values st).rests.1 p));
      least = λ q. let r = f.rest ss s.strategy s.values k.rounds q in record { solves = r.0; below = r.1 };
      rounds = k.rounds;
      differ = f.differ (none_chosen (length m)) (all_least o (length m)) f.begins ss s.strategy s.values k.rounds;
      answered = k.answered;
      few = subst (λ (n : ℕ). n < count m) k.answered (f.few (none_chosen (length m)) (all_least o (length m)) f.begins ss s.strategy s.values k.rounds);
      whole = k.whole;
      shown = k.shown;
      stage = st;
      values = here;
      sized = f.sizes.of_value s.strategy s.values here;
    }
      where
        f : Facts o m
        f = facts o l m well

        st : Stage o m s.strategy s.values
        st = rounds_stage o l m well (none_chosen (length m)) (all_least o (length m)) f.begins k.rounds

        here : Values o m s.strategy s.values
        here = record { long = st.x_long; value = λ u q. st.feasible.values u }

        below : (y : List V) → HoldsUp o m y → Below o s.values y
        below y q = rounds_under o l m well (none_chosen (length m)) (all_least o (length m)) f.begins k.rounds y q (f.begins_below y)

    pub promised : {h : List (Event Q V A)} {ss : List (List (Option ℕ))} {s : State V} → Life o m ask h ss s → Promises o m h ss s
    promised {h} {ss} {s} life = promises_of h ss s (kept life)

    pub always : {h : List (Event Q V A)} {ss : List (List (Option ℕ))} {s : State V} (life : Life o m ask h ss s) → Always o m ask life
    always set_up = promised set_up
    always (after c a life d) = (always life, promised (after c a life d))
