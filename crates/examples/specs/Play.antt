-- Rounds played by computation.
use Rattle.std.specs.Prelude.{◌≡◌, ℕ, zero, suc, ◌<◌, Bool, true, false, cond, ◌&&◌, List, [], ◌∷◌, length, Option, refl}
use Rattle.std.proofs.Common.{sym, ap, subst, arith, not-suc-le-zero}
use Rattle.std.proofs.lemmas.Bool.{false≢true, and_parts}
use Rattle.std.proofs.Math.Decide.{ℕ_discrete}
use Rattle.kinds.specs.Kinds.{Ops, Laws}
use Rattle.books.specs.Books.{at, right}
use Rattle.books.specs.Forms.{Well}
use Rattle.books.specs.declared.Alternative.{Alternative}
use Rattle.strategy_theory.specs.Strategies.{chosen}
use Rattle.strategy_theory.specs.Solving.{improved, Settled, Rounds}
use Rattle.strategy_theory.specs.Solving.Rounds.{start, round}
use Rattle.strategy_theory.specs.Sweeping.{sweeps, opening}
use Rattle.strategy_theory.specs.Theory.{none_chosen, all_least}
use Rattle.strategy_theory.proofs.Theory.{start_stage}
use Rattle.strategy_theory.proofs.Chains.{rounds_stage, rest_is_least}
use Rattle.strategy_theory.proofs.Ends.{after_values}
use Rattle.examples.specs.Systems.{ComesTo}
use Rattle.books.specs.Fits.{book_fits}
use Rattle.books.proofs.Fits.{book_well}

-- f holds of each number below k
abbrev all : (ℕ → Bool) → ℕ → Bool
all f zero = true
all f (suc k) = f k && all f k

all_out : (f : ℕ → Bool) (k : ℕ) → all f k ≡ true → (v : ℕ) → v < k → f v ≡ true
all_out f zero e v h = absurd (not-suc-le-zero h)
all_out f (suc k) e v h = go (ℕ_discrete v k) (λ q. all_out f k (and_parts (f k) (all f k) e).1 v q)
  where
    go : Dec (v ≡ k) → (v < k → f v ≡ true) → f v ≡ true
    go (yes q) ih = subst (λ (j : ℕ). f j ≡ true) (sym q) (and_parts (f k) (all f k) e).0
    go (no q) ih = ih (omega arith)

-- f fails of some number below k
abbrev some_not : (ℕ → Bool) → ℕ → Bool
some_not f zero = false
some_not f (suc k) = cond (f k) (some_not f k) true

some_not_out : (f : ℕ → Bool) (k : ℕ) → some_not f k ≡ true → (u : ℕ) × (u < k) × (f u ≡ false)
some_not_out f zero e = absurd (false≢true e)
some_not_out f (suc k) e = go (f k) refl e (some_not_out f k)
  where
    go : (b : Bool) → f k ≡ b → cond b (some_not f k) true ≡ true → (some_not f k ≡ true → (u : ℕ) × (u < k) × (f u ≡ false)) → (u : ℕ) × (u < suc k) × (f u ≡ false)
    go true q h ih = let r = ih h in let g = r.1 in (r.0, omega arith, r.2)
    go false q h ih = (k, omega arith, q)

module _ {V W : Type 0} (o : Ops V W) (l : Laws o) (m : List (List (Alternative V W))) where
  -- a strategy and its values
  record Moment : Type 0 where
    pub s : List (Option ℕ)
    pub x : List V

  -- after one round more
  abbrev next : Moment → Moment
  next r = record {
    s = improved o m r.x r.s;
    x = sweeps o (chosen m (improved o m r.x r.s)) (length m) (opening o (chosen m (improved o m r.x r.s)) (length m)) (length m);
  }

  -- after k rounds from none chosen, and the strategies before
  abbrev play : ℕ → Moment
  play zero = record { s = none_chosen (length m); x = all_least o (length m) }
  play (suc k) = next (play k)

  abbrev pasts : ℕ → List (List (Option ℕ))
  pasts zero = []
  pasts (suc k) = (play k).s ∷ pasts k

  pasts_long : (k : ℕ) → length (pasts k) ≡ k
  pasts_long zero = refl
  pasts_long (suc k) = ap suc (pasts_long k)

  -- whether the right side of u is no greater, and whether one is after j rounds
  abbrev rests : List V → ℕ → Bool
  rests x u = o.at_most (right o m x u) (at o x u)

  abbrev moves : ℕ → Bool
  moves j = some_not (rests (play j).x) (length m)

  abbrev FromNone : List (List (Option ℕ)) → List (Option ℕ) → List V → Type 0
  FromNone ss s x = Rounds o m (none_chosen (length m)) (all_least o (length m)) ss s x

  module _ (w : Well o m) where
    played : (k : ℕ) → all moves k ≡ true → FromNone (pasts k) (play k).s (play k).x
    played zero e = start
    played (suc k) e = go (played k (and_parts (moves k) (all moves k) e).1)
      where
        go : FromNone (pasts k) (play k).s (play k).x → FromNone (pasts (suc k)) (play (suc k)).s (play (suc k)).x
        go r = round r (some_not_out (rests (play k).x) (length m) (and_parts (moves k) (all moves k) e).0)
            (after_values o l m w (play k).s (play k).x (rounds_stage o l m w (none_chosen (length m)) (all_least o (length m)) (start_stage o l m w) r))

  -- a book that passes the tests comes to rest at x: each of k rounds moves, and none does at x
  pub comes_to : book_fits o m ≡ true → (k : ℕ) (x : List V) → all moves k ≡ true → (play k).x ≡ x → all (rests x) (length m) ≡ true → ComesTo o m k x
  comes_to fits k x e f h =
      let w = book_well o l m fits in
      let r : FromNone (pasts k) (play k).s x = subst (λ (z : List V). FromNone (pasts k) (play k).s z) f (played w k e) in
      let settled : Settled o m x = λ u q. all_out (rests x) (length m) h u q in
      let q = rest_is_least o l m w r settled in
      record { well = w; ss = pasts k; s = (play k).s; rounds = r; number = pasts_long k; settled = settled; solves = q.0; least = q.1 }
