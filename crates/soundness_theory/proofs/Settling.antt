-- the test whether an analysis is settled says that it is
use Rattle.std.proofs.Common.{◌≡◌, ℕ, zero, suc, ◌<◌, Bool, true, ◌↔◌, List, length, refl, sym, subst, arith, not-suc-le-zero}
use Rattle.std.proofs.lemmas.Bool.{and_from, and_parts}
use Rattle.std.proofs.Math.Decide.{ℕ_discrete}
use Rattle.kinds.specs.Kinds.{Ops}
use Rattle.books.specs.Books.{at, right}
use Rattle.books.specs.declared.Alternative.{Alternative}
use Rattle.strategy_theory.specs.Solving.{Settled}
use Rattle.soundness_theory.specs.Questions.{all_below, is_settled}

pub all_out : (f : ℕ → Bool) (n : ℕ) → all_below f n ≡ true → (u : ℕ) → u < n → f u ≡ true
all_out f zero e u h = absurd (not-suc-le-zero h)
all_out f (suc n) e u h = go (ℕ_discrete u n) (λ q. all_out f n (and_parts (f n) (all_below f n) e).1 u q)
  where
    go : Dec (u ≡ n) → (u < n → f u ≡ true) → f u ≡ true
    go (yes q) ih = subst (λ (j : ℕ). f j ≡ true) (sym q) (and_parts (f n) (all_below f n) e).0
    go (no q) ih = ih (omega arith)

pub all_in : (f : ℕ → Bool) (n : ℕ) → ((u : ℕ) → u < n → f u ≡ true) → all_below f n ≡ true
all_in f zero h = refl
all_in f (suc n) h = and_from (f n) (all_below f n) (h n (omega arith)) (all_in f n (λ u q. h u (omega arith)))

module _ {V W : Type 0} (o : Ops V W) (m : List (List (Alternative V W))) (x : List V) where
  pub settled_is : (is_settled o m x ≡ true) ↔ Settled o m x
  settled_is = (
    λ e u h. all_out (λ (i : ℕ). o.at_most (right o m x i) (at o x i)) (length m) e u h,
    λ h. all_in (λ (i : ℕ). o.at_most (right o m x i) (at o x i)) (length m) h,
  )
