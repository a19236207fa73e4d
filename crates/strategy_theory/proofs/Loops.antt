-- steps of loops that compute a right side, the first alternative that reaches it, the improved strategy and the sweeps
use Rattle.std.proofs.Common.{◌≡◌, ℕ, zero, suc, ◌+◌, ◌-◌, ◌<◌, List, [], ◌∷◌, ◌++◌, length, set, Some, None, Option, ap, add-one, arith}
use Rattle.kinds.specs.Kinds.{Ops, Laws}
use Rattle.books.specs.Books.{terms}
use Rattle.books.specs.declared.Alternative.{Alternative}
use Rattle.std.proofs.lemmas.List.FromFn.{map-range_with_len_more}
use Rattle.books.specs.Forms.{Well}
use Rattle.strategy_theory.specs.Solving.{Stage, Rounds, count}
use Rattle.strategy_theory.specs.Sweeping.{relaxed, relaxed_by, swept, sweeps, opened, opening, Replaced}
use Rattle.strategy_theory.specs.Sweeping.Replaced.{again}
use Rattle.strategy_theory.proofs.Chains.{rounds_few}

module _ {V W : Type 0} (o : Ops V W) (l : Laws o) where
  -- a sweep, place by place
  module _ (c : ℕ → Option (Alternative V W)) where
    pub relaxed_at_none : (z : List V) (u : ℕ) → c u ≡ None → relaxed o c z u ≡ z
    relaxed_at_none z u e = ap (λ (k : Option (Alternative V W)). relaxed_by o z u k) e

    pub relaxed_at_some : (z : List V) (u : ℕ) (a : Alternative V W) → c u ≡ Some a → relaxed o c z u ≡ set z u (terms o z a.terms)
    relaxed_at_some z u a e = ap (λ (k : Option (Alternative V W)). relaxed_by o z u k) e

    pub swept_more : (z : List V) (i : ℕ) → swept o c z (i + 1) ≡ relaxed o c (swept o c z i) i
    swept_more z i = rw add-one

    pub sweeps_more : (n : ℕ) (z : List V) (k : ℕ) → sweeps o c n z (k + 1) ≡ swept o c (sweeps o c n z k) n
    sweeps_more n z k = rw add-one

    pub opening_more : (i : ℕ) → opening o c (i + 1) ≡ opening o c i ++ opened o (c i) ∷ []
    opening_more i = map-range_with_len_more (λ (u : ℕ). opened o (c u)) 0 i i (omega arith)

    pub replaced_swept : (n : ℕ) {z : List V} → Replaced o c n z → (i : ℕ) → Replaced o c n (swept o c z i)
    replaced_swept n r zero = r
    replaced_swept n r (suc i) = again i (replaced_swept n r i)

    pub replaced_sweeps : (n : ℕ) {z : List V} → Replaced o c n z → (k : ℕ) → Replaced o c n (sweeps o c n z k)
    replaced_sweeps n r zero = r
    replaced_sweeps n r (suc k) = replaced_swept n (replaced_sweeps n r k) n

  -- the measure of the rounds falls
  module _ (m : List (List (Alternative V W))) (well : Well o m) (s₀ : List (Option ℕ)) (x₀ : List V) (st₀ : Stage o m s₀ x₀) where
    pub rounds_fall : {ss : List (List (Option ℕ))} {s : List (Option ℕ)} {x : List V} → Rounds o m s₀ x₀ ss s x → count m - suc (length ss) < count m - length ss
    rounds_fall r = let h = rounds_few o l m well s₀ x₀ st₀ r in omega arith
