-- chains of counted rounds: joined, compared, and made up to a budget
use Rattle.std.proofs.Common.{◌≡◌, ℕ, zero, suc, ◌<◌, ◌≤◌, ◌⊎◌, List, [], ◌∷◌, ◌++◌, length, Option, sym, refl, ap, subst, ap₂, inl, inr, not-suc-le-zero, arith}
use native.Mathlib.Decide.{ℕ_discrete}
use Rattle.kinds.specs.Kinds.{Ops, Laws}
use Rattle.books.specs.Forms.{Well}
use Rattle.strategy_theory.specs.Solving.{improved, Values, Stage, Settled, Unsettled, Rounds}
use Rattle.strategy_theory.specs.Solving.Rounds.{start, round}
use Rattle.strategy_theory.specs.Theory.{Facts}
use Rattle.books.specs.declared.Alternative.{Alternative}
use Rattle.books.proofs.Order.{never_both}
use Rattle.strategy_theory.proofs.Chains.{rounds_stage}
use Rattle.strategy_theory.proofs.Ends.{after, after_values, resting_or_not}
use Rattle.strategy_theory.proofs.Stands.{facts}

module _ {V W : Type 0} (o : Ops V W) (m : List (List (Alternative V W))) where
  pub joined : {s₀ : List (Option ℕ)} {x₀ : List V} {s : List (Option ℕ)} {x : List V} {ss : List (List (Option ℕ))} → Rounds o m s₀ x₀ ss s x →
      {ts : List (List (Option ℕ))} {s' : List (Option ℕ)} {x' : List V} → Rounds o m s x ts s' x' → Rounds o m s₀ x₀ (ts ++ ss) s' x'
  joined r start = r
  joined r (round q un v) = round (joined r q) un v

  pub both_never : (x : List V) → Settled o m x → Unsettled o m x → ⊥
  both_never x h un = never_both (h un.0 un.1) un.2

  -- an earlier moment of a chain, k counted rounds from its start
  pub record Earlier (s₀ : List (Option ℕ)) (x₀ : List V) (k : ℕ) : Type 0 where
    pub ss : List (List (Option ℕ))
    pub s : List (Option ℕ)
    pub x : List V
    pub rounds : Rounds o m s₀ x₀ ss s x
    pub long : length ss ≡ k
    pub un : Unsettled o m x

  pub earlier : {s₀ : List (Option ℕ)} {x₀ : List V} {s : List (Option ℕ)} {x : List V} {ss : List (List (Option ℕ))} → Rounds o m s₀ x₀ ss s x → (k : ℕ) → k < length ss → Earlier s₀ x₀ k
  earlier start k h = absurd (not-suc-le-zero h)
  earlier {s₀ = s₀} {x₀ = x₀} (round {ss = ss} {s = s} {x = x} r un v) k h = go (earlier r k) (ℕ_discrete k (length ss))
    where
      go : (k < length ss → Earlier s₀ x₀ k) → Dec (k ≡ length ss) → Earlier s₀ x₀ k
      go ih (yes e) = record { ss = ss; s = s; x = x; rounds = r; long = sym e; un = un }
      go ih (no ne) = ih (omega arith)

  module _ (l : Laws o) (well : Well o m) where
    fact : Facts o m
    fact = facts o l m well

    pub settled_or_not : (x : List V) → Settled o m x ⊎ Unsettled o m x
    settled_or_not x = resting_or_not o l m well x (length m) (omega arith)

    -- chains of the same length from the same start are the same
    pub same_rounds : {s₀ : List (Option ℕ)} {x₀ : List V} {ss ss' : List (List (Option ℕ))} {s s' : List (Option ℕ)} {x x' : List V} →
        Rounds o m s₀ x₀ ss s x → Rounds o m s₀ x₀ ss' s' x' → length ss ≡ length ss' → (ss ≡ ss') × (s ≡ s') × (x ≡ x')
    same_rounds start start e = (refl, refl, refl)
    same_rounds start (round q un v) e = absurd (omega arith)
    same_rounds (round r un v) start e = absurd (omega arith)
    same_rounds (round {ss = ss} {s = s} {x = x} {x' = y} r un v) (round {ss = ss'} {s = s'} {x = x'} {x' = y'} q un' v') e =
        go (same_rounds r q (omega arith))
      where
        go : (ss ≡ ss') × (s ≡ s') × (x ≡ x') → (◌≡◌ {A = List (List (Option ℕ))} (s ∷ ss) (s' ∷ ss')) × (improved o m x s ≡ improved o m x' s') × (y ≡ y')
        go h =
            let e' : improved o m x s ≡ improved o m x' s' = ap₂ (improved o m) h.2 h.1 in
            (ap₂ {C = List (List (Option ℕ))} (λ (a : List (Option ℕ)) (b : List (List (Option ℕ))). a ∷ b) h.1 h.0, e', fact.one_value (improved o m x' s') y y' (subst (λ (z : List (Option ℕ)). Values o m z y) e' v) v')

    -- the rounds of a run of budget b
    pub record Ran (b : ℕ) (s : List (Option ℕ)) (x : List V) : Type 0 where
      pub ts : List (List (Option ℕ))
      pub s' : List (Option ℕ)
      pub x' : List V
      pub rounds : Rounds o m s x ts s' x'
      pub ended : (Settled o m x' × (length ts ≤ b)) ⊎ (Unsettled o m x' × (length ts ≡ b))

    module _ (s₀ : List (Option ℕ)) (x₀ : List V) (st₀ : Stage o m s₀ x₀) where
      abbrev Ended : ℕ → List (List (Option ℕ)) → List V → Type 0
      Ended b ts x' = (Settled o m x' × (length ts ≤ b)) ⊎ (Unsettled o m x' × (length ts ≡ b))

      ended : (b : ℕ) (ts : List (List (Option ℕ))) (x' : List V) → length ts ≡ b → Settled o m x' ⊎ Unsettled o m x' → Ended b ts x'
      ended b ts x' e (inl h) = inl (h, omega arith)
      ended b ts x' e (inr un) = inr (un, e)

      one_more : (b : ℕ) (ts : List (List (Option ℕ))) (s : List (Option ℕ)) (x : List V) → Rounds o m s₀ x₀ ts s x → Ended b ts x → Ran (suc b) s₀ x₀
      one_more b ts s x r (inl h) = record { ts = ts; s' = s; x' = x; rounds = r; ended = let g = h.1 in inl (h.0, omega arith) }
      one_more b ts s x r (inr h) =
          let st = rounds_stage o l m well s₀ x₀ st₀ r in
          record { ts = s ∷ ts; s' = improved o m x s; x' = after o l m well s x st; rounds = round r h.0 (after_values o l m well s x st); ended = let e = h.1 in ended (suc b) (s ∷ ts) (after o l m well s x st) (ap suc e) (settled_or_not (after o l m well s x st)) }

      pub ran : (b : ℕ) → Ran b s₀ x₀
      ran zero = record { ts = []; s' = s₀; x' = x₀; rounds = start; ended = ended zero [] x₀ refl (settled_or_not x₀) }
      ran (suc b) = let r = ran b in one_more b r.ts r.s' r.x' r.rounds r.ended
