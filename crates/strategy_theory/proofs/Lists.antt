-- lists of distinct numbers
use Rattle.std.proofs.Common.{◌≡◌, ℕ, zero, suc, ◌<◌, ◌≤◌, ◌⊎◌, List, [], ◌∷◌, length, sym, refl, ap, ◌∙◌, subst, inl, inr, ⊎_elim, not-suc-le-zero, arith}
use native.Mathlib.Decide.{ℕ_discrete}
use Rattle.strategy_theory.specs.Strategies.{Passed}

-- no number stands twice
abbrev pub Distinct : List ℕ → Type 0
Distinct [] = Unit {0}
Distinct (v ∷ vs) = (Passed v vs → ⊥) × Distinct vs

abbrev pub Below : ℕ → List ℕ → Type 0
Below n [] = Unit {0}
Below n (v ∷ vs) = (v < n) × Below n vs

pub passed_or_not : (u : ℕ) (vs : List ℕ) → (Passed u vs) ⊎ (Passed u vs → ⊥)
passed_or_not u [] = inr (λ p. p)
passed_or_not u (v ∷ vs) = go (ℕ_discrete u v) (passed_or_not u vs)
  where
    go : Dec (u ≡ v) → (Passed u vs) ⊎ (Passed u vs → ⊥) → (Passed u (v ∷ vs)) ⊎ (Passed u (v ∷ vs) → ⊥)
    go (yes e) r = inl (inl e)
    go (no n) (inl p) = inl (inr p)
    go (no n) (inr k) = inr (⊎_elim n k)

-- vs without the one place of v
pub record Without (v : ℕ) (vs : List ℕ) : Type 0 where
  pub rest : List ℕ
  pub shorter : length vs ≡ suc (length rest)
  pub apart : Distinct rest
  pub from : (z : ℕ) → Passed z rest → (Passed z vs) × (z ≡ v → ⊥)

pub without : (v : ℕ) (vs : List ℕ) → Distinct vs → Passed v vs → Without v vs
without v [] d p = absurd p
without v (z ∷ vs) d (inl e) = record {
  rest = vs;
  shorter = refl;
  apart = d.1;
  from = λ y q. (inr q, λ (f : y ≡ v). d.0 (subst (λ (k : ℕ). Passed k vs) (f ∙ e) q));
}
without v (z ∷ vs) d (inr p) = go (without v vs d.1 p)
  where
    go : Without v vs → Without v (z ∷ vs)
    go r = record {
      rest = z ∷ r.rest;
      shorter = ap suc r.shorter;
      apart = (λ q. d.0 (r.from z q).0, r.apart);
      from = λ y. elim [ inl e ↦ (inl e, λ (f : y ≡ v). d.0 (subst (λ (k : ℕ). Passed k vs) (sym f ∙ e) p)) | inr q ↦ (inr (r.from y q).0, (r.from y q).1) ];
    }

-- distinct numbers below n are at most n
pub pigeonhole : (n : ℕ) (vs : List ℕ) → Distinct vs → ((z : ℕ) → Passed z vs → z < n) → length vs ≤ n
pigeonhole zero [] d b = omega arith
pigeonhole zero (v ∷ vs) d b = absurd (not-suc-le-zero (b v (inl refl)))
pigeonhole (suc n) vs d b = go (pigeonhole n) (passed_or_not n vs)
  where
    go : ((ws : List ℕ) → Distinct ws → ((z : ℕ) → Passed z ws → z < n) → length ws ≤ n) → (Passed n vs) ⊎ (Passed n vs → ⊥) → length vs ≤ suc n
    go ih (inl p) =
        let r = without n vs d p in
        let k : length r.rest ≤ n = ih r.rest r.apart (λ z q.
        let f = r.from z q in let h : z < suc n = b z f.0 in let g : z ≡ n → ⊥ = f.1 in omega arith) in
        let e = r.shorter in omega arith
    go ih (inr k) =
        let h : length vs ≤ n = ih vs d (λ z q.
        let h : z < suc n = b z q in
        let g : z ≡ n → ⊥ = λ (e : z ≡ n). k (subst (λ (y : ℕ). Passed y vs) e q) in omega arith) in
        omega arith
