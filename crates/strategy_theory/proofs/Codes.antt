-- strategies as numbers
use Rattle.std.proofs.Common.{◌≡◌, ℕ, zero, suc, ◌+◌, ◌*◌, ◌<◌, ◌≤◌, List, [], ◌∷◌, length, get_or, Some, None, Option, refl, ap, ap₂, mul-le-mul_left, arith}
use native.Mathlib.Nat.{suc_inj}
use native.Mathlib.Decide.{dec_lt}
use Rattle.strategy_theory.specs.Solving.{count}

abbrev digit : Option ℕ → ℕ
digit None = 0
digit (Some k) = suc k

digit_same : (k j : Option ℕ) → digit k ≡ digit j → k ≡ j
digit_same None None e = refl
digit_same None (Some j) e = absurd (omega arith)
digit_same (Some k) None e = absurd (omega arith)
digit_same (Some k) (Some j) e = let h : k ≡ j = omega arith in ap {B = Option ℕ} Some h

module _ {A : Type 0} where
  abbrev pub InRange : List (List A) → List (Option ℕ) → Type 0
  InRange m s = (u k : ℕ) → get_or s u None ≡ Some k → k < length (get_or m u [])

  pub code : List (List A) → List (Option ℕ) → ℕ
  code [] s = 0
  code (l ∷ m) [] = 0
  code (l ∷ m) (k ∷ s) = digit k + suc (length l) * code m s

  digit_below : (l : List A) (k : Option ℕ) → ((j : ℕ) → k ≡ Some j → j < length l) → digit k ≤ length l
  digit_below l None h = omega arith
  digit_below l (Some j) h = h j refl

  pub code_below : (m : List (List A)) (s : List (Option ℕ)) → length s ≡ length m → InRange m s → code m s < count m
  unfolding code
  code_below [] s len r = omega arith
  code_below (l ∷ m) [] len r = absurd (omega arith)
  code_below (l ∷ m) (k ∷ s) len r =
      let h : code m s < count m = code_below m s (suc_inj len) (λ u. r (suc u)) in
      let d : digit k ≤ length l = digit_below l k (r zero) in
      let p : suc (length l) * suc (code m s) ≤ suc (length l) * count m = mul-le-mul_left (suc (length l)) h in
      omega arith

  pub code_same : (m : List (List A)) (s t : List (Option ℕ)) → length s ≡ length m → length t ≡ length m → InRange m s → InRange m t → code m s ≡ code m t → s ≡ t
  unfolding code
  code_same [] [] [] ls lt rs rt e = refl
  code_same [] (k ∷ s) t ls lt rs rt e = absurd (omega arith)
  code_same [] [] (j ∷ t) ls lt rs rt e = absurd (omega arith)
  code_same (l ∷ m) [] t ls lt rs rt e = absurd (omega arith)
  code_same (l ∷ m) (k ∷ s) [] ls lt rs rt e = absurd (omega arith)
  code_same (l ∷ m) (k ∷ s) (j ∷ t) ls lt rs rt e =
      let dk : digit k ≤ length l = digit_below l k (rs zero) in
      let dj : digit j ≤ length l = digit_below l j (rt zero) in
      let c : code m s ≡ code m t = same (code m s) (code m t) (digit k) (digit j) dk dj e in
      let q : suc (length l) * code m s ≡ suc (length l) * code m t = ap (λ (i : ℕ). suc (length l) * i) c in
      let d : digit k ≡ digit j = omega arith in
      ap₂ {C = List (Option ℕ)} (λ (a : Option ℕ) (b : List (Option ℕ)). a ∷ b) (digit_same k j d)
      (code_same m s t (suc_inj ls) (suc_inj lt) (λ u. rs (suc u)) (λ u. rt (suc u)) c)
    where
      same : (a b p q : ℕ) → p ≤ length l → q ≤ length l → p + suc (length l) * a ≡ q + suc (length l) * b → a ≡ b
      same a b p q hp hq h = go (dec_lt a b) (dec_lt b a)
        where
          go : Dec (a < b) → Dec (b < a) → a ≡ b
          go (yes lt) d = let f : suc (length l) * suc a ≤ suc (length l) * b = mul-le-mul_left (suc (length l)) lt in absurd (omega arith)
          go (no n) (yes lt) = let f : suc (length l) * suc b ≤ suc (length l) * a = mul-le-mul_left (suc (length l)) lt in absurd (omega arith)
          go (no n) (no k) = omega arith
