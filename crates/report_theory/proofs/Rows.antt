-- Lists of one length each, one behind the other, can be told apart.
use Rattle.std.proofs.Common.{◌≡◌, ℕ, zero, suc, ◌+◌, ◌<◌, ◌≤◌, List, [], ◌∷◌, ◌++◌, length, take, drop, sym, ap, ◌∙◌, subst, ⊎_elim, take_at, drop_at, length-append, arith}
use Rattle.std.proofs.lemmas.Bool.{cases_lt}
use Rattle.std.specs.Prelude.{flat_map}
use Rattle.std.specs.List.{range_with_len}

-- all the lists that f makes are of this length
abbrev pub Wide : {A : Type 0} → (ℕ → List A) → ℕ → Type 0
Wide f n = (p : ℕ) → length (f p) ≡ n

module _ {A : Type 0} (f h : ℕ → List A) where
  no_longer : (n m : ℕ) → n ≤ m → Wide f n → Wide h m → (ps : List ℕ) → length (flat_map f ps) ≤ length (flat_map h ps)
  no_longer n m i wf wh [] = omega arith
  no_longer n m i wf wh (p ∷ ps) =
      let r = no_longer n m i wf wh ps in
      omega (arith, wf p, wh p, length-append (f p) (flat_map f ps), length-append (h p) (flat_map h ps))

  never_wider : (n m : ℕ) → n < m → Wide f n → Wide h m → (p : ℕ) (ps : List ℕ) → flat_map f (p ∷ ps) ≡ flat_map h (p ∷ ps) → ⊥
  never_wider n m i wf wh p ps e =
      let r = no_longer n m (omega arith) wf wh ps in
      let l : length (f p ++ flat_map f ps) ≡ length (h p ++ flat_map h ps) = ap length e in
      omega (arith, wf p, wh p, length-append (f p) (flat_map f ps), length-append (h p) (flat_map h ps))

  -- of one length, they are the same one by one
  pub same_each : (n : ℕ) → Wide f n → Wide h n → (a m : ℕ) → flat_map f (range_with_len a m) ≡ flat_map h (range_with_len a m) → (p : ℕ) → a ≤ p → p < a + m → f p ≡ h p
  same_each n wf wh a zero e p i j = absurd (omega arith)
  same_each n wf wh a (suc m) e p i j =
      let fs = flat_map f (range_with_len (a + 1) m) in
      let hs = flat_map h (range_with_len (a + 1) m) in
      let here : f a ≡ h a = sym (take_at (f a) fs n (wf a)) ∙ ap (take n) e ∙ take_at (h a) hs n (wh a) in
      let rest : fs ≡ hs = sym (drop_at (f a) fs n (wf a)) ∙ ap (drop n) e ∙ drop_at (h a) hs n (wh a) in
      ⊎_elim (λ (k : a < p). same_each n wf wh (a + 1) m rest p (omega arith) (omega arith)) (λ (k : p ≤ a). subst (λ (q : ℕ). f q ≡ h q) (omega arith) here) (cases_lt a p)

-- they are of one length, if there are any
pub same_width : {A : Type 0} (f h : ℕ → List A) (n m q : ℕ) → Wide f n → Wide h m → 0 < q → flat_map f (range_with_len 0 q) ≡ flat_map h (range_with_len 0 q) → n ≡ m
same_width f h n m zero wf wh b e = absurd (omega arith)
same_width f h n m (suc q) wf wh b e =
    let x : n < m → ⊥ = λ i. never_wider f h n m i wf wh 0 (range_with_len (0 + 1) q) e in
    let y : m < n → ⊥ = λ i. never_wider h f m n i wh wf 0 (range_with_len (0 + 1) q) (sym e) in
    omega arith
