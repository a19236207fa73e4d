-- The books of the families are well formed.
use Rattle.std.specs.Prelude.{◌≡◌, ℕ, zero, suc, ◌+◌, ◌-◌, ◌%◌, ◌<◌, ◌≤◌, Bool, true, false, cond, List, [], ◌∷◌, length, ℤ, pos, Some, ◌==◌, nat_lt, slice_index_or, refl}
use Rattle.std.proofs.Common.{sym, subst, arith, le-leb, ltb-true, ltb-false}
use Rattle.std.proofs.lemmas.Bool.{eqb-false, cond_both}
use Rattle.kinds.specs.Limits.{most_unknowns, most_alternatives}
use Rattle.kinds.specs.Values.{bounds, most_size}
use Rattle.kinds.specs.declared.bound.Bound.{Bound}
use Rattle.kinds.specs.declared.bound.Bound.TheVariants.{Whole}
use Rattle.books.specs.Books.{nth}
use Rattle.books.specs.Forms.{Threshold, WellTerm, WellAlternative, Well}
use Rattle.books.specs.declared.Alternative.{Alternative}
use Rattle.books.proofs.Worth.{no_option}
use Rattle.books.proofs.Asked.{some_same}
use Rattle.books.proofs.Rows.{rows_long, row_inside, row_past, each_term}
use Rattle.bench.specs.Shapes.{ground_of, over, capped, chain, backward, ring, grid, height, entry_to, row, family_equations}
use Rattle.bench.specs.declared.shaped.Shape.{Shape}
use Rattle.bench.specs.declared.shaped.Shape.TheVariants.{Chain, Reverse, Ring, Grid}

-- P holds of each item
abbrev Each : {A : Type 0} → (A → Type 0) → List A → Type 0
Each P [] = Unit {0}
Each P (a ∷ l) = P a × Each P l

each_nth : {A : Type 0} (P : A → Type 0) (l : List A) (k : ℕ) (a : A) → Each P l → nth l k ≡ Some a → P a
each_nth P [] k a h e = absurd (no_option e)
each_nth P (b ∷ l) zero a h e = subst (λ (c : _). P c) (some_same e) h.0
each_nth P (b ∷ l) (suc k) a h e = each_nth P l k a h.1 e

module _ (n : ℕ) where
  -- a number of allowed size as a constant
  sized : (c : ℕ) → c ≤ most_size → Threshold bounds (Whole (pos c))
  sized c h = (le-leb c most_size h, λ e. let z : ◌≡◌ {A = ℕ} 0 1 = cc in omega arith)

  ground_fits : WellAlternative bounds n ground_of
  ground_fits = record { test = tt; each = λ t i. each_term (WellTerm bounds n) i (sized 0 (omega arith)) }

  over_fits : (v : ℕ) → v < n → WellAlternative bounds n (over v)
  over_fits v h = record { test = tt; each = λ t i. each_term (WellTerm bounds n) i (h, refl) }

  capped_fits : (v c : ℕ) → v < n → c ≤ most_size → WellAlternative bounds n (capped v c)
  capped_fits v c h s = record { test = tt; each = λ t i. each_term (WellTerm bounds n) i ((h, refl), sized c s) }

  -- the alternatives of an unknown: k at most, and well formed
  record RowFits (k : ℕ) (l : List (Alternative Bound ℤ)) : Type 0 where
    few : length l ≤ k
    fine : Each (WellAlternative bounds n) l

  chain_fits : (u : ℕ) → u < n → RowFits most_alternatives (chain u)
  chain_fits u h = record {
    few = omega arith;
    fine = (cond_both (u == 0) ground_of (over (u - 1)) (WellAlternative bounds n) (λ e. ground_fits) (λ e. over_fits (u - 1) (omega arith)), tt);
  }

  backward_fits : (u : ℕ) → u < n → RowFits most_alternatives (backward n u)
  backward_fits u h = record {
    few = omega arith;
    fine = (cond_both (u + 1 == n) ground_of (over (u + 1)) (WellAlternative bounds n) (λ e. ground_fits) (λ e. let d = eqb-false (u + 1) n e in over_fits (u + 1) (omega arith)), tt);
  }

  ring_fits : (u : ℕ) → u < n → RowFits most_alternatives (ring n u)
  ring_fits u h = cond_both (u == 0) (ground_of ∷ capped (n - 1) 1000000 ∷ []) (over (u - 1) ∷ []) (RowFits most_alternatives)
      (λ e. record { few = omega arith; fine = (ground_fits, (capped_fits (n - 1) 1000000 (omega arith) (omega arith), tt)) })
      (λ e. record { few = omega arith; fine = (over_fits (u - 1) (omega arith), tt) })

  -- of a grid: what comes in, what comes from the left besides, and all
  entry_fits : (u : ℕ) → u < n → WellAlternative bounds n (entry_to u)
  entry_fits u h = cond_both (u == 0) ground_of (over (cond (nat_lt u 8) (u - 1) (u - 8))) (WellAlternative bounds n) (λ e. ground_fits) (λ e. over_fits _ (below (nat_lt u 8)))
    where
      below : (b : Bool) → cond b (u - 1) (u - 8) < n
      below true = omega arith
      below false = omega arith

  left_fits : (u : ℕ) → u < n → RowFits 1 (cond (nat_lt u 8) [] (cond (u % 8 == 0) [] (over (u - 1) ∷ [])))
  left_fits u h = cond_both (nat_lt u 8) [] (cond (u % 8 == 0) [] (over (u - 1) ∷ [])) (RowFits 1)
      (λ e. record { few = omega arith; fine = tt })
      (λ e. cond_both (u % 8 == 0) [] (over (u - 1) ∷ []) (RowFits 1)
      (λ d. record { few = omega arith; fine = tt })
      (λ d. record { few = omega arith; fine = (over_fits (u - 1) (omega arith), tt) }))

  grid_fits : (u : ℕ) → n ≤ most_unknowns → u < n → RowFits most_alternatives (grid u)
  grid_fits u s h =
      let l = left_fits u h in
      record { few = let k = l.few in omega arith; fine = (capped_fits u (height u) h (omega arith), (entry_fits u h, l.fine)) }

  row_fits : (t : Shape) (u : ℕ) → n ≤ most_unknowns → u < n → RowFits most_alternatives (row t n u)
  row_fits Chain u s h = chain_fits u h
  row_fits Reverse u s h = backward_fits u h
  row_fits Ring u s h = ring_fits u h
  row_fits Grid u s h = grid_fits u s h

  -- all alternatives of an unknown, of those past the end too
  all_fits : (t : Shape) (u : ℕ) → n ≤ most_unknowns → RowFits most_alternatives (slice_index_or (family_equations t n) u [])
  all_fits t u s = go (nat_lt u n) refl
    where
      go : (b : Bool) → nat_lt u n ≡ b → RowFits most_alternatives (slice_index_or (family_equations t n) u [])
      go true e =
          let h = ltb-true u n e in
          subst (λ (l : List (Alternative Bound ℤ)). RowFits most_alternatives l) (sym (row_inside (row t n) n u h)) (row_fits t u s h)
      go false e =
          subst (λ (l : List (Alternative Bound ℤ)). RowFits most_alternatives l) (sym (row_past (row t n) n u (ltb-false u n e))) (record { few = omega arith; fine = tt })

pub fits : (t : Shape) (n : ℕ) → n ≤ most_unknowns → Well bounds (family_equations t n)
fits t n s =
    let e = rows_long (row t n) n in
    record {
      small = omega arith;
      few = λ u. (all_fits n t u s).few;
      fine = λ u k a i. subst (λ (m : ℕ). WellAlternative bounds m a) (sym e) (each_nth (WellAlternative bounds n) (slice_index_or (family_equations t n) u []) k a (all_fits n t u s).fine i);
    }
