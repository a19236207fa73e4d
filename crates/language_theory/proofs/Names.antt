-- The number of a declared name is below their count, and declared names that differ have different numbers.
use Rattle.std.proofs.Common.{◌≡◌, ℕ, suc, ◌<◌, Bool, true, false, cond, ◌||◌, eqb, List, [], ◌∷◌, length, sym, refl, ap, ◌∙◌, subst, arith}
use Rattle.std.proofs.lemmas.Bool.{false≢true, and_parts, and_from, eqb-true, eq-eqb}
use Rattle.lexer.specs.Words.{same, among}
use Rattle.language_theory.specs.Graphs.{Variable, Table, var_names, table_names, number_of}

pub number_below : (n : List ℕ) (ms : List (List ℕ)) → among n ms ≡ true → number_of n ms < length ms
number_below n [] h = absurd (false≢true h)
number_below n (m ∷ ms) h = go (same n m) h (number_below n ms)
  where
    go : (b : Bool) → (b || among n ms) ≡ true → (among n ms ≡ true → number_of n ms < length ms) → cond b 0 (suc (number_of n ms)) < suc (length ms)
    go true e ih = omega arith
    go false e ih = let k = ih e in omega arith

pub length_vars : (vs : List Variable) → length (var_names vs) ≡ length vs
length_vars [] = refl
length_vars (v ∷ vs) = ap suc (length_vars vs)

pub length_tables : (ts : List Table) → length (table_names ts) ≡ length ts
length_tables [] = refl
length_tables (t ∷ ts) = ap suc (length_tables ts)

same_equal : (n m : List ℕ) → same n m ≡ true → n ≡ m
same_equal [] [] h = refl
same_equal [] (y ∷ ys) h = absurd (false≢true h)
same_equal (x ∷ xs) [] h = absurd (false≢true h)
same_equal (x ∷ xs) (y ∷ ys) h =
    let k = and_parts (eqb x y) (same xs ys) h in
    let e = eqb-true x y k.0 in
    let es = same_equal xs ys k.1 in cc

same_self : (n : List ℕ) → same n n ≡ true
same_self [] = refl
same_self (x ∷ xs) = and_from (eqb x x) (same xs xs) (eq-eqb x x refl) (same_self xs)

pub apart : (ms : List (List ℕ)) (n m : List ℕ) → among n ms ≡ true → among m ms ≡ true → same n m ≡ false → number_of n ms ≡ number_of m ms → ⊥
apart [] n m a b d e = false≢true a
apart (x ∷ ms) n m a b d e = go (same n x) (same m x) refl refl a b e (λ h k. apart ms n m h k d)
  where
    go : (s t : Bool) → same n x ≡ s → same m x ≡ t → (s || among n ms) ≡ true → (t || among m ms) ≡ true → cond s 0 (suc (number_of n ms)) ≡ cond t 0 (suc (number_of m ms)) →
        (among n ms ≡ true → among m ms ≡ true → number_of n ms ≡ number_of m ms → ⊥) → ⊥
    go true true p q a b e ih =
        let k = same_equal n x p ∙ sym (same_equal m x q) in
        false≢true (sym d ∙ subst (λ (z : List ℕ). same n z ≡ true) k (same_self n))
    go true false p q a b e ih = cc
    go false true p q a b e ih = cc
    go false false p q a b e ih = ih a b cc
