-- Names looked up in lists.
use Rattle.std.proofs.Common.{subst, nat_lt, ◌≡◌, ℕ, suc, ◌+◌, ◌<◌, Bool, true, false, ◌||◌, leb, List, [], ◌∷◌, ◌++◌, map, length, is_some, Some, None, vec_items, vec_len, Option, sym, refl, ap, ◌∙◌, arith}
use Rattle.std.proofs.lemmas.Bool.Decides.{nat_tests}
use Rattle.std.proofs.lemmas.List.{map-append, length-map}
use Rattle.std.specs.Global.{Vec}
use Rattle.std.specs.List.{position, position_or_len}
use Rattle.lexer.specs.Words.{same, among}
use Rattle.language_theory.specs.Graphs.{var_names, table_names, number_of}
use Rattle.language_theory.proofs.Names.{number_below, length_tables}
use Rattle.parser.specs.Models.{LooksUp, variable_of, table_of}
use Rattle.parser.specs.declared.Variable.{Variable}
use Rattle.parser.specs.declared.Table.{Table}

-- the names of variables and of tables
var_names_map : (vs : List Variable) → var_names (map variable_of vs) ≡ map (λ (v : Variable). vec_items v.name) vs
var_names_map [] = refl
var_names_map (v ∷ vs) = ap (λ (z : List (List ℕ)). vec_items v.name ∷ z) (var_names_map vs)

table_names_map : (ts : List Table) → table_names (map table_of ts) ≡ map (λ (t : Table). vec_items t.name) ts
table_names_map [] = refl
table_names_map (t ∷ ts) = ap (λ (z : List (List ℕ)). vec_items t.name ∷ z) (table_names_map ts)

pub length_of : {A B : Type 0} (f : A → B) (xs : List A) → length (map f xs) ≡ length xs
length_of f xs = length-map xs f

-- the first that is it, by its place among the things that have the names
module _ {A : Type 0} (f : A → List ℕ) (n : List ℕ) where
  first_of : (xs : List A) → number_of n (map f xs) ≡ position_or_len (λ x. same n (f x)) xs
  first_of [] = refl
  first_of (x ∷ xs) = either _ _ (same n (f x)) (first_of xs)
    where
      either : (i j : ℕ) (b : Bool) → i ≡ j → mathlib.Core.Bool.cond b 0 (suc i) ≡ mathlib.Core.Bool.cond (mathlib.Core.Bool.not b) (1 + j) 0
      either i j true e = refl
      either i j false e = omega arith

  there_is : (xs : List A) → among n (map f xs) ≡ nat_lt (position_or_len (λ x. same n (f x)) xs) (length xs)
  there_is [] = refl
  there_is (x ∷ xs) = either _ _ _ (same n (f x)) (there_is xs)
    where
      either : (i j : ℕ) (c b : Bool) → c ≡ nat_lt i j → (b || c) ≡ nat_lt (mathlib.Core.Bool.cond (mathlib.Core.Bool.not b) (1 + i) 0) (suc j)
      either i j c true e = grind (arith, nat_tests)
      either i j c false e = e ∙ grind (arith, nat_tests)

  pub looked_up : (xs : List A) (r : Option ℕ) → r ≡ position (λ x. same n (f x)) xs → LooksUp n (map f xs) r
  looked_up xs r e = subst (LooksUp n (map f xs)) (sym e) (go _ (there_is xs))
    where
      go : (b : Bool) → among n (map f xs) ≡ b → LooksUp n (map f xs) (mathlib.Core.Bool.cond b (Some (position_or_len (λ x. same n (f x)) xs)) None)
      go true h = (h, sym (first_of xs))
      go false h = h

-- the names of a slice of variables, or of tables
pub names_of_vars : (xs vs : List Variable) → xs ≡ vs → map (λ (v : Variable). vec_items v.name) xs ≡ var_names (map variable_of vs)
names_of_vars xs vs e = ap (map (λ (v : Variable). vec_items v.name)) e ∙ sym (var_names_map vs)

pub names_of_tables : (xs ts : List Table) → xs ≡ ts → map (λ (t : Table). vec_items t.name) xs ≡ table_names (map table_of ts)
names_of_tables xs ts e = ap (map (λ (t : Table). vec_items t.name)) e ∙ sym (table_names_map ts)

-- a table that is found is there
pub table_there : (ts : Vec Table) (n : List ℕ) (i : ℕ) → (among n (table_names (map table_of (vec_items ts))) ≡ true) × (i ≡ number_of n (table_names (map table_of (vec_items ts)))) → i < vec_len ts
table_there ts n i h =
    let b = number_below n (table_names (map table_of (vec_items ts))) h.0 in
    let a = length_tables (map table_of (vec_items ts)) in
    let l = length_of table_of (vec_items ts) in
    let k = ts.ok.0 in omega arith

pub is_there : (n : List ℕ) (ns ms : List (List ℕ)) → ns ≡ ms → (o : Option ℕ) → LooksUp n ns o → is_some o ≡ among n ms
is_there n ns ms e None h = sym (ap (among n) (sym e) ∙ h)
is_there n ns ms e (Some i) h = sym (ap (among n) (sym e) ∙ h.0)

-- one variable more, or one table more
pub one_more : {A B : Type 0} (f : A → B) (xs ys : List A) (x : A) (y : B) → ys ≡ xs ++ (x ∷ []) → f x ≡ y → map f ys ≡ map f xs ++ (y ∷ [])
one_more {B = B} f xs ys x y e h = ap (map f) e ∙ map-append f xs (x ∷ []) ∙ ap (λ (z : B). map f xs ++ (z ∷ [])) h

-- as many as are counted
pub counted : {A B : Type 0} (f : A → B) (xs : List A) (n : ℕ) → n ≡ length xs → leb 8 (length (map f xs)) ≡ leb 8 n
counted f xs n e = ap (leb 8) (length_of f xs ∙ sym e)
