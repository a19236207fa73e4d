-- what the answers of a book say about its meaning
use Rattle.std.proofs.Common.{◌≡◌, ℕ, zero, suc, ◌+◌, ◌<◌, Bool, true, false, cond, ltb, List, [], ◌∷◌, ◌++◌, length, get_or, take, Some, None, Ok, Err, Option, Result, sym, refl, ap, ◌∙◌, not-suc-le-zero, add-one, arith, ltb-false}
use Rattle.std.proofs.lemmas.List.{get_or_past}
use Rattle.std.specs.Result.{result_unwrap_or}
use Rattle.base.specs.Reasons.{nowhere}
use Rattle.base.specs.declared.Refusal.{Refusal}
use Rattle.base.specs.declared.Reason.TheVariants.{NotThere}
use Rattle.books.specs.Books.{nth}
use Rattle.books.specs.Questions.{found, counted, alternative}
use Rattle.books.proofs.Worth.{no_option}

pub some_same : {A : Type 0} {a b : A} → Some a ≡ Some b → a ≡ b
some_same e = cc

ok_same : {A : Type 0} {a b : A} {E : Type 0} → ◌≡◌ {A = Result A E} (Ok a) (Ok b) → a ≡ b
ok_same e = cc

-- what stands at a place inside a list
pub nth_inside : {A : Type 0} (l : List A) (k : ℕ) → k < length l → (a : A) × (nth l k ≡ Some a)
nth_inside [] k h = absurd (not-suc-le-zero h)
nth_inside (a ∷ l) zero h = (a, refl)
nth_inside (a ∷ l) (suc k) h = nth_inside l k (omega arith)

pub inside_nth : {A : Type 0} (l : List A) (k : ℕ) (a : A) → nth l k ≡ Some a → k < length l
inside_nth [] k a e = absurd (no_option e)
inside_nth (b ∷ l) zero a e = omega arith
inside_nth (b ∷ l) (suc k) a e = let h = inside_nth l k a e in omega arith

pub take_nth : {A : Type 0} (l : List A) (k : ℕ) (a : A) → nth l k ≡ Some a → take (k + 1) l ≡ take k l ++ a ∷ []
take_nth l k a e = rw add-one (go l k e)
  where
    go : (bs : List _) (j : ℕ) → nth bs j ≡ Some a → take (suc j) bs ≡ take j bs ++ a ∷ []
    go [] j e = absurd (no_option e)
    go (b ∷ bs) zero e = ap (λ (c : _). c ∷ []) (some_same e)
    go (b ∷ bs) (suc j) e = ap (λ (cs : List _). b ∷ cs) (go bs j e)

-- an alternative that was answered, and one that has to be
pub found_ok : {A : Type 0} (x : Option A) (a : A) → Ok a ≡ found x → x ≡ Some a
found_ok None a e = let z : ◌≡◌ {A = ℕ} 0 1 = cc in absurd (omega arith)
found_ok (Some b) a e = ap (λ (c : _). Some c) (sym (ok_same e))

pub must_find : {A : Type 0} (m : List (List A)) (u k : ℕ) (r : Result A Refusal) → r ≡ alternative m u k → k < length (get_or m u []) → (a : A) × (r ≡ Ok a)
must_find m u k r e h = let p = nth_inside (get_or m u []) k h in (p.0, e ∙ ap (λ (y : Option _). found y) p.1)

-- the number of alternatives, 0 where it was refused
pub count_is : {A : Type 0} (m : List (List A)) (u n : ℕ) (r : Result ℕ Refusal) → r ≡ counted m u → n ≡ result_unwrap_or r 0 → n ≡ length (get_or m u [])
count_is m u n r e f = f ∙ ap (λ (y : Result ℕ Refusal). result_unwrap_or y 0) e ∙ go (ltb u (length m)) refl
  where
    go : (b : Bool) → ltb u (length m) ≡ b → result_unwrap_or (cond b (Ok (length (get_or m u []))) (Err (nowhere NotThere))) 0 ≡ length (get_or m u [])
    go true h = refl
    go false h = sym (ap length (get_or_past m u [] (ltb-false u (length m) h)))
