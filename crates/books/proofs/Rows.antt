-- Books that are made by a function of the unknown: what they answer. Alternatives that are made by a function of their number.
use Rattle.std.specs.Prelude.{◌≡◌, ℕ, zero, suc, ◌+◌, ◌<◌, ◌≤◌, Bool, true, false, cond, List, [], map, length, Some, None, Ok, Err, nat_lt, slice_index_or, refl}
use Rattle.std.proofs.Common.{sym, ap, ◌∙◌, arith, lt-ltb, le-ltb, not-suc-le-zero}
use Rattle.std.specs.List.{range_with_len}
use Rattle.std.proofs.lemmas.List.FromFn.{length-map-range_with_len, get_or-map-range_with_len}
use Rattle.std.proofs.lemmas.List.{get_or_past}
use Rattle.base.specs.Reasons.{nowhere}
use Rattle.base.specs.declared.Reason.TheVariants.{NotThere}
use Rattle.books.specs.Books.{nth}
use Rattle.books.specs.Forms.{Among}
use Rattle.books.specs.Forms.Among.{only, first, second}
use Rattle.books.specs.Questions.{found, counted, alternative}
use Rattle.books.specs.declared.Term.{Term}
use Rattle.books.specs.declared.Terms.{Terms}
use Rattle.books.specs.declared.Terms.TheVariants.{One, Two}

-- how many unknowns there are
pub rows_long : {A : Type 0} (f : ℕ → List A) (n : ℕ) → length (map f (range_with_len 0 n)) ≡ n
rows_long f n = length-map-range_with_len f 0 n

module _ {A : Type 0} (f : ℕ → List A) (n u : ℕ) where
  -- the alternatives of an unknown that is there, and none of one that is not
  pub row_inside : u < n → slice_index_or (map f (range_with_len 0 n)) u [] ≡ f u
  row_inside h = get_or-map-range_with_len f 0 n u u [] h (omega arith)

  pub row_past : n ≤ u → slice_index_or (map f (range_with_len 0 n)) u [] ≡ []
  row_past h = let e = length-map-range_with_len f 0 n in get_or_past (map f (range_with_len 0 n)) u [] (omega arith)

  -- how many there are
  counts : (b : Bool) → nat_lt u (length (map f (range_with_len 0 n))) ≡ b →
      counted (map f (range_with_len 0 n)) u ≡ cond b (Ok (length (slice_index_or (map f (range_with_len 0 n)) u []))) (Err (nowhere NotThere))
  counts b e = ap (λ (t : Bool). cond t (Ok (length (slice_index_or (map f (range_with_len 0 n)) u []))) (Err (nowhere NotThere))) e

  pub counted_inside : u < n → Ok (length (f u)) ≡ counted (map f (range_with_len 0 n)) u
  counted_inside h =
      let e = length-map-range_with_len f 0 n in
      sym (counts true (lt-ltb _ _ (omega arith)) ∙ ap (λ (l : List A). Ok (length l)) (row_inside h))

  pub counted_past : n ≤ u → Err (nowhere NotThere) ≡ counted (map f (range_with_len 0 n)) u
  counted_past h = let e = length-map-range_with_len f 0 n in sym (counts false (le-ltb _ _ (omega arith)))

  -- which they are
  pub asked_inside : (k : ℕ) → u < n → found (nth (f u) k) ≡ alternative (map f (range_with_len 0 n)) u k
  asked_inside k h = ap (λ (l : List A). found (nth l k)) (sym (row_inside h))

  pub asked_past : (k : ℕ) → n ≤ u → Err (nowhere NotThere) ≡ alternative (map f (range_with_len 0 n)) u k
  asked_past k h = ap (λ (l : List A). found (nth l k)) (sym (row_past h))

-- what stands at a place of a list that is made by a function of the place
pub nth_inside_made : {A : Type 0} (g : ℕ → A) (a n k j : ℕ) → k < n → a + k ≡ j → nth (map g (range_with_len a n)) k ≡ Some (g j)
nth_inside_made g a zero k j h e = absurd (not-suc-le-zero h)
nth_inside_made g a (suc n) zero j h e = ap (λ (i : ℕ). Some (g i)) (omega arith)
nth_inside_made g a (suc n) (suc k) j h e = nth_inside_made g (a + 1) n k j (omega arith) (omega arith)

pub nth_past_made : {A : Type 0} (g : ℕ → A) (a n k : ℕ) → n ≤ k → nth (map g (range_with_len a n)) k ≡ None
nth_past_made g a zero k h = refl
nth_past_made g a (suc n) zero h = absurd (not-suc-le-zero h)
nth_past_made g a (suc n) (suc k) h = nth_past_made g (a + 1) n k (omega arith)

-- P holds of the only term, or of both, and so of each
module _ {V W : Type 0} (P : Term V W → Type 0) where
  abbrev pub AllTerms : Terms V W → Type 0
  AllTerms (One t) = P t
  AllTerms (Two t s) = P t × P s

  pub each_term : {t : Term V W} {ts : Terms V W} → Among t ts → AllTerms ts → P t
  each_term only h = h
  each_term first h = h.0
  each_term second h = h.1
