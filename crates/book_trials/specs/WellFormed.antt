-- Lists of drawn books by their places, and that drawn books are well formed.
use Rattle.std.specs.Prelude.{◌≡◌, ℕ, ◌%◌, ◌<◌, ◌≤◌, true, List, [], length, Some, None, Ok, Err, ◌==◌, nat_lt, slice_index_or, refl}
use Rattle.std.proofs.Common.{sym, ap, ◌∙◌, subst, ⊎_elim, arith, mod-lt}
use Rattle.std.proofs.lemmas.Bool.{cases_lt, cond_both}
use Rattle.std.proofs.lemmas.Bool.Decides.{nat_tests}
use Rattle.std.proofs.lemmas.List.FromFn.{length-map-range_with_len}
use Rattle.base.specs.Reasons.{nowhere}
use Rattle.base.specs.declared.Reason.TheVariants.{NotThere}
use Rattle.kinds.specs.Limits.{most_alternatives}
use Rattle.kinds.specs.Kinds.{Ops}
use Rattle.kinds.specs.Values.{bounds, grades, small}
use Rattle.kinds.specs.declared.bound.Bound.TheVariants as bound
use Rattle.kinds.specs.declared.grade.Grade.TheVariants as grade
use Rattle.books.specs.Books.{nth}
use Rattle.books.specs.Forms.{Threshold, WellTest, WellTerm, WellAlternative, Well}
use Rattle.books.specs.Questions.{found, counted, alternative}
use Rattle.books.specs.declared.Term.TheVariants.{Constant, Shifted}
use Rattle.books.specs.declared.Test.TheVariants.{Always, Single, Joint}
use Rattle.books.specs.declared.Terms.TheVariants.{One, Two}
use Rattle.books.specs.declared.Alternative.{Alternative}
use Rattle.books.proofs.Worth.{no_option}
use Rattle.books.proofs.Asked.{some_same}
use Rattle.books.proofs.Rows.{rows_long, row_inside, row_past, counted_inside, counted_past, nth_inside_made, nth_past_made, AllTerms, each_term}
use Rattle.book_trials.specs.Keys.{drawn, key_of, at_part}
use Rattle.book_trials.specs.Makers.{Maker, whole_from, weight_from, grade_from, bound_maker, grade_maker}
use Rattle.book_trials.specs.DrawnBooks.{drawn_count, drawn_test, drawn_term, drawn_terms, drawn_alternative, drawn_side, drawn_book}
use Rattle.book_trials.specs.declared.keys.Key.{Key}
use Rattle.book_trials.specs.declared.keys.Part.TheVariants.{First, Second}
use Rattle.book_trials.specs.declared.keys.Purpose.TheVariants as purpose

module _ {V W : Type 0} (m : Maker V W) (seed n : ℕ) where
  -- how many unknowns there are, and how many alternatives each of them has
  pub drawn_long : length (drawn_book m seed n) ≡ n
  drawn_long = rows_long (drawn_side m n seed) n

  side_long : (u : ℕ) → length (drawn_side m n seed u) ≡ drawn_count seed u
  side_long u = length-map-range_with_len (λ (k : ℕ). drawn_alternative m n (key_of seed u k)) 0 (drawn_count seed u)

  -- an alternative that is there, and one that is not
  nth_there : (u k : ℕ) → u < n → k < drawn_count seed u → nth (slice_index_or (drawn_book m seed n) u []) k ≡ Some (drawn_alternative m n (key_of seed u k))
  nth_there u k h l =
      ap (λ (s : List (Alternative V W)). nth s k) (row_inside (drawn_side m n seed) n u h) ∙
      nth_inside_made (λ (k : ℕ). drawn_alternative m n (key_of seed u k)) 0 (drawn_count seed u) k k l (omega arith)

  nth_over : (u k : ℕ) → u < n → drawn_count seed u ≤ k → nth (slice_index_or (drawn_book m seed n) u []) k ≡ None
  nth_over u k h l =
      ap (λ (s : List (Alternative V W)). nth s k) (row_inside (drawn_side m n seed) n u h) ∙
      nth_past_made (λ (k : ℕ). drawn_alternative m n (key_of seed u k)) 0 (drawn_count seed u) k l

  nth_nowhere : (u k : ℕ) → n ≤ u → nth (slice_index_or (drawn_book m seed n) u []) k ≡ None
  nth_nowhere u k h = ap (λ (s : List (Alternative V W)). nth s k) (row_past (drawn_side m n seed) n u h)

  -- what the book answers
  pub counted_there : (u : ℕ) → u < n → Ok (drawn_count seed u) ≡ counted (drawn_book m seed n) u
  counted_there u h = ap Ok (sym (side_long u)) ∙ counted_inside (drawn_side m n seed) n u h

  pub counted_nowhere : (u : ℕ) → n ≤ u → Err (nowhere NotThere) ≡ counted (drawn_book m seed n) u
  counted_nowhere u h = counted_past (drawn_side m n seed) n u h

  pub asked_there : (u k : ℕ) → u < n → k < drawn_count seed u → Ok (drawn_alternative m n (key_of seed u k)) ≡ alternative (drawn_book m seed n) u k
  asked_there u k h l = sym (ap found (nth_there u k h l))

  pub asked_over : (u k : ℕ) → u < n → drawn_count seed u ≤ k → Err (nowhere NotThere) ≡ alternative (drawn_book m seed n) u k
  asked_over u k h l = sym (ap found (nth_over u k h l))

  pub asked_nowhere : (u k : ℕ) → n ≤ u → Err (nowhere NotThere) ≡ alternative (drawn_book m seed n) u k
  asked_nowhere u k h = sym (ap found (nth_nowhere u k h))

-- what a maker makes may stand in a book
pub record Sound {V W : Type 0} (o : Ops V W) (m : Maker V W) : Type 0 where
  pub constant : (x : ℕ) → Threshold o (m.constant x)
  pub threshold : (x : ℕ) → Threshold o (m.threshold x)
  pub weight : (x : ℕ) → o.light (m.weight x) ≡ true

module _ {V W : Type 0} (o : Ops V W) (m : Maker V W) (s : Sound o m) where
  module _ (n : ℕ) (h : 0 < n) where
    test_well : (p : Key) → WellTest o n (drawn_test m n p)
    test_well p =
        cond_both (nat_lt (drawn p purpose.Form % 5) 3) Always _ (WellTest o n) (λ e. tt) (λ e.
        cond_both (drawn p purpose.Form % 5 == 3) (Single _ _) (Joint _ _ _) (WellTest o n) (λ d. (mod-lt _ h, s.threshold _)) (λ d. (mod-lt _ h, mod-lt _ h, s.threshold _)))

    term_well : (p : Key) → WellTerm o n (drawn_term m n p)
    term_well p = cond_both (drawn p purpose.Form % 3 == 0) (Constant _) (Shifted _ _) (WellTerm o n) (λ e. s.constant _) (λ e. (mod-lt _ h, s.weight _))

    terms_well : (p : Key) → AllTerms (WellTerm o n) (drawn_terms m n p)
    terms_well p =
        cond_both (nat_lt (drawn p purpose.Terms % 3) 2) (One _) (Two _ _) (AllTerms (WellTerm o n))
        (λ e. term_well (at_part First p)) (λ e. (term_well (at_part First p), term_well (at_part Second p)))

    alternative_well : (p : Key) → WellAlternative o n (drawn_alternative m n p)
    alternative_well p = record { test = test_well p; each = λ t i. each_term (WellTerm o n) i (terms_well p) }

  -- a drawn book is well formed
  pub drawn_well : (seed n : ℕ) → n ≤ 12 → Well o (drawn_book m seed n)
  drawn_well seed n h = record {
    small = let e = drawn_long m seed n in omega arith;
    few = few;
    fine = λ u k a e. subst (λ (i : ℕ). WellAlternative o i a) (sym (drawn_long m seed n)) (fine u k a e);
  }
    where
      few : (u : ℕ) → length (slice_index_or (drawn_book m seed n) u []) ≤ most_alternatives
      few u = ⊎_elim
          (λ l. let e = ap length (row_inside (drawn_side m n seed) n u l) ∙ side_long m seed n u in let b = mod-lt (drawn (key_of seed u 0) purpose.Alternatives) {m = 5} (omega arith) in omega arith)
          (λ l. let e = ap length (row_past (drawn_side m n seed) n u l) in omega arith)
          (cases_lt u n)

      fine : (u k : ℕ) (a : Alternative V W) → nth (slice_index_or (drawn_book m seed n) u []) k ≡ Some a → WellAlternative o n a
      fine u k a e = ⊎_elim
          (λ l. ⊎_elim
          (λ r. subst (WellAlternative o n) (some_same (sym (nth_there m seed n u k l r) ∙ e)) (alternative_well n (omega arith) (key_of seed u k)))
          (λ r. absurd (no_option (sym (nth_over m seed n u k l r) ∙ e)))
          (cases_lt k (drawn_count seed u)))
          (λ l. absurd (no_option (sym (nth_nowhere m seed n u k l) ∙ e)))
          (cases_lt u n)

-- whole numbers of drawn size are small, and no whole number is minus infinity
whole_small : (x : ℕ) → small (whole_from x) ≡ true
whole_small x = let h = mod-lt x {m = 41} (omega arith) in grind (arith, nat_tests)

weight_small : (x : ℕ) → small (weight_from x) ≡ true
weight_small x = let h = mod-lt x {m = 7} (omega arith) in grind (arith, nat_tests)

whole_fits : (x : ℕ) → Threshold bounds (bound.Whole (whole_from x))
whole_fits x = (whole_small x, λ e. let z : ◌≡◌ {A = ℕ} 0 1 = cc in omega arith)

greatest_fits : Threshold bounds bound.Greatest
greatest_fits = (refl, λ e. let z : ◌≡◌ {A = ℕ} 0 1 = cc in omega arith)

grade_fits : (x : ℕ) → Threshold grades (grade_from x)
grade_fits x =
    cond_both (x % 3 == 0) grade.Written _ (Threshold grades) (λ d. (refl, λ e. let z : ◌≡◌ {A = ℕ} 0 1 = cc in omega arith)) (λ d.
    cond_both (x % 3 == 1) grade.Sensed grade.Heard (Threshold grades) (λ f. (refl, λ e. let z : ◌≡◌ {A = ℕ} 0 1 = cc in omega arith)) (λ f. (refl, λ e. let z : ◌≡◌ {A = ℕ} 0 1 = cc in omega arith)))

pub bounds_sound : Sound bounds bound_maker
bounds_sound = record {
  constant = λ x. cond_both (x % 50 == 0) bound.Greatest (bound.Whole (whole_from x)) (Threshold bounds) (λ e. greatest_fits) (λ e. whole_fits x);
  threshold = whole_fits;
  weight = weight_small;
}

pub grades_sound : Sound grades grade_maker
grades_sound = record { constant = grade_fits; threshold = grade_fits; weight = λ x. refl }
