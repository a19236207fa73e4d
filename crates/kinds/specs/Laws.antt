-- The laws of bounds and of grades.
use Rattle.std.specs.Prelude.{◌≡◌, ℕ, zero, suc, Bool, true, false, ◌⊎◌, ◌↔◌, ℤ, pos, ◌+ℤ◌, ◌≢◌, int_le, refl}
use Rattle.std.proofs.Common.{ap, sym, ◌∙◌, inl, inr, true≢false, arith}
use Rattle.std.proofs.lemmas.Bool.{false≢true}
use Rattle.std.proofs.Math.IntN.{+ℤ_idr, +ℤ_comm, +ℤ_assoc}
use Rattle.std.proofs.lemmas.Int.{ints}
use Rattle.std.proofs.lemmas.Bool.Decides.{nat_tests, leb_tells}
use Rattle.kinds.specs.Kinds.{Laws, Proper}
use Rattle.kinds.specs.Values.{under, moved, added, reaches, bounds, rank_of, up_to, both_reach, grades}
use Rattle.kinds.specs.declared.bound.Bound.{Bound}
use Rattle.kinds.specs.declared.bound.Bound.TheVariants.{Least, Whole, Greatest}
use Rattle.kinds.specs.declared.grade.Grade.{Grade}
use Rattle.kinds.specs.declared.grade.Grade.TheVariants.{Unreached, Written, Sensed, Heard}
use Rattle.kinds.specs.declared.grade.NoWeight.{NoWeight}
use Rattle.kinds.specs.declared.grade.NoWeight.TheVariants.{Zero}

-- the order of whole numbers
le_refl : (a : ℤ) → int_le a a ≡ true
le_refl a = grind (arith, ints)

le_antisym : (a b : ℤ) → int_le a b ≡ true → int_le b a ≡ true → a ≡ b
le_antisym a b p q = grind (arith, ints)

le_trans : (a b c : ℤ) → int_le a b ≡ true → int_le b c ≡ true → int_le a c ≡ true
le_trans a b c p q = grind (arith, ints)

le_total : (a b : ℤ) → (int_le a b ≡ true) ⊎ (int_le b a ≡ true)
le_total a b = go (int_le a b) refl
  where
    go : (t : Bool) → int_le a b ≡ t → (int_le a b ≡ true) ⊎ (int_le b a ≡ true)
    go true e = inl e
    go false e = inr (grind (arith, ints))

lt_shift : (a b w : ℤ) → int_le b a ≡ false → int_le (b +ℤ w) (a +ℤ w) ≡ false
lt_shift a b w p = grind (arith, ints)

rises : (a w : ℤ) → int_le (a +ℤ w) a ≡ false → int_le w (pos 0) ≡ false
rises a w p = grind (arith, ints)

rises' : (a w : ℤ) → int_le w (pos 0) ≡ false → int_le (a +ℤ w) a ≡ false
rises' a w p = grind (arith, ints)

le_add : (a b c d : ℤ) → int_le a c ≡ true → int_le b d ≡ true → int_le (a +ℤ b) (c +ℤ d) ≡ true
le_add a b c d p q = grind (arith, ints)

-- bounds: the three forms differ
num_low : (a : ℤ) → Whole a ≢ Least
num_low a e = let z : ◌≡◌ {A = ℕ} 0 1 = cc in omega arith

num_high : (a : ℤ) → Whole a ≢ Greatest
num_high a e = let z : ◌≡◌ {A = ℕ} 0 1 = cc in omega arith

low_high : Least ≡ Greatest → ⊥
low_high e = let z : ◌≡◌ {A = ℕ} 0 1 = cc in omega arith

-- their order
reflexive : (x : Bound) → under x x ≡ true
reflexive Least = refl
reflexive (Whole a) = le_refl a
reflexive Greatest = refl

antisymmetric : (x y : Bound) → under x y ≡ true → under y x ≡ true → x ≡ y
antisymmetric Least Least p q = refl
antisymmetric Least (Whole b) p q = absurd (false≢true q)
antisymmetric Least Greatest p q = absurd (false≢true q)
antisymmetric (Whole a) Least p q = absurd (false≢true p)
antisymmetric (Whole a) (Whole b) p q = ap {B = Bound} Whole (le_antisym a b p q)
antisymmetric (Whole a) Greatest p q = absurd (false≢true q)
antisymmetric Greatest Least p q = absurd (false≢true p)
antisymmetric Greatest (Whole b) p q = absurd (false≢true p)
antisymmetric Greatest Greatest p q = refl

top : (x : Bound) → under x Greatest ≡ true
top Least = refl
top (Whole a) = refl
top Greatest = refl

transitive : (x y z : Bound) → under x y ≡ true → under y z ≡ true → under x z ≡ true
transitive Least y z p q = refl
transitive (Whole a) Least z p q = absurd (false≢true p)
transitive (Whole a) (Whole b) Least p q = absurd (false≢true q)
transitive (Whole a) (Whole b) (Whole c) p q = le_trans a b c p q
transitive (Whole a) (Whole b) Greatest p q = refl
transitive (Whole a) Greatest Least p q = absurd (false≢true q)
transitive (Whole a) Greatest (Whole c) p q = absurd (false≢true q)
transitive (Whole a) Greatest Greatest p q = refl
transitive Greatest Least z p q = absurd (false≢true p)
transitive Greatest (Whole b) z p q = absurd (false≢true p)
transitive Greatest Greatest z p q = q

total : (x y : Bound) → (under x y ≡ true) ⊎ (under y x ≡ true)
total Least y = inl refl
total (Whole a) Least = inr refl
total (Whole a) (Whole b) = le_total a b
total (Whole a) Greatest = inl refl
total Greatest y = inr (top y)

-- a bound that is moved
proper : (x : Bound) (w : ℤ) → Proper bounds x → Proper bounds (moved x w)
proper Least w p = p
proper (Whole a) w p = (num_low (a +ℤ w), num_high (a +ℤ w))
proper Greatest w p = p

in_turn : (x : Bound) (v w : ℤ) → moved (moved x v) w ≡ moved x (v +ℤ w)
in_turn Least v w = refl
in_turn (Whole a) v w = ap {B = Bound} Whole (+ℤ_assoc a v w)
in_turn Greatest v w = refl

strict : (x y : Bound) (w : ℤ) → under y x ≡ false → under (moved y w) (moved x w) ≡ false
strict Least Least w p = p
strict Least (Whole b) w p = refl
strict Least Greatest w p = refl
strict (Whole a) Least w p = p
strict (Whole a) (Whole b) w p = lt_shift a b w p
strict (Whole a) Greatest w p = refl
strict Greatest Least w p = p
strict Greatest (Whole b) w p = p
strict Greatest Greatest w p = p

raises : (x : Bound) (w : ℤ) → Proper bounds x → (under (moved x w) x ≡ false) ↔ (int_le w (pos 0) ≡ false)
raises Least w p = absurd (p.0 refl)
raises (Whole a) w p = (rises a w, rises' a w)
raises Greatest w p = absurd (p.1 refl)

-- the sum rises with each of its two bounds
added_least : (x : Bound) → added x Least ≡ Least
added_least Least = refl
added_least (Whole a) = refl
added_least Greatest = refl

added_comm : (x y : Bound) → added x y ≡ added y x
added_comm Least y = sym (added_least y)
added_comm (Whole a) Least = refl
added_comm (Whole a) (Whole b) = ap {B = Bound} Whole (+ℤ_comm a b)
added_comm (Whole a) Greatest = refl
added_comm Greatest Least = refl
added_comm Greatest (Whole b) = refl
added_comm Greatest Greatest = refl

added_first : (x x' y : Bound) → under x x' ≡ true → under (added x y) (added x' y) ≡ true
added_first Least x' y p = refl
added_first (Whole a) Least y p = absurd (false≢true p)
added_first (Whole a) (Whole c) Least p = refl
added_first (Whole a) (Whole c) (Whole b) p = le_add a b c b p (le_refl b)
added_first (Whole a) (Whole c) Greatest p = refl
added_first (Whole a) Greatest Least p = refl
added_first (Whole a) Greatest (Whole b) p = refl
added_first (Whole a) Greatest Greatest p = refl
added_first Greatest Least y p = absurd (false≢true p)
added_first Greatest (Whole c) y p = absurd (false≢true p)
added_first Greatest Greatest y p = reflexive (added Greatest y)

added_more : (x y x' y' : Bound) → under x x' ≡ true → under y y' ≡ true → under (added x y) (added x' y') ≡ true
added_more x y x' y' p q =
    transitive (added x y) (added x' y) (added x' y') (added_first x x' y p)
    (rw (added_comm x' y, added_comm x' y') (added_first y y' x' q))

-- and so does the test of the sum
reaches_more : (x y t : Bound) → under x y ≡ true → reaches x t ≡ true → reaches y t ≡ true
reaches_more Least y t p q = absurd (false≢true q)
reaches_more (Whole a) Least t p q = absurd (false≢true p)
reaches_more (Whole a) (Whole b) t p q = transitive t (Whole a) (Whole b) q p
reaches_more (Whole a) Greatest t p q = refl
reaches_more Greatest Least t p q = absurd (false≢true p)
reaches_more Greatest (Whole b) t p q = absurd (false≢true p)
reaches_more Greatest Greatest t p q = refl

-- above minus infinity, the test is the order
pub above_least : (x t : Bound) → (x ≢ Least) → under t x ≡ reaches x t
above_least Least t h = absurd (h refl)
above_least (Whole a) t h = refl
above_least Greatest t h = top t

pub bounds_laws : Laws bounds
bounds_laws = record {
  reflexive = reflexive;
  antisymmetric = antisymmetric;
  transitive = transitive;
  total = total;
  bottom = λ x. refl;
  top = top;
  apart = low_high;
  plus_zero = λ v s. +ℤ_idr v;
  plus_comm = λ v w s. +ℤ_comm v w;
  plus_assoc = λ u v w a b c r s t h. +ℤ_assoc u v w;
  lighter_reflexive = λ v s. le_refl v;
  lighter_antisymmetric = λ v w s t. le_antisym v w;
  lighter_transitive = λ u v w r s t. le_trans u v w;
  lighter_total = λ v w s t. le_total v w;
  shift_least = λ w s. refl;
  shift_greatest = λ w s. refl;
  shift_proper = λ x w s. proper x w;
  shift_plus = λ x v w s. in_turn x v w;
  shift_strict = λ x y w s. strict x y w;
  raises = λ x w s. raises x w;
  joint_rises = λ x y x' y' t p q. reaches_more (added x y) (added x' y') t (added_more x y x' y' p q);
  joint_least = λ x t. (refl, ap (λ (s : Bound). reaches s t) (added_least x));
}

-- grades: their order is that of ranks
grade_refl : (x : Grade) → up_to x x ≡ true
grade_refl x = grind (arith, nat_tests)

grade_total : (x y : Grade) → (up_to x y ≡ true) ⊎ (up_to y x ≡ true)
grade_total x y = elim (leb_tells (rank_of x) (rank_of y)) [ inl h ↦ inl h.0 | inr h ↦ inr (grind (arith, nat_tests)) ]

-- the grade of a rank
abbrev pub at_rank : ℕ → Grade
at_rank zero = Unreached
at_rank (suc zero) = Written
at_rank (suc (suc zero)) = Sensed
at_rank (suc (suc (suc n))) = Heard

pub at_its_rank : (x : Grade) → at_rank (rank_of x) ≡ x
at_its_rank Unreached = refl
at_its_rank Written = refl
at_its_rank Sensed = refl
at_its_rank Heard = refl

same_rank : (x y : Grade) → rank_of x ≡ rank_of y → x ≡ y
same_rank x y e = sym (at_its_rank x) ∙ ap at_rank e ∙ at_its_rank y

grade_top : (x : Grade) → up_to x Heard ≡ true
grade_top Unreached = refl
grade_top Written = refl
grade_top Sensed = refl
grade_top Heard = refl

-- the joint test rises with both grades
both_more : (x y x' y' t : Grade) → up_to x x' ≡ true → up_to y y' ≡ true → both_reach x y t ≡ true → both_reach x' y' t ≡ true
both_more x y x' y' t p q e = grind (arith, nat_tests)

one_weight : (v w : NoWeight) → v ≡ w
one_weight Zero Zero = refl

pub grades_laws : Laws grades
grades_laws = record {
  reflexive = grade_refl;
  antisymmetric = λ x y p q. same_rank x y (grind (arith, nat_tests));
  transitive = λ x y z p q. grind (arith, nat_tests);
  total = grade_total;
  bottom = λ x. grind (arith, nat_tests);
  top = grade_top;
  apart = λ e. let h : ◌≡◌ {A = ℕ} 0 1 = cc in omega arith;
  plus_zero = λ v s. one_weight Zero v;
  plus_comm = λ v w s. refl;
  plus_assoc = λ u v w a b c r s t h. refl;
  lighter_reflexive = λ v s. refl;
  lighter_antisymmetric = λ v w s t p q. one_weight v w;
  lighter_transitive = λ u v w r s t p q. refl;
  lighter_total = λ v w s t. inl refl;
  shift_least = λ w s. refl;
  shift_greatest = λ w s. refl;
  shift_proper = λ x w s p. p;
  shift_plus = λ x v w s. refl;
  shift_strict = λ x y w s h. h;
  raises = λ x w s p. (λ e. absurd (true≢false (sym (grade_refl x) ∙ e)), λ e. absurd (true≢false e));
  joint_rises = both_more;
  joint_least = λ x t. (grind (arith, nat_tests), grind (arith, nat_tests));
}
