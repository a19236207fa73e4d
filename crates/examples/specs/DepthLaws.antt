-- The laws of depths, and the system over them.
use Rattle.std.specs.Prelude.{◌≡◌, ℕ, ◌+◌, Bool, true, false, ◌&&◌, ◌||◌, ◌⊎◌, ℤ, pos, negsuc, int_le, nat_le, refl}
use Rattle.std.proofs.Common.{sym, ap, ◌∙◌, inl, inr, ⊎_elim, true≢false, add-zero, add_comm, add_assoc, arith}
use Rattle.std.proofs.lemmas.Bool.{and_parts, and_from, and_right, or_cases, or_left, or_right, not-true, not_from_false, false_from_ne_true, both_ways}
use Rattle.std.proofs.lemmas.Bool.Decides.{nat_tests, leb_tells}
use Rattle.kinds.specs.Kinds.{Laws, Proper}
use Rattle.kinds.specs.declared.bound.Bound.{Bound}
use Rattle.kinds.specs.declared.bound.Bound.TheVariants as bound
use Rattle.kinds.specs.Laws.{bounds_laws}
use Rattle.examples.specs.Systems.{ComesTo}
use Rattle.examples.specs.Descending.{bound_of, depth_under, lowered_whole, lowered, above, one_reaches, depths, descending_depths, resting_depths}
use Rattle.examples.specs.declared.descending.Depth.{Depth}
use Rattle.examples.specs.declared.descending.Depth.TheVariants.{Least, Whole, Greatest}
use Rattle.examples.specs.Play.{comes_to}

-- a bound read as a depth
abbrev depth_of : Bound → Depth
depth_of bound.Least = Least
depth_of (bound.Whole a) = Whole a
depth_of bound.Greatest = Greatest

and_back : (x : Depth) → depth_of (bound_of x) ≡ x
and_back Least = refl
and_back (Whole a) = refl
and_back Greatest = refl

-- the order is that of bounds
antisymmetric : (x y : Depth) → depth_under x y ≡ true → depth_under y x ≡ true → x ≡ y
antisymmetric x y p q = sym (and_back x) ∙ ap depth_of (bounds_laws.antisymmetric (bound_of x) (bound_of y) p q) ∙ and_back y

transitive : (x y z : Depth) → depth_under x y ≡ true → depth_under y z ≡ true → depth_under x z ≡ true
transitive x y z = bounds_laws.transitive (bound_of x) (bound_of y) (bound_of z)

-- the order of weights, turned round
turned_total : (v w : ℕ) → (nat_le w v ≡ true) ⊎ (nat_le v w ≡ true)
turned_total v w = elim (leb_tells w v) [ inl h ↦ inl h.0 | inr h ↦ inr (grind (arith, nat_tests)) ]

never_more : (w : ℕ) → nat_le 0 w ≡ true
never_more w = grind (arith, nat_tests)

-- a depth that is lowered
whole_proper : (a : ℤ) → Proper depths (Whole a)
whole_proper a = (λ e. let z : ◌≡◌ {A = ℕ} 0 1 = cc in omega arith, λ e. let z : ◌≡◌ {A = ℕ} 0 1 = cc in omega arith)

proper : (x : Depth) (w : ℕ) → Proper depths x → Proper depths (lowered x w)
proper Least w p = p
proper (Whole a) w p = whole_proper (lowered_whole a w)
proper Greatest w p = p

in_turn : (x : Depth) (v w : ℕ) → lowered (lowered x v) w ≡ lowered x (v + w)
in_turn Least v w = refl
in_turn (Whole (pos n)) v w = refl
in_turn (Whole (negsuc n)) v w = ap (λ (k : ℕ). Whole (negsuc k)) (add_assoc n v w)
in_turn Greatest v w = refl

lowered_whole_strict : (a b : ℤ) (w : ℕ) → int_le b a ≡ false → int_le (lowered_whole b w) (lowered_whole a w) ≡ false
lowered_whole_strict (pos a) (pos b) w p = p
lowered_whole_strict (pos a) (negsuc b) w p = p
lowered_whole_strict (negsuc a) (pos b) w p = refl
lowered_whole_strict (negsuc a) (negsuc b) w p = grind (arith, nat_tests)

strict : (x y : Depth) (w : ℕ) → depth_under y x ≡ false → depth_under (lowered y w) (lowered x w) ≡ false
strict Least Least w p = p
strict Least (Whole b) w p = refl
strict Least Greatest w p = refl
strict (Whole a) Least w p = p
strict (Whole a) (Whole b) w p = lowered_whole_strict a b w p
strict (Whole a) Greatest w p = refl
strict Greatest Least w p = p
strict Greatest (Whole b) w p = p
strict Greatest Greatest w p = p

never_rises : (x : Depth) (w : ℕ) → depth_under (lowered x w) x ≡ true
never_rises Least w = refl
never_rises (Whole (pos n)) w = grind (arith, nat_tests)
never_rises (Whole (negsuc n)) w = grind (arith, nat_tests)
never_rises Greatest w = refl

-- the joint test rises with both depths
or_more : (a b c d : Bool) → (a ≡ true → c ≡ true) → (b ≡ true → d ≡ true) → a || b ≡ true → c || d ≡ true
or_more a b c d f g e = ⊎_elim (λ h. or_left c d (f h)) (λ h. or_right c d (g h)) (or_cases a b e)

above_more : (x y : Depth) → depth_under x y ≡ true → above x ≡ true → above y ≡ true
above_more x y p e = not_from_false (depth_under y Least) (false_from_ne_true _ (λ h. both_ways (depth_under x Least) (not-true _ e) (transitive x y Least p h)))

both_more : (x y x' y' t : Depth) → depth_under x x' ≡ true → depth_under y y' ≡ true → one_reaches x y t ≡ true → one_reaches x' y' t ≡ true
both_more x y x' y' t p q e =
    let r = and_parts (above x) (above y && (depth_under t x || depth_under t y)) e in
    let s = and_parts (above y) (depth_under t x || depth_under t y) r.1 in
    and_from (above x') (above y' && (depth_under t x' || depth_under t y')) (above_more x x' p r.0)
    (and_from (above y') (depth_under t x' || depth_under t y') (above_more y y' q s.0)
    (or_more (depth_under t x) (depth_under t y) (depth_under t x') (depth_under t y') (λ h. transitive t x x' h p) (λ h. transitive t y y' h q) s.1))

pub depths_laws : Laws depths
depths_laws = record {
  reflexive = λ x. bounds_laws.reflexive (bound_of x);
  antisymmetric = antisymmetric;
  transitive = transitive;
  total = λ x y. bounds_laws.total (bound_of x) (bound_of y);
  bottom = λ x. refl;
  top = λ x. bounds_laws.top (bound_of x);
  apart = λ e. let z : ◌≡◌ {A = ℕ} 0 1 = cc in omega arith;
  plus_zero = λ v s. add-zero v;
  plus_comm = λ v w s. add_comm v w;
  plus_assoc = λ u v w a b c r s t h. add_assoc u v w;
  lighter_reflexive = λ v s. grind (arith, nat_tests);
  lighter_antisymmetric = λ v w s t p q. grind (arith, nat_tests);
  lighter_transitive = λ u v w r s t p q. grind (arith, nat_tests);
  lighter_total = λ v w s t. turned_total v w;
  shift_least = λ w s. refl;
  shift_greatest = λ w s. refl;
  shift_proper = λ x w s. proper x w;
  shift_plus = λ x v w s. in_turn x v w;
  shift_strict = λ x y w s. strict x y w;
  raises = λ x w s p. (λ e. absurd (true≢false (sym (never_rises x w) ∙ e)), λ e. absurd (true≢false (sym (never_more w) ∙ e)));
  joint_rises = both_more;
  joint_least = λ x t. (refl, and_right (above x) false refl);
}

pub depths_rest : ComesTo depths descending_depths 3 resting_depths
depths_rest = comes_to depths depths_laws descending_depths refl 3 resting_depths refl refl refl
