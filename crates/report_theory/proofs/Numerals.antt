-- Numbers, bounds and grades can be read back from their texts, if they have at most 64 digits; decimal writes no more of them.
use Rattle.std.proofs.Common.{◌≡◌, ℕ, zero, suc, pred, ◌+◌, ◌^◌, ◌/◌, ◌%◌, ◌<◌, Bool, true, false, cond, eqb, leb, List, [], ◌∷◌, pos, negsuc, sym, refl, ap, ◌∙◌, subst, arith}
use Rattle.std.proofs.lemmas.Bool.{and_from, and_parts, leb-true, le-leb, lt-ltb, false≢true}
use Rattle.std.proofs.lemmas.Bool.Decides.{nat_tests}
use Rattle.std.proofs.lemmas.Fmt.{decimal_is_IsNumeral_wide}
use Rattle.std.proofs.Math.Nat.{mod-lt}
use Rattle.std.specs.Prelude.{decimal, unsigned_abs}
use Rattle.std.specs.Fmt.{digits, digits_onto, digit_glyph}
use Rattle.std.specs.Str.Parse.{digits_value}
use Rattle.lexer.specs.Words.{digit}
use Rattle.kinds.specs.Texts.{bound_text}
use Rattle.kinds.specs.Laws.{at_rank, at_its_rank}
use Rattle.kinds.specs.Values.{rank_of}
use Rattle.kinds.specs.declared.bound.Bound.{Bound}
use Rattle.kinds.specs.declared.bound.Bound.TheVariants.{Least, Whole, Greatest}
use Rattle.kinds.specs.declared.grade.Grade.{Grade}
use Rattle.kinds.specs.declared.grade.Grade.TheVariants.{Unreached, Written, Sensed, Heard}
use Rattle.language_theory.specs.Graphs.{Each}
use Rattle.report_theory.proofs.Plainness.{ends_field, Plain}

-- a number has at most 64 digits
abbrev pub Short : ℕ → Type 0
Short n = n < 10 ^ 64

-- so has the whole number of a bound
abbrev pub ShortBound : Bound → Type 0
ShortBound Least = Unit {0}
ShortBound (Whole a) = Short (unsigned_abs a)
ShortBound Greatest = Unit {0}

-- digits only
abbrev pub Digits : List ℕ → Type 0
Digits bs = Each (λ (b : ℕ). digit b ≡ true) bs

glyph_digit : (d : ℕ) → d < 10 → digit (digit_glyph false d) ≡ true
glyph_digit d h =
    let e : digit_glyph false d ≡ 48 + d = ap (λ (b : Bool). cond b (48 + d) (87 + d)) (lt-ltb d 10 h) in
    ap digit e ∙ and_from (leb 48 (48 + d)) (leb (48 + d) 57) (le-leb 48 (48 + d) (omega arith)) (le-leb (48 + d) 57 (omega arith))

onto_digits : (k n : ℕ) (acc : List ℕ) → Digits acc → Digits (digits_onto k 10 false n acc)
onto_digits zero n acc h = h
onto_digits (suc k) n acc h = by (eqb (n / 10) 0) (onto_digits k (n / 10) (digit_glyph false (n % 10) ∷ acc))
  where
    one : Digits (digit_glyph false (n % 10) ∷ acc)
    one = (glyph_digit (n % 10) (let p : 0 < 10 = omega arith in mod-lt n p), h)

    by : (b : Bool) → (Digits (digit_glyph false (n % 10) ∷ acc) → Digits (digits_onto k 10 false (n / 10) (digit_glyph false (n % 10) ∷ acc))) →
        Digits (cond b (digit_glyph false (n % 10) ∷ acc) (digits_onto k 10 false (n / 10) (digit_glyph false (n % 10) ∷ acc)))
    by true f = one
    by false f = f one

pub decimal_digits : (n : ℕ) → Digits (decimal n)
unfolding digits
decimal_digits n = onto_digits 64 n [] tt

pub decimal_once : (m n : ℕ) → Short m → Short n → decimal m ≡ decimal n → m ≡ n
decimal_once m n h k e = sym (decimal_is_IsNumeral_wide m h).1 ∙ ap (digits_value 10) e ∙ (decimal_is_IsNumeral_wide n k).1

-- a text with another byte first is not made of digits
pub no_decimal : (b n : ℕ) (bs : List ℕ) → digit b ≡ false → b ∷ bs ≡ decimal n → ⊥
no_decimal b n bs h e = false≢true (sym h ∙ (subst Digits (sym e) (decimal_digits n)).0)

-- no space and no LF is a digit
digit_stays : (b : ℕ) → digit b ≡ true → ends_field b ≡ false
digit_stays b h = let p = and_parts (leb 48 b) (leb b 57) h in let l = leb-true 48 b p.0 in grind (arith, nat_tests)

pub digits_plain : (bs : List ℕ) → Digits bs → Plain bs
digits_plain [] h = tt
digits_plain (b ∷ bs) h = (digit_stays b h.0, digits_plain bs h.1)

pub decimal_plain : (n : ℕ) → Plain (decimal n)
decimal_plain n = digits_plain (decimal n) (decimal_digits n)

pub bound_plain : (x : Bound) → Plain (bound_text x)
bound_plain Least = (refl, (refl, (refl, (refl, tt))))
bound_plain (Whole (pos n)) = decimal_plain n
bound_plain (Whole (negsuc n)) = (refl, decimal_plain (suc n))
bound_plain Greatest = (refl, (refl, (refl, (refl, tt))))

tail_same : (a b : ℕ) (xs ys : List ℕ) → a ∷ xs ≡ b ∷ ys → xs ≡ ys
tail_same a b xs ys e = cc

-- behind a sign, infinity is no number
not_infinite : (a b n : ℕ) (bs : List ℕ) → a ∷ 105 ∷ bs ≡ b ∷ decimal n → ⊥
not_infinite a b n bs e = no_decimal 105 n bs refl (tail_same a b (105 ∷ bs) (decimal n) e)

-- other signs
signs_differ : (xs ys : List ℕ) → 45 ∷ xs ≡ 43 ∷ ys → ⊥
signs_differ xs ys e = let h : ◌≡◌ {A = ℕ} 45 43 = cc in omega arith

pub bound_once : (x y : Bound) → ShortBound x → ShortBound y → bound_text x ≡ bound_text y → x ≡ y
bound_once Least Least h k e = refl
bound_once Least (Whole (pos n)) h k e = absurd (no_decimal 45 n _ refl e)
bound_once Least (Whole (negsuc n)) h k e = absurd (not_infinite 45 45 (suc n) _ e)
bound_once Least Greatest h k e = absurd (signs_differ _ _ e)
bound_once (Whole (pos n)) Least h k e = absurd (no_decimal 45 n _ refl (sym e))
bound_once (Whole (pos n)) (Whole (pos m)) h k e = ap (λ (i : ℕ). Whole (pos i)) (decimal_once n m h k e)
bound_once (Whole (pos n)) (Whole (negsuc m)) h k e = absurd (no_decimal 45 n _ refl (sym e))
bound_once (Whole (pos n)) Greatest h k e = absurd (no_decimal 43 n _ refl (sym e))
bound_once (Whole (negsuc n)) Least h k e = absurd (not_infinite 45 45 (suc n) _ (sym e))
bound_once (Whole (negsuc n)) (Whole (pos m)) h k e = absurd (no_decimal 45 m _ refl e)
bound_once (Whole (negsuc n)) (Whole (negsuc m)) h k e = ap (λ (i : ℕ). Whole (negsuc (pred i))) (decimal_once (suc n) (suc m) h k (tail_same 45 45 _ _ e))
bound_once (Whole (negsuc n)) Greatest h k e = absurd (signs_differ _ _ e)
bound_once Greatest Least h k e = absurd (signs_differ _ _ (sym e))
bound_once Greatest (Whole (pos m)) h k e = absurd (no_decimal 43 m _ refl e)
bound_once Greatest (Whole (negsuc m)) h k e = absurd (not_infinite 43 45 (suc m) _ e)
bound_once Greatest Greatest h k e = refl

short_rank : (x : Grade) → Short (rank_of x)
short_rank Unreached = omega arith
short_rank Written = omega arith
short_rank Sensed = omega arith
short_rank Heard = omega arith

pub rank_once : (x y : Grade) → decimal (rank_of x) ≡ decimal (rank_of y) → x ≡ y
rank_once x y e = sym (at_its_rank x) ∙ ap at_rank (decimal_once (rank_of x) (rank_of y) (short_rank x) (short_rank y) e) ∙ at_its_rank y
