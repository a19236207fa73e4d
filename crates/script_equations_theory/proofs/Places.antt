-- Where the unknowns of a variable at a point stand in the books.
use Rattle.std.proofs.Common.{◌≡◌, ℕ, zero, suc, ◌+◌, ◌*◌, ◌/◌, ◌%◌, ◌<◌, cond, [], length, get_or, eqb, ap, ◌∙◌, subst, mul_comm, zero-mul, arith}
use Rattle.std.proofs.lemmas.Nat.{mul-add-lt, div-mul-add, mod-mul-add}
use Rattle.books.proofs.Rows.{rows_long, row_inside}
use Rattle.language_theory.specs.Graphs.{Graph}
use Rattle.script_equations_theory.specs.Bounds.{upper, lower, variables_of, uppers, lowers, bound_unknown, bound_book}
use Rattle.script_equations_theory.specs.Grades.{grade_at, grades_at, grade_unknown, grade_book}

-- the point and the variable of a place
pub point_of : (n p v : ℕ) → v < n → (n * p + v) / n ≡ p
point_of n p v h = ap (λ (z : ℕ). (z + v) / n) (mul_comm n p) ∙ div-mul-add p n v h

pub variable_of : (n p v : ℕ) → v < n → (n * p + v) % n ≡ v
variable_of n p v h = ap (λ (z : ℕ). (z + v) % n) (mul_comm n p) ∙ mod-mul-add p n v h

-- q points have n × q places
pub place_below : (n p v q : ℕ) → p < q → v < n → n * p + v < n * q
place_below n p v q h k = subst (λ (z : ℕ). z + v < n * q) (mul_comm p n) (mul-add-lt p n v q h k)

-- where there is a place, there is a variable
pub none_of : (n q u : ℕ) → u < n * q → 0 < n
none_of zero q u h = let e : zero * q ≡ 0 = zero-mul q in absurd (omega arith)
none_of (suc n) q u h = omega arith

module _ (g : Graph) where
  -- how many unknowns the bounds have
  abbrev pub bound_count : ℕ
  bound_count = 2 * (variables_of g * g.points)

  -- and the grades
  abbrev pub grade_count : ℕ
  grade_count = variables_of g * g.points

  pub book_long : length (bound_book g) ≡ bound_count
  book_long = rows_long (bound_unknown g) bound_count

  pub grade_book_long : length (grade_book g) ≡ grade_count
  grade_book_long = rows_long (grade_unknown g) grade_count

  unknown_is : (u c p v : ℕ) → u % 2 ≡ c → u / 2 / variables_of g ≡ p → u / 2 % variables_of g ≡ v → bound_unknown g u ≡ cond (eqb c 0) (uppers g p v) (lowers g p v)
  unknown_is u c p v e f h = λ i. cond (eqb (e i) 0) (uppers g (f i) (h i)) (lowers g (f i) (h i))

  module _ (p v : ℕ) (h : p < g.points) (k : v < variables_of g) where
    pub upper_below : upper (variables_of g) p v < bound_count
    upper_below = let b = place_below (variables_of g) p v g.points h k in omega arith

    pub lower_below : lower (variables_of g) p v < bound_count
    lower_below = let b = place_below (variables_of g) p v g.points h k in omega arith

    -- what stands in the book at U and at L
    pub upper_at : get_or (bound_book g) (upper (variables_of g) p v) [] ≡ uppers g p v
    upper_at =
        let n = variables_of g in
        let e : upper n p v / 2 ≡ n * p + v = omega arith in
        let f : upper n p v % 2 ≡ 0 = omega arith in
        row_inside (bound_unknown g) bound_count (upper n p v) upper_below ∙
        unknown_is (upper n p v) 0 p v f (ap (λ (z : ℕ). z / n) e ∙ point_of n p v k) (ap (λ (z : ℕ). z % n) e ∙ variable_of n p v k)

    pub lower_at : get_or (bound_book g) (lower (variables_of g) p v) [] ≡ lowers g p v
    lower_at =
        let n = variables_of g in
        let e : lower n p v / 2 ≡ n * p + v = omega arith in
        let f : lower n p v % 2 ≡ 1 = omega arith in
        row_inside (bound_unknown g) bound_count (lower n p v) lower_below ∙
        unknown_is (lower n p v) 1 p v f (ap (λ (z : ℕ). z / n) e ∙ point_of n p v k) (ap (λ (z : ℕ). z % n) e ∙ variable_of n p v k)

    -- and in the book of grades
    pub grade_below : grade_at (variables_of g) p v < grade_count
    grade_below = place_below (variables_of g) p v g.points h k

    pub grade_stands : get_or (grade_book g) (grade_at (variables_of g) p v) [] ≡ grades_at g p v
    grade_stands =
        let n = variables_of g in
        row_inside (grade_unknown g) grade_count (grade_at n p v) grade_below ∙ λ i. grades_at g (point_of n p v k i) (variable_of n p v k i)
