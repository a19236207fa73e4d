-- What a drawn number makes of a kind of value: constants, thresholds and weights.
use Rattle.std.specs.Prelude.{ℕ, ◌%◌, cond, ℤ, pos, ◌-ℤ◌, ◌==◌}
use Rattle.kinds.specs.declared.bound.Bound.{Bound}
use Rattle.kinds.specs.declared.bound.Bound.TheVariants as bound
use Rattle.kinds.specs.declared.grade.Grade.{Grade}
use Rattle.kinds.specs.declared.grade.Grade.TheVariants as grade
use Rattle.kinds.specs.declared.grade.NoWeight.{NoWeight}
use Rattle.kinds.specs.declared.grade.NoWeight.TheVariants.{Zero}

-- what a drawn number is as a constant, as a threshold and as a weight: values V, weights W
pub record Maker (V W : Type 0) : Type 0 where
  pub constant : ℕ → V
  pub threshold : ℕ → V
  pub weight : ℕ → W

-- a whole number from -20 to 20
abbrev pub whole_from : ℕ → ℤ
whole_from x = pos (x % 41) -ℤ pos 20

-- a weight from -3 to 3
abbrev pub weight_from : ℕ → ℤ
weight_from x = pos (x % 7) -ℤ pos 3

-- a grade that is reached
abbrev pub grade_from : ℕ → Grade
grade_from x = cond (x % 3 == 0) grade.Written (cond (x % 3 == 1) grade.Sensed grade.Heard)

-- bounds: one constant in fifty is plus infinity
abbrev pub bound_maker : Maker Bound ℤ
bound_maker = record {
  constant = λ x. cond (x % 50 == 0) bound.Greatest (bound.Whole (whole_from x));
  threshold = λ x. bound.Whole (whole_from x);
  weight = weight_from;
}

abbrev pub grade_maker : Maker Grade NoWeight
grade_maker = record { constant = grade_from; threshold = grade_from; weight = λ x. Zero }
