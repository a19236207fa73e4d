-- Values as they are printed.
use Rattle.std.specs.Prelude.{ℕ, List, ◌++◌, codes, decimal}
use Rattle.std.specs.Fmt.{signed_decimal}
use Rattle.kinds.specs.Values.{rank_of}
use Rattle.kinds.specs.declared.bound.Bound.{Bound}
use Rattle.kinds.specs.declared.bound.Bound.TheVariants.{Least, Whole, Greatest}
use Rattle.kinds.specs.declared.grade.Grade.{Grade}

-- a whole number in digits, and the infinities with their signs
abbrev pub bound_text : Bound → List ℕ
bound_text Least = codes "-inf"
bound_text (Whole a) = signed_decimal a
bound_text Greatest = codes "+inf"

-- a grade by its rank
abbrev pub grade_text : Grade → List ℕ
grade_text g = codes "grade " ++ decimal (rank_of g)
