-- Values of the kinds as extended numbers.
use Rattle.kinds.specs.declared.bound.Bound.{Bound}
use Rattle.kinds.specs.declared.bound.Bound.TheVariants.{Least, Whole, Greatest}
use Rattle.kinds.specs.declared.grade.Grade.{Grade}
use Rattle.kinds.specs.declared.grade.Grade.TheVariants.{Unreached, Written, Sensed, Heard}
use Rattle.std.specs.Prelude.{pos}
use Rattle.reference.specs.declared.extended.Extended.{Extended}
use Rattle.reference.specs.declared.extended.Extended.TheVariants.{NegInf, Number, PosInf}

abbrev pub bound_reading : Bound → Extended
bound_reading Least = NegInf
bound_reading (Whole a) = Number a
bound_reading Greatest = PosInf

abbrev pub grade_reading : Grade → Extended
grade_reading Unreached = NegInf
grade_reading Written = Number (pos 1)
grade_reading Sensed = Number (pos 2)
grade_reading Heard = Number (pos 3)
