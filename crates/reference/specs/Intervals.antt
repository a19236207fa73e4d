-- Extended numbers and intervals of them: their order, and their text.
use Rattle.std.specs.Prelude.{ℕ, Bool, true, false, ◌&&◌, List, ℤ, int_le, codes}
use Rattle.std.specs.Fmt.{signed_decimal}
use Rattle.reference.specs.declared.extended.Extended.{Extended}
use Rattle.reference.specs.declared.extended.Extended.TheVariants.{NegInf, Number, PosInf}
use Rattle.reference.specs.declared.interval.Interval.{Interval}

-- the order of numbers, with `NegInf` below and `PosInf` above all
abbrev pub at_most : Extended → Extended → Bool
at_most NegInf y = true
at_most (Number a) NegInf = false
at_most (Number a) (Number b) = int_le a b
at_most (Number a) PosInf = true
at_most PosInf NegInf = false
at_most PosInf (Number b) = false
at_most PosInf PosInf = true

-- whether a number lies in an interval
abbrev pub contains : Interval → ℤ → Bool
contains i z = at_most i.low (Number z) && at_most (Number z) i.high

-- an extended number as it is printed
abbrev pub extended_text : Extended → List ℕ
extended_text NegInf = codes "-inf"
extended_text (Number a) = signed_decimal a
extended_text PosInf = codes "+inf"
