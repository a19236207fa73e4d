-- The line that is printed for a refusal: refused, its phase, its number, its line and its column, parted by blanks.
use Rattle.std.specs.Prelude.{ℕ, List, ◌++◌, Some, None, codes, decimal, Option}
use Rattle.base.specs.Reasons.{number_of, phase_of, text_of}
use Rattle.base.specs.declared.Place.{Place}
use Rattle.base.specs.declared.Refusal.{Refusal}

-- the line and the column of a place, both 0 where there is none
abbrev pub line_of : Option Place → ℕ
line_of (Some p) = p.line
line_of None = 0

abbrev pub column_of : Option Place → ℕ
column_of (Some p) = p.column
column_of None = 0

abbrev pub refusal_line : Refusal → List ℕ
refusal_line r =
    codes "refused " ++ (text_of (phase_of r.reason) ++ (codes " " ++ (decimal (number_of r.reason) ++ (codes " " ++ (decimal (line_of r.place) ++ (codes " " ++ decimal (column_of r.place)))))))
