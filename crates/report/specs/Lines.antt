-- The text of the lines of a report.
use Rattle.std.specs.Prelude.{ℕ, List, map, decimal, flat_map}
use Rattle.std.specs.Fmt.{signed_decimal}
use Rattle.std.specs.Global.{Vec}
use Rattle.report_theory.specs.Texts.{line_of}
use Rattle.report.specs.declared.lines.Field.{Field}
use Rattle.report.specs.declared.lines.Field.TheVariants.{Text, Number, Signed}

-- a word or a name as it is, a number in digits
abbrev pub field_text : Field → List ℕ
field_text (Text t) = t.now
field_text (Number n) = decimal n
field_text (Signed z) = signed_decimal z

-- a line, with LF at its end
abbrev pub line_text : List Field → List ℕ
line_text fs = line_of (map field_text fs)

-- lines one behind the other
abbrev pub lines_text : List (Vec Field) → List ℕ
lines_text ls = flat_map (λ l. line_text l.items) ls

-- lines as the texts of their fields
abbrev pub texts : List (Vec Field) → List (List (List ℕ))
texts ls = map (λ l. map field_text l.items) ls
