-- How long the text of a report can be.
use Rattle.std.specs.Prelude.{ℕ, ◌≤◌, List, length}
use Rattle.kinds.specs.declared.bound.Bound.{Bound}
use Rattle.kinds.specs.declared.grade.Grade.{Grade}
use Rattle.language_theory.specs.Graphs.{Graph}
use Rattle.report_theory.specs.Texts.{report_text}
use Rattle.report_theory.specs.Reports.{report_of}
use Rattle.report_theory.specs.Laws.{ScriptSettles}

-- the report of a script has so many bytes at most
abbrev pub most_bytes : ℕ
most_bytes = 65536

-- a buffer of so many bytes has room for the report of every script; k rounds of the bounds come to the settled values y, and z are values of the grades
abbrev pub HasRoom : Type 0
HasRoom = (bs : List ℕ) (g : Graph) (k : ℕ) (y : List Bound) (z : List Grade) → ScriptSettles bs g k y → length (report_text (report_of g y z k)) ≤ most_bytes
