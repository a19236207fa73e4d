-- The text of a report with these results.
use Rattle.std.specs.Prelude.{ℕ, List, ◌++◌, length, codes, decimal}
use Rattle.std.specs.List.{flat_map, range_with_len}
use Rattle.std.proofs.Math.Utf8.{encodes}
use Rattle.listing.specs.Names.{named, variable_names}
use Rattle.script_graph.specs.declared.graph.Graph.{Graph}
use Rattle.reference.specs.Intervals.{extended_text}
use Rattle.reference.specs.Results.{value_at}
use Rattle.reference.specs.declared.extended.Extended.{Extended}
use Rattle.reference.specs.declared.extended.Extended.TheVariants.{NegInf, Number, PosInf}
use Rattle.reference.specs.declared.results.IndexFinding.{IndexFinding}
use Rattle.reference.specs.declared.results.Results.{Results}

-- behind a point and a name: both ends and the grade, or none where nothing reaches the point
abbrev pub interval_text : Extended → Extended → Extended → List ℕ
interval_text low NegInf grade = codes " none\n"
interval_text low (Number a) grade = codes " " ++ (extended_text low ++ (codes " " ++ (extended_text (Number a) ++ (codes " " ++ (extended_text grade ++ codes "\n")))))
interval_text low PosInf grade = codes " " ++ (extended_text low ++ (codes " " ++ (extended_text PosInf ++ (codes " " ++ (extended_text grade ++ codes "\n")))))

-- the line of a table read that may fall outside, with the name and the grade of its index
abbrev pub finding_text : IndexFinding → List ℕ → Extended → List ℕ
finding_text f name grade =
    codes "range " ++ (decimal f.place.line ++ (codes " " ++ (decimal f.place.column ++ (codes " " ++ (encodes name ++ (codes " " ++ (extended_text f.interval.low ++ (codes " " ++ (extended_text f.interval.high ++ (codes " " ++ (decimal f.size ++ (codes " " ++ (extended_text grade ++ codes "\n")))))))))))))

module _ (g : Graph) (r : Results) where
  abbrev pub name_of : ℕ → List ℕ
  name_of v = encodes (named (variable_names g.variables.items) v)

  -- the line of a variable at a point
  abbrev pub line_at : ℕ → ℕ → List ℕ
  line_at p v = let x = value_at r p v in decimal p ++ (codes " " ++ (name_of v ++ interval_text x.interval.low x.interval.high x.grade))

  -- the line of a finding
  abbrev pub finding_line : IndexFinding → List ℕ
  finding_line f = finding_text f (named (variable_names g.variables.items) f.variable) (value_at r f.point f.variable).grade

  abbrev pub point_lines : ℕ → List ℕ
  point_lines p = flat_map (line_at p) (range_with_len 0 (length g.variables.items))

  abbrev pub rows_text : List ℕ
  rows_text = flat_map point_lines (range_with_len 0 g.points)

  abbrev pub findings_text : List ℕ
  findings_text = flat_map finding_line r.findings.items

  -- the line with points and rounds, the rows, the findings, and the count of findings
  abbrev pub report_text : ℕ → List ℕ
  report_text rounds = codes "points " ++ (decimal g.points ++ (codes " rounds " ++ (decimal rounds ++ (codes "\n" ++ (rows_text ++ (findings_text ++ (codes "end " ++ (decimal (length r.findings.items) ++ codes "\n"))))))))
