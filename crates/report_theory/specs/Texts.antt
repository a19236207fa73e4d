-- What a report has, and its text.
use Rattle.std.specs.Prelude.{ℕ, List, [], ◌∷◌, ◌++◌, map, length, codes, decimal, Some, None, Option, flat_map}
use Rattle.kinds.specs.Texts.{bound_text}
use Rattle.kinds.specs.Values.{rank_of}
use Rattle.kinds.specs.declared.bound.Bound.{Bound}
use Rattle.kinds.specs.declared.grade.Grade.{Grade}

-- what is known of a variable at a point that is reached: its lowest and its highest value, and its grade
pub record Reach : Type 0 where
  pub lowest : Bound
  pub highest : Bound
  pub grade : Grade

-- a variable at a point; nothing is known of it where the point is not reached
pub record Row : Type 0 where
  pub point : ℕ
  pub name : List ℕ
  pub reach : Option Reach

-- a read that may fall outside: where its index name stands, the name, what is known of the index before the read, and the size of the table
pub record Found : Type 0 where
  pub line : ℕ
  pub column : ℕ
  pub name : List ℕ
  pub reach : Reach
  pub size : ℕ

-- what a report has: the count of points, the rounds of the bounds, rows and findings
pub record Report : Type 0 where
  pub points : ℕ
  pub rounds : ℕ
  pub rows : List Row
  pub found : List Found

-- a line: fields parted by one space, and LF at its end; every line of a report has fields
abbrev pub line_of : List (List ℕ) → List ℕ
line_of [] = 10 ∷ []
line_of (f ∷ []) = f ++ 10 ∷ []
line_of (f ∷ g ∷ fs) = f ++ 32 ∷ line_of (g ∷ fs)

-- the fields of the first line, of what is known of a variable, of its row, of a finding, and of the last line
abbrev pub head_fields : ℕ → ℕ → List (List ℕ)
head_fields points rounds = codes "points" ∷ decimal points ∷ codes "rounds" ∷ decimal rounds ∷ []

abbrev pub reach_fields : Reach → List (List ℕ)
reach_fields r = bound_text r.lowest ∷ bound_text r.highest ∷ decimal (rank_of r.grade) ∷ []

abbrev pub row_fields : Row → List (List ℕ)
row_fields r = decimal r.point ∷ r.name ∷ elim r.reach [ None ↦ codes "none" ∷ [] | Some k ↦ reach_fields k ]

abbrev pub found_fields : Found → List (List ℕ)
found_fields f = codes "range" ∷ decimal f.line ∷ decimal f.column ∷ f.name ∷ bound_text f.reach.lowest ∷ bound_text f.reach.highest ∷ decimal f.size ∷ decimal (rank_of f.reach.grade) ∷ []

abbrev pub end_fields : ℕ → List (List ℕ)
end_fields n = codes "end" ∷ decimal n ∷ []

-- the lines of a report: the head, one for each row, one for each finding, and the end
abbrev pub lines : Report → List (List (List ℕ))
lines r = head_fields r.points r.rounds ∷ map row_fields r.rows ++ map found_fields r.found ++ end_fields (length r.found) ∷ []

-- the text of a report
abbrev pub report_text : Report → List ℕ
report_text r = flat_map line_of (lines r)
