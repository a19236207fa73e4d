-- No two reports have the same text, if their names are plain and their numbers have at most 64 digits.
use Rattle.std.proofs.Common.{◌≡◌, ℕ, List, [], ◌∷◌, ◌++◌, length, map, Some, None, Option, sym, refl, ap, arith}
use Rattle.std.specs.Prelude.{codes, decimal}
use Rattle.kinds.specs.Texts.{bound_text}
use Rattle.kinds.specs.Values.{rank_of}
use Rattle.language_theory.specs.Graphs.{Each}
use Rattle.report_theory.specs.Texts.{Reach, Row, Found, Report, head_fields, reach_fields, row_fields, found_fields, end_fields, lines, report_text}
use Rattle.report_theory.proofs.Plainness.{Plain}
use Rattle.report_theory.proofs.Numerals.{Short, ShortBound, decimal_plain, decimal_once, no_decimal, bound_plain, bound_once, rank_once}
use Rattle.report_theory.proofs.Fields.{Line, lines_once}

-- What can be read back: plain names, and numbers of at most 64 digits.
pub record ReadableReach (k : Reach) : Type 0 where
  pub lowest : ShortBound k.lowest
  pub highest : ShortBound k.highest

abbrev pub Known : Option Reach → Type 0
Known None = Unit {0}
Known (Some k) = ReadableReach k

pub record ReadableRow (w : Row) : Type 0 where
  pub point : Short w.point
  pub name : Plain w.name
  pub reach : Known w.reach

pub record ReadableFound (f : Found) : Type 0 where
  pub line : Short f.line
  pub column : Short f.column
  pub name : Plain f.name
  pub reach : ReadableReach f.reach
  pub size : Short f.size

pub record Readable (r : Report) : Type 0 where
  pub points : Short r.points
  pub rounds : Short r.rounds
  pub rows : Each ReadableRow r.rows
  pub found : Each ReadableFound r.found

-- The lines of such a report can be read back.
reach_plain : (k : Reach) → Each Plain (reach_fields k)
reach_plain k = (bound_plain k.lowest, (bound_plain k.highest, (decimal_plain (rank_of k.grade), tt)))

-- the fields of what is known
abbrev known_fields : Option Reach → List (List ℕ)
known_fields o = elim o [ None ↦ codes "none" ∷ [] | Some k ↦ reach_fields k ]

known_plain : (o : Option Reach) → Each Plain (known_fields o)
known_plain None = ((refl, (refl, (refl, (refl, tt)))), tt)
known_plain (Some k) = reach_plain k

row_line : (w : Row) → Plain w.name → Line (row_fields w)
row_line w h = (decimal_plain w.point, (h, known_plain w.reach))

found_line : (f : Found) → Plain f.name → Line (found_fields f)
found_line f h =
    let k = f.reach in
    ((refl, (refl, (refl, (refl, (refl, tt))))), (decimal_plain f.line, (decimal_plain f.column, (h, (bound_plain k.lowest, (bound_plain k.highest, (decimal_plain f.size, (decimal_plain (rank_of k.grade), tt))))))))

end_line : (n : ℕ) → Line (end_fields n)
end_line n = ((refl, (refl, (refl, tt))), (decimal_plain n, tt))

head_line : (p n : ℕ) → Line (head_fields p n)
head_line p n = ((refl, (refl, (refl, (refl, (refl, (refl, tt)))))), (decimal_plain p, ((refl, (refl, (refl, (refl, (refl, (refl, tt)))))), (decimal_plain n, tt))))

found_lines : (fs : List Found) (n : ℕ) → Each ReadableFound fs → Each Line (map found_fields fs ++ end_fields n ∷ [])
found_lines [] n h = (end_line n, tt)
found_lines (f ∷ fs) n h = (found_line f h.0.name, found_lines fs n h.1)

row_lines : (ws : List Row) (fs : List Found) (n : ℕ) → Each ReadableRow ws → Each ReadableFound fs → Each Line (map row_fields ws ++ map found_fields fs ++ end_fields n ∷ [])
row_lines [] fs n h k = found_lines fs n k
row_lines (w ∷ ws) fs n h k = (row_line w h.0.name, row_lines ws fs n h.1 k)

readable_lines : (r : Report) → Readable r → Each Line (lines r)
readable_lines r h = (head_line r.points r.rounds, row_lines r.rows r.found (length r.found) h.rows h.found)

-- Nor have two rows or two findings the same fields.
reach_once : (k k' : Reach) → ReadableReach k → ReadableReach k' → reach_fields k ≡ reach_fields k' → k ≡ k'
reach_once k k' h h' e =
    let a : bound_text k.lowest ≡ bound_text k'.lowest = cc in
    let b : bound_text k.highest ≡ bound_text k'.highest = cc in
    let c : decimal (rank_of k.grade) ≡ decimal (rank_of k'.grade) = cc in
    let x = bound_once k.lowest k'.lowest h.lowest h'.lowest a in
    let y = bound_once k.highest k'.highest h.highest h'.highest b in
    let z = rank_once k.grade k'.grade c in
    λ t. record { lowest = x t; highest = y t; grade = z t }

known_once : (o o' : Option Reach) → Known o → Known o' → known_fields o ≡ known_fields o' → o ≡ o'
known_once None None h h' e = refl
known_once None (Some k) h h' e = cc
known_once (Some k) None h h' e = cc
known_once (Some k) (Some k') h h' e = ap Some (reach_once k k' h h' e)

row_once : (w w' : Row) → ReadableRow w → ReadableRow w' → row_fields w ≡ row_fields w' → w ≡ w'
row_once w w' h h' e =
    let a : decimal w.point ≡ decimal w'.point = cc in
    let y : w.name ≡ w'.name = cc in
    let c : known_fields w.reach ≡ known_fields w'.reach = cc in
    let x = decimal_once w.point w'.point h.point h'.point a in
    let z = known_once w.reach w'.reach h.reach h'.reach c in
    λ t. record { point = x t; name = y t; reach = z t }

found_once : (f f' : Found) → ReadableFound f → ReadableFound f' → found_fields f ≡ found_fields f' → f ≡ f'
found_once f f' h h' e =
    let k = f.reach in
    let k' = f'.reach in
    let a : decimal f.line ≡ decimal f'.line = cc in
    let b : decimal f.column ≡ decimal f'.column = cc in
    let z : f.name ≡ f'.name = cc in
    let c : reach_fields k ≡ reach_fields k' = cc in
    let d : decimal f.size ≡ decimal f'.size = cc in
    let x = decimal_once f.line f'.line h.line h'.line a in
    let y = decimal_once f.column f'.column h.column h'.column b in
    let u = reach_once k k' h.reach h'.reach c in
    let v = decimal_once f.size f'.size h.size h'.size d in
    λ t. record { line = x t; column = y t; name = z t; reach = u t; size = v t }

no_end : (fs gs : List (List ℕ)) → codes "end" ∷ fs ≡ codes "range" ∷ gs → ⊥
no_end fs gs e = let h : ◌≡◌ {A = ℕ} 101 114 = cc in omega arith

founds_once : (fs fs' : List Found) (n n' : ℕ) → Each ReadableFound fs → Each ReadableFound fs' → map found_fields fs ++ end_fields n ∷ [] ≡ map found_fields fs' ++ end_fields n' ∷ [] → fs ≡ fs'
founds_once [] [] n n' h h' e = refl
founds_once [] (f ∷ fs) n n' h h' e = let i : end_fields n ≡ found_fields f = cc in absurd (no_end _ _ i)
founds_once (f ∷ fs) [] n n' h h' e = let i : end_fields n' ≡ found_fields f = cc in absurd (no_end _ _ i)
founds_once (f ∷ fs) (f' ∷ fs') n n' h h' e =
    let i : found_fields f ≡ found_fields f' = cc in
    let r : map found_fields fs ++ end_fields n ∷ [] ≡ map found_fields fs' ++ end_fields n' ∷ [] = cc in
    let x = found_once f f' h.0 h'.0 i in
    let y = founds_once fs fs' n n' h.1 h'.1 r in
    cc

-- no row stands among the findings
no_row : (w : Row) (ls : List (List (List ℕ))) (fs : List Found) (n : ℕ) → row_fields w ∷ ls ≡ map found_fields fs ++ end_fields n ∷ [] → ⊥
no_row w ls [] n e = let h : codes "end" ≡ decimal w.point = cc in no_decimal 101 w.point _ refl h
no_row w ls (f ∷ fs) n e = let h : codes "range" ≡ decimal w.point = cc in no_decimal 114 w.point _ refl h

record SameRest (ws ws' : List Row) (fs fs' : List Found) : Type 0 where
  rows : ws ≡ ws'
  found : fs ≡ fs'

rest_once : (ws ws' : List Row) (fs fs' : List Found) (n n' : ℕ) → Each ReadableRow ws → Each ReadableRow ws' → Each ReadableFound fs → Each ReadableFound fs' →
    map row_fields ws ++ map found_fields fs ++ end_fields n ∷ [] ≡ map row_fields ws' ++ map found_fields fs' ++ end_fields n' ∷ [] → SameRest ws ws' fs fs'
rest_once [] [] fs fs' n n' p p' q q' e = record { rows = refl; found = founds_once fs fs' n n' q q' e }
rest_once [] (w ∷ ws) fs fs' n n' p p' q q' e = absurd (no_row w _ fs n (sym e))
rest_once (w ∷ ws) [] fs fs' n n' p p' q q' e = absurd (no_row w _ fs' n' e)
rest_once (w ∷ ws) (w' ∷ ws') fs fs' n n' p p' q q' e =
    let i : row_fields w ≡ row_fields w' = cc in
    let r : map row_fields ws ++ map found_fields fs ++ end_fields n ∷ [] ≡ map row_fields ws' ++ map found_fields fs' ++ end_fields n' ∷ [] = cc in
    let x = row_once w w' p.0 p'.0 i in
    let y = rest_once ws ws' fs fs' n n' p.1 p'.1 q q' r in
    let z = y.rows in
    record { rows = cc; found = y.found }

pub text_once : (r r' : Report) → Readable r → Readable r' → report_text r ≡ report_text r' → r ≡ r'
text_once r r' h h' e =
    let s : lines r ≡ lines r' = lines_once (lines r) (lines r') (readable_lines r h) (readable_lines r' h') e in
    let a : decimal r.points ≡ decimal r'.points = cc in
    let b : decimal r.rounds ≡ decimal r'.rounds = cc in
    let c : map row_fields r.rows ++ map found_fields r.found ++ end_fields (length r.found) ∷ [] ≡ map row_fields r'.rows ++ map found_fields r'.found ++ end_fields (length r'.found) ∷ [] = cc in
    let x = decimal_once r.points r'.points h.points h'.points a in
    let y = decimal_once r.rounds r'.rounds h.rounds h'.rounds b in
    let z = rest_once r.rows r'.rows r.found r'.found (length r.found) (length r'.found) h.rows h'.rows h.found h'.found c in
    λ t. record { points = x t; rounds = y t; rows = z.rows t; found = z.found t }
