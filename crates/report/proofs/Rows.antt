-- The lines of a report, one after another.
use Rattle.std.proofs.Common.{◌≡◌, ℕ, ◌+◌, ◌<◌, zero-add, List, [], ◌∷◌, ◌++◌, length, map, take, get_or, Option, append_assoc, append-nil, map-id, sym, ap, ◌∙◌}
use Rattle.std.proofs.lemmas.List.{map-append, get_or-map, length-map, take_more}
use Rattle.std.proofs.lemmas.List.FromFn.{map-range_with_len_more}
use Rattle.std.proofs.lemmas.List.Concat.{flat_map-append}
use Rattle.std.proofs.lemmas.Simd.{map-map}
use Rattle.std.specs.List.{flat_map, range_with_len}
use Rattle.std.specs.Global.{Vec}
use Rattle.kinds.specs.declared.bound.Bound.{Bound}
use Rattle.kinds.specs.declared.grade.Grade.{Grade}
use Rattle.parser.specs.declared.Variable.{Variable}
use Rattle.parser.specs.Models.{variable_of}
use Rattle.soundness_theory.specs.Intervals.{interval}
use Rattle.soundness_theory.specs.declared.Finding.{Finding}
use Rattle.sessions.specs.Graphs.{no_variable}
use Rattle.script_graph.specs.Meaning.{meaning}
use Rattle.script_graph.specs.declared.graph.Graph.{Graph}
use Rattle.report_theory.specs.Texts.{Row, Found, lines, head_fields, row_fields, found_fields, end_fields}
use Rattle.report_theory.specs.Reports.{row, name_of, grade_there, row_of}
use Rattle.report.specs.Lines.{field_text, texts}
use Rattle.report.specs.declared.lines.Field.{Field}

-- one line more, with the fields t
pub text_more : (ls : List (Vec Field)) (l : Vec Field) (t : List (List ℕ)) → map field_text l.items ≡ t → texts (ls ++ l ∷ []) ≡ texts ls ++ t ∷ []
text_more ls l t e = map-append (λ (v : Vec Field). map field_text v.items) ls (l ∷ []) ∙ ap (λ (u : List (List ℕ)). texts ls ++ u ∷ []) e

-- behind the lines of the items ws, made by f, that of the item w
line_more : {W : Type 0} (f : W → List (List ℕ)) (ws : List W) (w : W) (ls : List (Vec Field)) (l : Vec Field) (old : List (List (List ℕ))) → texts ls ≡ old ++ map f ws → map field_text l.items ≡ f w →
    texts (ls ++ l ∷ []) ≡ old ++ map f (ws ++ w ∷ [])
line_more f ws w ls l old e el =
    text_more ls l (f w) el ∙
    ap (λ (ts : List (List (List ℕ))). ts ++ f w ∷ []) e ∙
    append_assoc old (map f ws) (f w ∷ []) ∙
    ap (λ (ts : List (List (List ℕ))). old ++ ts) (sym (map-append f ws (w ∷ [])))

-- of the next item of a list
pub line_of_next : {W : Type 0} (f : W → List (List ℕ)) (ws : List W) (i : ℕ) (d : W) (h : i < length ws) (ls : List (Vec Field)) (l : Vec Field) (old : List (List (List ℕ))) → texts ls ≡ old ++ map f (take i ws) → map field_text l.items ≡ f (get_or ws i d) →
    texts (ls ++ l ∷ []) ≡ old ++ map f (take (i + 1) ws)
line_of_next f ws i d h ls l old e el = line_more f (take i ws) (get_or ws i d) ls l old e el ∙ ap (λ vs. old ++ map f vs) (sym (take_more ws i d h))

-- of the next number's row
pub row_more : (f : ℕ → Row) (k : ℕ) (ls : List (Vec Field)) (l : Vec Field) (old : List (List (List ℕ))) (r : Row) → texts ls ≡ old ++ map row_fields (map f (range_with_len 0 k)) → map field_text l.items ≡ row_fields r → r ≡ f k →
    texts (ls ++ l ∷ []) ≡ old ++ map row_fields (map f (range_with_len 0 (k + 1)))
row_more f k ls l old r e el er =
    line_more row_fields (map f (range_with_len 0 k)) (f k) ls l old e (el ∙ ap row_fields er) ∙
    ap (λ (ws : List Row). old ++ map row_fields ws) (sym (map-range_with_len_more f 0 k k (zero-add k)))

module _ (g : Graph) where
  -- the name of a variable of the graph
  pub named : (v : ℕ) (d : Variable) → v < length g.variables.items → d ≡ get_or g.variables.items v d → d.name.items ≡ name_of (meaning g) v
  named v d h e = ap (λ (x : Variable). x.name.items) e ∙ sym (ap (λ x. x.name) (get_or-map variable_of g.variables.items v d no_variable h))

  module _ (y : List Bound) (z : List Grade) (p : ℕ) where
    -- the row that is made of what is asked
    pub row_is : (v : ℕ) (n : List ℕ) (i : Option (Bound × Bound)) (r : Grade) → n ≡ name_of (meaning g) v → i ≡ interval (meaning g) y p v → r ≡ grade_there (meaning g) y z p v → row p n i r ≡ row_of (meaning g) y z p v
    row_is v n i r en ei er = cc

-- the rows of one point more
pub rows_more : (f : ℕ → List Row) (k : ℕ) (ts ts' head : List (List (List ℕ))) → ts ≡ head ++ map row_fields (flat_map f (range_with_len 0 k)) → ts' ≡ ts ++ map row_fields (f k) →
    ts' ≡ head ++ map row_fields (flat_map f (range_with_len 0 (k + 1)))
rows_more f k ts ts' head e e' =
    e' ∙
    ap (λ (us : List (List (List ℕ))). us ++ map row_fields (f k)) e ∙
    append_assoc head (map row_fields (flat_map f (range_with_len 0 k))) (map row_fields (f k)) ∙
    ap (λ (us : List (List (List ℕ))). head ++ us) (sym (map-append row_fields (flat_map f (range_with_len 0 k)) (f k)) ∙ ap (map row_fields) (sym rows))
  where
    numbers : range_with_len 0 (k + 1) ≡ range_with_len 0 k ++ k ∷ []
    numbers = sym (map-id (range_with_len 0 (k + 1))) ∙ map-range_with_len_more (λ (n : ℕ). n) 0 k k (zero-add k) ∙ ap (λ (ns : List ℕ). ns ++ k ∷ []) (map-id (range_with_len 0 k))

    rows : flat_map f (range_with_len 0 (k + 1)) ≡ flat_map f (range_with_len 0 k) ++ f k
    rows = ap (flat_map f) numbers ∙ flat_map-append f (range_with_len 0 k) (k ∷ []) ∙ ap (λ (ws : List Row). flat_map f (range_with_len 0 k) ++ ws) (append-nil (f k))

-- the lines of a report: its head, its rows, its findings and its end
pub whole : (n k : ℕ) (rows : List Row) (fs : List Finding) (f : Finding → Found) (ts ts' : List (List (List ℕ))) → ts ≡ (head_fields n k ∷ []) ++ map row_fields rows → ts' ≡ ts ++ map (λ (d : Finding). found_fields (f d)) fs →
    ts' ++ end_fields (length fs) ∷ [] ≡ lines (record { points = n; rounds = k; rows = rows; found = map f fs })
whole n k rows fs f ts ts' e e' =
    ap (λ (us : List (List (List ℕ))). us ++ end_fields (length fs) ∷ []) (e' ∙ ap (λ (us : List (List (List ℕ))). us ++ map (λ (d : Finding). found_fields (f d)) fs) e ∙ ap (λ (us : List (List (List ℕ))). (head_fields n k ∷ map row_fields rows) ++ us) (sym (map-map found_fields f fs))) ∙
    ap (λ (i : ℕ). ((head_fields n k ∷ map row_fields rows) ++ map found_fields (map f fs)) ++ end_fields i ∷ []) (sym (length-map fs f))
