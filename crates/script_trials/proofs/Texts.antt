-- Texts that grow line by line.
use Rattle.std.proofs.Common.{◌≡◌, ℕ, ◌+◌, ◌<◌, List, [], ◌∷◌, ◌++◌, map, length, get_or, take, sym, ap, ◌∙◌, arith}
use Rattle.std.specs.List.{range_with_len, flat_map}
use Rattle.std.proofs.lemmas.List.{flat_map_more, take_more, map-id}
use Rattle.std.proofs.lemmas.List.FromFn.{map-range_with_len_more}
use Rattle.listing.specs.Variable.{Variable}
use Rattle.listing.specs.Names.{named, variable_names}
use Rattle.script_graph.specs.declared.graph.Graph.{Graph}
use Rattle.reference.specs.Results.{value_at}
use Rattle.reference.specs.declared.results.AbstractValue.{AbstractValue}
use Rattle.reference.specs.declared.results.IndexFinding.{IndexFinding}
use Rattle.reference.specs.declared.results.Results.{Results}
use Rattle.script_trials.specs.ReportLines.{finding_text, finding_line}

range_more : (n : ℕ) → range_with_len 0 (n + 1) ≡ range_with_len 0 n ++ n ∷ []
range_more n =
    sym (map-id (range_with_len 0 (n + 1)))
    ∙ (map-range_with_len_more (λ m. m) 0 n n (omega arith)
    ∙ ap (λ (l : List ℕ). l ++ n ∷ []) (map-id (range_with_len 0 n)))

-- the line of one number more
pub lines_more : (line : ℕ → List ℕ) (before : List ℕ) (n : ℕ) → (before ++ flat_map line (range_with_len 0 n)) ++ line n ≡ before ++ flat_map line (range_with_len 0 (n + 1))
lines_more line before n =
    flat_map_more line before (range_with_len 0 n) n
    ∙ sym (ap (λ (l : List ℕ). before ++ flat_map line l) (range_more n))

-- one entry more
pub entries_more : {A : Type 0} (entry : ℕ → A) (n : ℕ) → map entry (range_with_len 0 n) ++ entry n ∷ [] ≡ map entry (range_with_len 0 (n + 1))
entries_more entry n = sym (map-range_with_len_more entry 0 n n (omega arith))

-- one finding more, with the name and the grade of its index
pub finding_more : (vs : List Variable) (g : Graph) (r : Results) (fs : List IndexFinding) (i : ℕ) (d : IndexFinding) (name : List ℕ) (x : AbstractValue) (before old new : List ℕ) → i < length fs → vs ≡ g.variables.items →
    name ≡ named (variable_names vs) (get_or fs i d).variable → x ≡ value_at r (get_or fs i d).point (get_or fs i d).variable →
    old ≡ before ++ flat_map (finding_line g r) (take i fs) → new ≡ old ++ finding_text (get_or fs i d) name x.grade →
    new ≡ before ++ flat_map (finding_line g r) (take (i + 1) fs)
finding_more vs g r fs i d name x before old new h v n k b e =
    let f = get_or fs i d in
    let line = finding_line g r in
    let called : name ≡ named (variable_names g.variables.items) f.variable = n ∙ ap (λ (us : List Variable). named (variable_names us) f.variable) v in
    let told : finding_text f name x.grade ≡ line f = ap (λ (zs : List ℕ). finding_text f zs x.grade) called ∙ ap (λ (y : AbstractValue). finding_text f (named (variable_names g.variables.items) f.variable) y.grade) k in
    e
    ∙ ap (λ (zs : List ℕ). zs ++ finding_text f name x.grade) b
    ∙ ap (λ (zs : List ℕ). (before ++ flat_map line (take i fs)) ++ zs) told
    ∙ flat_map_more line before (take i fs) f
    ∙ sym (ap (λ (zs : List IndexFinding). before ++ flat_map line zs) (take_more fs i d h))
