-- The tables of a script have at most 65,536 entries.
use Rattle.std.proofs.Common.{◌≡◌, ℕ, zero, suc, ◌≤◌, List, [], ◌∷◌, ◌++◌, get_or, refl, subst, arith}
use Rattle.language_theory.specs.Grammar.{Declaration}
use Rattle.language_theory.specs.Grammar.Declaration.{variable, table}
use Rattle.language_theory.specs.Graphs.{Graph, tables, no_table, graph}
use Rattle.language_theory.specs.Names.{Outcome, Verdict}
use Rattle.language_theory.specs.Names.Outcome.{drawn}
use Rattle.language_theory.specs.Names.Verdict.{too_long, by_rule, too_many, fine}
use Rattle.language_theory.specs.Rules.{HeadsKeep}
use Rattle.language_theory.specs.declared.Lookup.{Lookup}
use Rattle.language_theory.proofs.Verdicts.{passes_keeps}
use Rattle.soundness_theory.specs.Runs.{size_of}

heads_sized : (vs ts : List (List ℕ)) (ds : List Declaration) → HeadsKeep vs ts ds → (i : ℕ) → (get_or (tables ds) i no_table).size ≤ 65536
heads_sized vs ts [] k i = omega arith
heads_sized vs ts (variable n g ∷ ds) k i = heads_sized (vs ++ (n ∷ [])) ts ds k.4 i
heads_sized vs ts (table n c g ∷ ds) k zero = k.4
heads_sized vs ts (table n c g ∷ ds) k (suc i) = heads_sized vs (ts ++ (n ∷ [])) ds k.6 i

drawn_sized : {bs : List ℕ} {o : Outcome} → Verdict bs o → (g : Graph) → o ≡ drawn g → (i : ℕ) → (get_or g.tables i no_table).size ≤ 65536
drawn_sized (too_long h) g e i = let z : ◌≡◌ {A = ℕ} 0 1 = cc in absurd (omega arith)
drawn_sized (by_rule l r f) g e i = let z : ◌≡◌ {A = ℕ} 0 1 = cc in absurd (omega arith)
drawn_sized (too_many l r f k m) g e i = let z : ◌≡◌ {A = ℕ} 0 1 = cc in absurd (omega arith)
drawn_sized (fine {tree = t} l r f k) g e i =
    let s : graph t ≡ g = cc in
    subst (λ (x : Graph). (get_or x.tables i no_table).size ≤ 65536) s (heads_sized [] [] t.declarations (passes_keeps f).heads i)

pub tables_sized : (bs : List ℕ) (g : Graph) → Verdict bs (drawn g) → (l : Lookup) → size_of g l ≤ 65536
tables_sized bs g v l = drawn_sized v g refl l.table
