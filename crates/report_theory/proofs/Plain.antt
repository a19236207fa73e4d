-- The names of a script's variables can stand as fields: a name is made of letters, digits and _, and has at most 16 bytes.
use Rattle.std.proofs.Common.{◌≡◌, ℕ, zero, suc, ◌<◌, ◌≤◌, Bool, true, false, leb, eqb, List, [], ◌∷◌, length, drop, get_or, ℤ, Some, None, Option, sym, refl, ap, ◌∙◌, subst, arith}
use Rattle.std.specs.Prelude.{◌||◌}
use Rattle.std.proofs.lemmas.Bool.{cond_both, eqb-true, leb-true, false≢true}
use Rattle.base.specs.declared.Place.{Place}
use Rattle.lexer.specs.Words.{Word, Next, Text, Reads, Part, Spelling, letter, digit, inner, run, gap, behind, reserved, reserved_in, name_word, value, symbols, symbol_in, symbol_part, part}
use Rattle.lexer.specs.Words.Word.{name, number, mark}
use Rattle.lexer.specs.Words.Next.{word, fault, end}
use Rattle.lexer.specs.Words.Reads.{at_end, at_fault, at_word}
use Rattle.lexer.specs.declared.Mark.{Mark}
use Rattle.language_theory.specs.Grammar.{Declaration, Tree, Const, Span, Heads, Script}
use Rattle.language_theory.specs.Grammar.Const.{plain, signed}
use Rattle.language_theory.specs.Grammar.Span.{span}
use Rattle.language_theory.specs.Grammar.Heads.{no_decl, var_decl, table_decl}
use Rattle.language_theory.specs.Grammar.Script.{script}
use Rattle.language_theory.specs.Graphs.{Graph, Variable, variables, graph, Each}
use Rattle.language_theory.specs.Names.{Outcome, Verdict}
use Rattle.language_theory.specs.Names.Outcome.{drawn}
use Rattle.language_theory.specs.Names.Verdict.{too_long, by_rule, too_many, fine}
use Rattle.language_theory.specs.Rules.{words}
use Rattle.language_theory.specs.declared.Range.{Range}
use Rattle.language_theory.proofs.Verdicts.{passes_script}
use Rattle.language_theory.specs.Graphs.{no_variable}
use Rattle.report_theory.specs.Reports.{name_of}
use Rattle.report_theory.proofs.Plainness.{ends_field, Plain}

-- a name that can stand as a field, of at most 16 bytes
abbrev IsField : List ℕ → Type 0
IsField n = Plain n × (length n ≤ 16)

-- a byte of a test that neither a space nor LF passes
plain_byte : (f : ℕ → Bool) → f 32 ≡ false → f 10 ≡ false → (b : ℕ) → f b ≡ true → ends_field b ≡ false
plain_byte f s e b h = go (eqb b 32) refl (eqb b 10) refl
  where
    go : (c : Bool) → eqb b 32 ≡ c → (d : Bool) → eqb b 10 ≡ d → (c || d) ≡ false
    go true p d q = absurd (false≢true (sym s ∙ ap f (sym (eqb-true b 32 p)) ∙ h))
    go false p true q = absurd (false≢true (sym e ∙ ap f (sym (eqb-true b 10 q)) ∙ h))
    go false p false q = refl

run_plain : (bs : List ℕ) → Plain (run inner bs)
run_plain [] = tt
run_plain (b ∷ bs) = cond_both (inner b) _ _ Plain (λ e. (plain_byte inner refl refl b e, run_plain bs)) (λ _. tt)

-- words whose names can stand as fields
abbrev NamesWord : Word → Type 0
NamesWord (name n p) = IsField n
NamesWord (number n p) = Unit {0}
NamesWord (mark m p) = Unit {0}

abbrev NamesNext : Next → Type 0
NamesNext (word w) = NamesWord w
NamesNext (fault n p) = Unit {0}
NamesNext (end p) = Unit {0}

name_next : (bs : List ℕ) (p : Place) (o : Option Mark) → IsField bs → NamesNext (name_word bs p o)
name_next bs p (Some m) h = tt
name_next bs p None h = h

symbol_next : (o : Option Spelling) (b : ℕ) (p : Place) → NamesNext (symbol_part o b p).next
symbol_next (Some s) b p = tt
symbol_next None b p = tt

part_names : (bs : List ℕ) (p : Place) → NamesNext (part bs p).next
part_names [] p = tt
part_names (b ∷ bs) p =
    let P : Part → Type 0 = λ t. NamesNext t.next in
    let n = b ∷ run inner bs in
    let ds = b ∷ run digit bs in
    cond_both (letter b) _ _ P
    (λ e. cond_both (leb (length n) 16) _ _ NamesNext (λ f. name_next n p (reserved_in reserved n) ((plain_byte letter refl refl b e, run_plain bs), leb-true (length n) 16 f)) (λ _. tt))
    (λ _. cond_both (digit b) _ _ P
    (λ _. cond_both (leb (value 0 ds) 2147483647) _ _ NamesNext (λ _. tt) (λ _. tt))
    (λ _. symbol_next (symbol_in symbols (b ∷ bs)) b p))

abbrev Names : List Word → Type 0
Names ws = Each NamesWord ws

reads_names : {bs : List ℕ} {p : Place} {t : Text} → Reads bs p t → Names (words t)
reads_names (at_end e) = tt
reads_names (at_fault e) = tt
reads_names (at_word {bs = bs} {p = p} e r) = (subst NamesNext e (part_names (drop (length (gap false bs)) bs) (behind (gap false bs) p)), reads_names r)

-- the same of the words behind a constant and behind a range
const_names : {ws r : List Word} {c : ℤ} → Const ws r c → Names ws → Names r
const_names plain s = s.1
const_names signed s = s.1.1

span_names : {ws r : List Word} {g : Range} → Span ws r g → Names ws → Names r
span_names (span a b) s = const_names b (const_names a s).1

abbrev Fields : List Variable → Type 0
Fields vs = Each (λ (v : Variable). IsField v.name) vs

heads_names : {ws r : List Word} {ds : List Declaration} → Heads ws r ds → Names ws → Fields (variables ds)
heads_names no_decl s = tt
heads_names (var_decl g h) s = (s.1.0, heads_names h (span_names g s.1.1.1).1)
heads_names (table_decl g h) s = heads_names h (span_names g s.1.1.1.1.1.1).1

script_names : {ws : List Word} {t : Tree} → Script ws t → Names ws → Fields (graph t).variables
script_names (script h b) s = heads_names h s

drawn_names : {bs : List ℕ} {o : Outcome} → Verdict bs o → (g : Graph) → o ≡ drawn g → Fields g.variables
drawn_names (too_long h) g e = let z : ◌≡◌ {A = ℕ} 0 1 = cc in absurd (omega arith)
drawn_names (by_rule l r f) g e = let z : ◌≡◌ {A = ℕ} 0 1 = cc in absurd (omega arith)
drawn_names (too_many l r f k m) g e = let z : ◌≡◌ {A = ℕ} 0 1 = cc in absurd (omega arith)
drawn_names (fine {tree = tree} l r f k) g e = let s : graph tree ≡ g = cc in subst (λ (x : Graph). Fields x.variables) s (script_names (passes_script f) (reads_names r))

at_place : (vs : List Variable) (v : ℕ) → v < length vs → Fields vs → IsField (get_or vs v no_variable).name
at_place [] v b h = absurd (omega arith)
at_place (x ∷ vs) zero b h = h.0
at_place (x ∷ vs) (suc v) b h = at_place vs v (omega arith) h.1

pub names_plain : (bs : List ℕ) (g : Graph) → Verdict bs (drawn g) → (v : ℕ) → v < length g.variables → Plain (name_of g v)
names_plain bs g d v h = (at_place g.variables v h (drawn_names d g refl)).0

short_place : (vs : List Variable) (v : ℕ) → Fields vs → length (get_or vs v no_variable).name ≤ 16
short_place [] v h = omega arith
short_place (x ∷ vs) zero h = h.0.1
short_place (x ∷ vs) (suc v) h = short_place vs v h.1

-- they are short, and so is the empty name of one that is not there
pub names_short : (bs : List ℕ) (g : Graph) → Verdict bs (drawn g) → (v : ℕ) → length (name_of g v) ≤ 16
names_short bs g d v = short_place g.variables v (drawn_names d g refl)
