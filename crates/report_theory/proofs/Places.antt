-- Lines and columns of a script are at most as many as its bytes, and one. So are those of its table reads.
use Rattle.std.proofs.Common.{◌≡◌, ℕ, ◌+◌, ◌≤◌, false, leb, List, [], ◌∷◌, length, drop, Some, None, Option, ℤ, sym, refl, subst, arith, length-drop}
use Rattle.std.proofs.lemmas.Bool.{cond_both}
use Rattle.base.specs.declared.Place.{Place}
use Rattle.lexer.specs.Words.{Word, Next, Text, Reads, Part, Spelling, letter, digit, inner, run, gap, behind, reserved, reserved_in, name_word, value, symbols, symbol_in, symbol_part, part, place}
use Rattle.lexer.specs.Words.Next.{word, fault, end}
use Rattle.lexer.specs.Words.Reads.{at_end, at_fault, at_word}
use Rattle.lexer.specs.declared.Mark.{Mark}
use Rattle.lexer.proofs.Loops.{behind_line, behind_column}
use Rattle.lexer.proofs.Parts.{gap_front, front_short, part_joined}
use Rattle.language_theory.specs.Grammar.{Declaration, Side, Operand, Condition, Statements, Tree, Const, Span, Heads, Compared, Cond, Right, Body, Script}
use Rattle.language_theory.specs.Grammar.Side.{constant, shifted, negated, any, reading}
use Rattle.language_theory.specs.Grammar.Statements.{done, assign, choose, repeat}
use Rattle.language_theory.specs.Grammar.Const.{plain, signed}
use Rattle.language_theory.specs.Grammar.Span.{span}
use Rattle.language_theory.specs.Grammar.Heads.{no_decl, var_decl, table_decl}
use Rattle.language_theory.specs.Grammar.Compare.{less, less_equal, greater, greater_equal}
use Rattle.language_theory.specs.Grammar.Compared.{named, fixed}
use Rattle.language_theory.specs.Grammar.Cond.{condition}
use Rattle.language_theory.specs.Grammar.Right.{a_const, a_copy, a_sum, a_difference, a_negation, a_hear, a_sense, a_lookup}
use Rattle.language_theory.specs.Grammar.Body.{no_stmt, assignment, if_stmt, if_else_stmt, while_stmt}
use Rattle.language_theory.specs.Grammar.Script.{script}
use Rattle.language_theory.specs.Graphs.{Each, Graph, Variable, Table, Drawing, variables, tables, blank_sheet, fresh, back, stand, holds, fails, var_number, draw_assign, draw, graph}
use Rattle.language_theory.specs.Names.{Outcome, Verdict}
use Rattle.language_theory.specs.Names.Outcome.{drawn}
use Rattle.language_theory.specs.Names.Verdict.{too_long, by_rule, too_many, fine}
use Rattle.language_theory.specs.Rules.{words}
use Rattle.language_theory.specs.declared.Range.{Range}
use Rattle.language_theory.specs.declared.Action.TheVariants.{Skip}
use Rattle.language_theory.specs.declared.Lookup.{Lookup}
use Rattle.language_theory.proofs.Drawings.{each_snoc}
use Rattle.language_theory.proofs.Verdicts.{passes_script}

-- a line and a column of at most m
abbrev pub Early : ℕ → Place → Type 0
Early m p = (p.line ≤ m) × (p.column ≤ m)

-- a word stands where its part begins
abbrev StandsAt : Place → Next → Type 0
StandsAt p (word w) = place w ≡ p
StandsAt p (fault n q) = Unit {0}
StandsAt p (end q) = Unit {0}

name_stands : (bs : List ℕ) (p : Place) (o : Option Mark) → StandsAt p (name_word bs p o)
name_stands bs p (Some m) = refl
name_stands bs p None = refl

symbol_stands : (o : Option Spelling) (b : ℕ) (p : Place) → StandsAt p (symbol_part o b p).next
symbol_stands (Some s) b p = refl
symbol_stands None b p = tt

part_stands : (bs : List ℕ) (p : Place) → StandsAt p (part bs p).next
part_stands [] p = tt
part_stands (b ∷ bs) p =
    let P : Part → Type 0 = λ t. StandsAt p t.next in
    cond_both (letter b) _ _ P
    (λ _. cond_both (leb (length (b ∷ run inner bs)) 16) _ _ (StandsAt p) (λ _. name_stands (b ∷ run inner bs) p (reserved_in reserved (b ∷ run inner bs))) (λ _. tt))
    (λ _. cond_both (digit b) _ _ P
    (λ _. cond_both (leb (value 0 (b ∷ run digit bs)) 2147483647) _ _ (StandsAt p) (λ _. refl) (λ _. tt))
    (λ _. symbol_stands (symbol_in symbols (b ∷ bs)) b p))

module _ (m : ℕ) where
  -- all words stand early
  abbrev W : List Word → Type 0
  W ws = Each (λ (w : Word). Early m (place w)) ws

  words_early : {bs : List ℕ} {p : Place} {t : Text} → Reads bs p t → p.line + length bs ≤ m → p.column + length bs ≤ m → W (words t)
  words_early (at_end e) h k = tt
  words_early (at_fault e) h k = tt
  words_early (at_word {bs = bs} {p = p} {w = w} e r) h k =
      let g = gap false bs in
      let tail = drop (length g) bs in
      let q = behind g p in
      let taken = (part tail q).bytes in
      let s : place w ≡ q = subst (StandsAt q) e (part_stands tail q) in
      let a = front_short g bs (gap_front false bs) in
      let b = front_short taken tail (part_joined tail q) in
      let c = length-drop (length g) bs in
      let d = length-drop (length taken) tail in
      let i = behind_line g p in
      let j = behind_column g p in
      let x = behind_line taken q in
      let y = behind_column taken q in
      (subst (Early m) (sym s) (omega arith, omega arith), words_early r (omega arith) (omega arith))

  -- the indices of table reads stand early
  abbrev SideEarly : Side → Type 0
  SideEarly (constant c) = Unit {0}
  SideEarly (shifted i c) = Unit {0}
  SideEarly (negated i) = Unit {0}
  SideEarly (any s g) = Unit {0}
  SideEarly (reading t i p) = Early m p

  abbrev BodyEarly : Statements → Type 0
  BodyEarly done = Unit {0}
  BodyEarly (assign p k e rest) = SideEarly e × BodyEarly rest
  BodyEarly (choose p c b b₂ rest) = BodyEarly b × BodyEarly b₂ × BodyEarly rest
  BodyEarly (repeat p c b rest) = BodyEarly b × BodyEarly rest

  e_const : {ws r : List Word} {c : ℤ} → Const ws r c → W ws → W r
  e_const plain s = s.1
  e_const signed s = s.1.1

  e_span : {ws r : List Word} {g : Range} → Span ws r g → W ws → W r
  e_span (span a b) s = e_const b (e_const a s).1

  e_compared : {ws r : List Word} {v : Operand} → Compared ws r v → W ws → W r
  e_compared named s = s.1
  e_compared (fixed c) s = e_const c s

  e_cond : {ws r : List Word} {c : Condition} → Cond ws r c → W ws → W r
  e_cond (condition less v) s = e_compared v s.1.1
  e_cond (condition less_equal v) s = e_compared v s.1.1
  e_cond (condition greater v) s = e_compared v s.1.1
  e_cond (condition greater_equal v) s = e_compared v s.1.1

  e_right : {ws r : List Word} {e : Side} → Right ws r e → W ws → SideEarly e × W r
  e_right (a_const c) s = (tt, e_const c s)
  e_right a_copy s = (tt, s.1)
  e_right a_sum s = (tt, s.1.1.1)
  e_right a_difference s = (tt, s.1.1.1)
  e_right a_negation s = (tt, s.1.1)
  e_right (a_hear g) s = (tt, e_span g s.1)
  e_right (a_sense g) s = (tt, e_span g s.1)
  e_right a_lookup s = (s.1.1.0, s.1.1.1.1)

  e_body : {ws r : List Word} {b : Statements} → Body ws r b → W ws → BodyEarly b × W r
  e_body no_stmt s = (tt, s)
  e_body (assignment e b) s = let x = e_right e s.1.1 in let y = e_body b x.1.1 in ((x.0, y.0), y.1)
  e_body (if_stmt d b r) s = let y = e_body b (e_cond d s.1).1 in let z = e_body r y.1.1 in ((y.0, tt, z.0), z.1)
  e_body (if_else_stmt d b b₂ r) s = let y = e_body b (e_cond d s.1).1 in let w = e_body b₂ y.1.1.1.1 in let z = e_body r w.1.1 in ((y.0, w.0, z.0), z.1)
  e_body (while_stmt d b r) s = let y = e_body b (e_cond d s.1).1 in let z = e_body r y.1.1 in ((y.0, z.0), z.1)

  e_heads : {ws r : List Word} {ds : List Declaration} → Heads ws r ds → W ws → W r
  e_heads no_decl s = s
  e_heads (var_decl g h) s = e_heads h (e_span g s.1.1.1).1
  e_heads (table_decl g h) s = e_heads h (e_span g s.1.1.1.1.1.1).1

  script_early : {ws : List Word} {t : Tree} → Script ws t → W ws → BodyEarly t.statements
  script_early (script h b) s = (e_body b (e_heads h s)).0

  abbrev LookupsEarly : List Lookup → Type 0
  LookupsEarly ls = Each (λ (l : Lookup). Early m l.place) ls

  module _ (vs : List Variable) (ts : List Table) where
    assign_early : (p : Place) (k : ℕ) (e : Side) (d : Drawing) → SideEarly e → LookupsEarly d.lookups → LookupsEarly (draw_assign vs ts p k e d).lookups
    assign_early p k (constant c) d s h = h
    assign_early p k (shifted i c) d s h = h
    assign_early p k (negated i) d s h = h
    assign_early p k (any s g) d q h = h
    assign_early p k (reading t i q) d s h = each_snoc (λ (l : Lookup). Early m l.place) d.lookups _ h s

    draw_early : (b : Statements) (d : Drawing) → BodyEarly b → LookupsEarly d.lookups → LookupsEarly (draw vs ts b d).lookups
    draw_early done d s h = h
    draw_early (assign p k e rest) d s h = draw_early rest (draw_assign vs ts p (var_number vs ts k) e d) s.1 (assign_early p (var_number vs ts k) e d s.0 h)
    draw_early (choose p c b b₂ rest) d s h =
        let first = draw vs ts b (fresh (holds (var_number vs ts) c) p d) in
        let second = draw vs ts b₂ (fresh (fails (var_number vs ts) c) p (stand d.now first)) in
        let joined = fresh Skip p (stand first.now second) in
        let x = draw_early b (fresh (holds (var_number vs ts) c) p d) s.0 h in
        let y = draw_early b₂ (fresh (fails (var_number vs ts) c) p (stand d.now first)) s.1 x in
        draw_early rest (stand joined.now (back Skip p joined.now (stand second.now joined))) s.2 y
    draw_early (repeat p c b rest) d s h =
        let head = fresh Skip p d in
        let body = draw vs ts b (fresh (holds (var_number vs ts) c) p head) in
        let x = draw_early b (fresh (holds (var_number vs ts) c) p head) s.0 h in
        draw_early rest (fresh (fails (var_number vs ts) c) p (stand head.now (back Skip p head.now body))) s.1 x

early_drawn : {bs : List ℕ} {o : Outcome} → Verdict bs o → (g : Graph) → o ≡ drawn g → LookupsEarly 8193 g.lookups
early_drawn (too_long h) g e = let z : ◌≡◌ {A = ℕ} 0 1 = cc in absurd (omega arith)
early_drawn (by_rule l r f) g e = let z : ◌≡◌ {A = ℕ} 0 1 = cc in absurd (omega arith)
early_drawn (too_many l r f k m) g e = let z : ◌≡◌ {A = ℕ} 0 1 = cc in absurd (omega arith)
early_drawn (fine {tree = t} l r f k) g e =
    let s : graph t ≡ g = cc in
    let h = script_early 8193 (passes_script f) (words_early 8193 r (omega arith) (omega arith)) in
    subst (λ (z : Graph). LookupsEarly 8193 z.lookups) s (draw_early 8193 (variables t.declarations) (tables t.declarations) t.statements blank_sheet h tt)

pub reads_early : (bs : List ℕ) (g : Graph) → Verdict bs (drawn g) → Each (λ (l : Lookup). Early 8193 l.place) g.lookups
reads_early bs g v = early_drawn v g refl
