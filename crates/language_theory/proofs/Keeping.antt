-- A text passes exactly if it is the script of a tree that keeps the rules.
use Rattle.std.proofs.Common.{◌≡◌, ℕ, suc, ◌<◌, ◌≤◌, Bool, true, false, cond, not, ◌||◌, eqb, ltb, leb, List, [], ◌∷◌, ◌++◌, length, ℤ, pos, neg_ℤ, sym, refl, ap, ◌∙◌, append_assoc, append-nil, arith}
use lib.Signed.{lt_z}
use Rattle.std.proofs.Math.Bool.{or-false}
use Rattle.std.proofs.lemmas.Bool.{false≢true, or_parts, or_from, leb-false, lt-leb, eqb-false, ne_eqb, ltb-false, le-ltb}
use Rattle.base.specs.declared.Place.{Place}
use Rattle.lexer.specs.Words.{Word, same, among}
use Rattle.lexer.specs.Words.Word.{name, number, mark}
use Rattle.lexer.specs.Marks.{is}
use Rattle.lexer.specs.declared.Mark.{Mark}
use Rattle.lexer.specs.declared.Mark.TheVariants.{Becomes, Dots, Equals, Plus, Minus, OpenBrace, CloseBrace, OpenBracket, CloseBracket, Semicolon, Var, Table, If, Else, While, Hear, Sense}
use Rattle.language_theory.specs.declared.Range.{Range}
use Rattle.language_theory.specs.Grammar.{Declaration, Side, Order, Operand, Condition, Statements, Tree, Const, Span, Heads, Compared, Cond, Right, Body, Script}
use Rattle.language_theory.specs.Grammar.Const.{plain, signed}
use Rattle.language_theory.specs.Grammar.Span.{span}
use Rattle.language_theory.specs.Grammar.Heads.{no_decl, var_decl, table_decl}
use Rattle.language_theory.specs.Grammar.Compare.{less, less_equal, greater, greater_equal}
use Rattle.language_theory.specs.Grammar.Compared.{named, fixed}
use Rattle.language_theory.specs.Grammar.Condition.{compares}
use Rattle.language_theory.specs.Grammar.Cond.{condition}
use Rattle.language_theory.specs.Grammar.Right.{a_const, a_copy, a_sum, a_difference, a_negation, a_hear, a_sense, a_lookup}
use Rattle.language_theory.specs.Grammar.Body.{no_stmt, assignment, if_stmt, if_else_stmt, while_stmt}
use Rattle.language_theory.specs.Grammar.Script.{script}
use Rattle.language_theory.specs.Graphs.{variables, tables, var_names, table_names, Among}
use Rattle.language_theory.specs.Names.{rule, falls_behind, signed as with_sign, names_behind, level}
use Rattle.language_theory.specs.Rules.{Rises, HeadsKeep, SideKeeps, OperandKeeps, ConditionKeeps, BodyKeeps, Keeps}
use Rattle.language_theory.specs.Readings.{Alike, Quiet, Orders, Compares, Asks, Boundary}
use Rattle.language_theory.specs.Readings.Orders.{less_than, at_most_than, greater_than, at_least_than}
use Rattle.language_theory.specs.Readings.Compares.{comparing}
use Rattle.language_theory.specs.Readings.Asks.{behind_if, behind_while}
use Rattle.language_theory.specs.Readings.Boundary.{at_start, behind_semicolon, behind_open, behind_close}
use Rattle.language_theory.proofs.Steps.{alike_name}
use Rattle.language_theory.proofs.Pasts.{quiet_rule, quiet_signed, order_rule, order_alike, compares_rule, compares_alike, compares_quiet, asks_rule, asks_alike, boundary_rule, boundary_alike}

abbrev bracket_in : List Word → Bool
bracket_in [] = false
bracket_in (w ∷ ws) = is OpenBracket w

-- no rule fails at any of these words
abbrev pub Kept : List Word → List Word → Type 0
Kept past [] = Unit {0}
Kept past (w ∷ ws) = (rule past w (bracket_in ws) ≡ 0) × Kept (w ∷ past) ws

-- these are the names declared in the past, and the blocks open there
abbrev At : List (List ℕ) → List (List ℕ) → ℕ → List Word → Type 0
At vs ts l past = (names_behind Var past ≡ vs) × (names_behind Table past ≡ ts) × (level past ≡ l)

-- and a statement may begin
abbrev Fresh : List (List ℕ) → List (List ℕ) → ℕ → List Word → Type 0
Fresh vs ts l past = Boundary past × At vs ts l past

-- Going over words: the past is then so (A), and the rules at these words say R.
record Going (past : List Word) (A : List Word → Type 0) (ws r : List Word) (R : Type 0) : Type 0 where
  past' : List Word
  so : A past'
  there : Kept past ws → R × Kept past' r
  back : R → Kept past' r → Kept past ws

unbroken : (n : ℕ) (b : Bool) → cond b (suc n) 0 ≡ 0 → b ≡ false
unbroken n true e = absurd (omega arith)
unbroken n false e = refl

keep : (n : ℕ) (b : Bool) → b ≡ false → cond b (suc n) 0 ≡ 0
keep n true e = absurd (false≢true (sym e))
keep n false e = refl

found : (b : Bool) → ◌≡◌ {A = ℕ} (cond (not b) 8 0) 0 → b ≡ true
found true e = refl
found false e = absurd (omega arith)

keep_found : (b : Bool) → b ≡ true → ◌≡◌ {A = ℕ} (cond (not b) 8 0) 0
keep_found true e = refl
keep_found false e = absurd (false≢true e)

found_two : (b c : Bool) → ◌≡◌ {A = ℕ} (cond (not b) 8 (cond c 11 0)) 0 → (b ≡ true) × (c ≡ false)
found_two true true e = absurd (omega arith)
found_two true false e = (refl, refl)
found_two false c e = absurd (omega arith)

keep_two : (b c : Bool) → (b ≡ true) × (c ≡ false) → ◌≡◌ {A = ℕ} (cond (not b) 8 (cond c 11 0)) 0
keep_two true true e = absurd (false≢true (sym e.1))
keep_two true false e = refl
keep_two false c e = absurd (false≢true e.0)

-- a name that is declared
declared : {ns vs : List (List ℕ)} → ns ≡ vs → (n : List ℕ) → ◌≡◌ {A = ℕ} (cond (not (among n ns)) 8 0) 0 → Among n vs
declared {ns} e n h = sym (ap (among n) e) ∙ found (among n ns) h

keep_declared : {ns vs : List (List ℕ)} → ns ≡ vs → (n : List ℕ) → Among n vs → ◌≡◌ {A = ℕ} (cond (not (among n ns)) 8 0) 0
keep_declared {ns} e n h = keep_found (among n ns) (ap (among n) e ∙ h)

at_alike : {vs ts : List (List ℕ)} {l : ℕ} {past past₂ : List Word} → Alike past past₂ → At vs ts l past₂ → At vs ts l past
at_alike x a = (x.vars ∙ a.0, x.tabs ∙ a.1, x.lev ∙ a.2)

-- the past ends in this constant
abbrev Ends : ℤ → List Word → Type 0
Ends c past = (b : ℤ) → falls_behind past b ≡ lt_z b c

module _ {vs ts : List (List ℕ)} {l : ℕ} where
  k_const : {ws r : List Word} {c : ℤ} → Const ws r c → {past : List Word} → Quiet past → At vs ts l past →
      (x : Going past (At vs ts l) ws r (Unit {0})) × Ends c x.past'
  k_const (plain {n = n} {p = p} {r = r}) {past} y a = (
    record { past' = number n p ∷ past; so = a; there = λ k. (tt, k.1); back = λ h k. (quiet_rule past n p (bracket_in r) y, k) },
    λ b. ap (λ (s : Bool). lt_z b (with_sign s n)) y.minus,
  )
  k_const (signed {n = n} {p = s} {q = p} {r = r}) {past} y a = (
    record { past' = number n p ∷ mark Minus s ∷ past; so = a; there = λ k. (tt, k.1.1); back = λ h k. (refl, (quiet_signed past s n p (bracket_in r) y, k)) },
    λ b. refl,
  )

  -- the second constant of a range
  k_second : {ws r : List Word} {b : ℤ} → Const ws r b → {past : List Word} {c : ℤ} → Ends c past → (d : Place) → At vs ts l past →
      Going (mark Dots d ∷ past) (At vs ts l) ws r (lt_z b c ≡ false)
  k_second (plain {n = n} {p = p}) {past} e d a =
      let t = falls_behind past (pos n) in
      record { past' = number n p ∷ mark Dots d ∷ past; so = a; there = λ k. (sym (e (pos n)) ∙ unbroken 8 t k.0, k.1); back = λ h k. (keep 8 t (e (pos n) ∙ h), k) }
  k_second (signed {n = n} {p = s} {q = p}) {past} e d a =
      let t = falls_behind past (neg_ℤ (pos n)) in
      record {
        past' = number n p ∷ mark Minus s ∷ mark Dots d ∷ past;
        so = a;
        there = λ k. (sym (e (neg_ℤ (pos n))) ∙ unbroken 8 t k.1.0, k.1.1);
        back = λ h k. (refl, (keep 8 t (e (neg_ℤ (pos n)) ∙ h), k));
      }

  k_span : {ws r : List Word} {g : Range} → Span ws r g → {past : List Word} → Quiet past → At vs ts l past → Going past (At vs ts l) ws r (Rises g)
  k_span (span {p = d} first second) y a =
      let xe = k_const first y a in
      let x = xe.0 in
      let z = k_second second xe.1 d x.so in
      record { past' = z.past'; so = z.so; there = λ k. z.there (x.there k).1.1; back = λ h k. x.back tt (refl, z.back h k) }

  -- the right side of an assignment
  module _ (o : Place) (past : List Word) (a : At vs ts l past) where
    -- a name there, whatever follows
    behind_name : (n : List ℕ) (p : Place) → At vs ts l (name n p ∷ mark Becomes o ∷ past)
    behind_name n p = at_alike (alike_name n p (mark Becomes o ∷ past) refl refl) a

    k_right : {ws r : List Word} {s : Place} {e : Side} → Right ws (mark Semicolon s ∷ r) e → Going (mark Becomes o ∷ past) (At vs ts l) ws (mark Semicolon s ∷ r) (SideKeeps vs ts e)
    k_right (a_const c) = (k_const c (record { minus = refl; dots = refl; bracket = refl }) a).0
    k_right (a_copy {n = n} {p = p}) =
        record { past' = name n p ∷ mark Becomes o ∷ past; so = behind_name n p; there = λ k. (declared a.0 n k.0, k.1); back = λ h k. (keep_declared a.0 n h, k) }
    k_right (a_sum {n = n} {c = c} {p = p} {q = q} {s = s}) =
        record {
          past' = number c s ∷ mark Plus q ∷ name n p ∷ mark Becomes o ∷ past;
          so = behind_name n p;
          there = λ k. (declared a.0 n k.0, k.1.1.1);
          back = λ h k. (keep_declared a.0 n h, (refl, (refl, k)));
        }
    k_right (a_difference {n = n} {c = c} {p = p} {q = q} {s = s}) =
        record {
          past' = number c s ∷ mark Minus q ∷ name n p ∷ mark Becomes o ∷ past;
          so = behind_name n p;
          there = λ k. (declared a.0 n k.0, k.1.1.1);
          back = λ h k. (keep_declared a.0 n h, (refl, (refl, k)));
        }
    k_right (a_negation {n = n} {p = p} {q = q}) =
        record {
          past' = name n q ∷ mark Minus p ∷ mark Becomes o ∷ past;
          so = at_alike (alike_name n q (mark Minus p ∷ mark Becomes o ∷ past) refl refl) a;
          there = λ k. (declared a.0 n k.1.0, k.1.1);
          back = λ h k. (refl, (keep_declared a.0 n h, k));
        }
    k_right (a_hear {p = p} g) =
        let x = k_span g {past = mark Hear p ∷ mark Becomes o ∷ past} (record { minus = refl; dots = refl; bracket = refl }) a in
        record { past' = x.past'; so = x.so; there = λ k. x.there k.1; back = λ h k. (refl, x.back h k) }
    k_right (a_sense {p = p} g) =
        let x = k_span g {past = mark Sense p ∷ mark Becomes o ∷ past} (record { minus = refl; dots = refl; bracket = refl }) a in
        record { past' = x.past'; so = x.so; there = λ k. x.there k.1; back = λ h k. (refl, x.back h k) }
    k_right (a_lookup {t = t} {i = i} {p = p} {q = q} {s = s} {u = u}) =
        let b = behind_name t p in
        record {
          past' = mark CloseBracket u ∷ name i s ∷ mark OpenBracket q ∷ name t p ∷ mark Becomes o ∷ past;
          so = at_alike (alike_name i s (mark OpenBracket q ∷ name t p ∷ mark Becomes o ∷ past) refl refl) b;
          there = λ k. ((declared a.1 t k.0, declared b.0 i k.1.1.0), k.1.1.1.1);
          back = λ h k. (keep_declared a.1 t h.0, (refl, (keep_declared b.0 i h.1, (refl, k))));
        }

  -- conditions
  k_compared : {ws r : List Word} {v : Operand} → Compared ws r v → {past : List Word} {i : List ℕ} → Compares i past → At vs ts l past →
      Going past (At vs ts l) ws r (OperandKeeps vs i v)
  k_compared (named {n = n} {p = p} {r = r}) {past} {i} c a =
      let e = compares_rule c n p (bracket_in r) in
      let ns = names_behind Var past in
      record {
        past' = name n p ∷ past;
        so = at_alike (compares_alike c n p) a;
        there = λ k. let h = found_two (among n ns) (same n i) (sym e ∙ k.0) in ((sym (ap (among n) a.0) ∙ h.0, h.1), k.1);
        back = λ h k. (e ∙ keep_two (among n ns) (same n i) (ap (among n) a.0 ∙ h.0, h.1), k);
      }
  k_compared (fixed z) c a = (k_const z (compares_quiet c) a).0

  k_ordered : {m : Mark} {o : Order} → Orders m o → (i : List ℕ) (p q : Place) {ws r : List Word} {v : Operand} → Compared ws r v → {past : List Word} → Asks past → At vs ts l past →
      Going past (At vs ts l) (name i p ∷ mark m q ∷ ws) r (ConditionKeeps vs (compares i o v))
  k_ordered {m = m} by i p q {ws = ws} v {past = past} y a =
      let e = asks_rule y i p (is OpenBracket (mark m q)) in
      let named = at_alike (asks_alike y i p) a in
      let x = k_compared v {past = mark m q ∷ name i p ∷ past} (comparing by) (at_alike (order_alike by (name i p ∷ past) q) named) in
      record {
        past' = x.past';
        so = x.so;
        there = λ k. let h = x.there k.1.1 in ((declared a.0 i (sym e ∙ k.0), h.0), h.1);
        back = λ h k. (e ∙ keep_declared a.0 i h.0, (order_rule by (name i p ∷ past) q (bracket_in ws), x.back h.1 k));
      }

  k_cond : {ws r : List Word} {c : Condition} → Cond ws r c → {past : List Word} → Asks past → At vs ts l past → Going past (At vs ts l) ws r (ConditionKeeps vs c)
  k_cond (condition {n = n} {p = p} (less {p = q}) v) = k_ordered less_than n p q v
  k_cond (condition {n = n} {p = p} (less_equal {p = q}) v) = k_ordered at_most_than n p q v
  k_cond (condition {n = n} {p = p} (greater {p = q}) v) = k_ordered greater_than n p q v
  k_cond (condition {n = n} {p = p} (greater_equal {p = q}) v) = k_ordered at_least_than n p q v

  -- a block round statements: fewer than eight are open before
  k_block : {o x : Place} {past ws r : List Word} {R : Type 0} → At vs ts l past → Going (mark OpenBrace o ∷ past) (Fresh vs ts (suc l)) ws (mark CloseBrace x ∷ r) R →
      Going past (Fresh vs ts l) (mark OpenBrace o ∷ ws) r ((l < 8) × R)
  k_block {x = x} {past = past} a y =
      let deep : level y.past' ≡ suc l = y.so.1.2 in
      let here : level past ≡ l = a.2 in
      record {
        past' = mark CloseBrace x ∷ y.past';
        so = (behind_close, (y.so.1.0, y.so.1.1, omega arith));
        there = λ k.
            let room = leb-false 8 (level past) (unbroken 5 (leb 8 (level past)) k.0) in
            let h = y.there k.1 in
            ((omega arith, h.0), h.1.1);
        back = λ h k. let room = h.0 in (keep 5 (leb 8 (level past)) (lt-leb 8 (level past) (omega arith)), y.back h.1 (refl, k));
      }

k_body : {ws r : List Word} {b : Statements} → Body ws r b → {vs ts : List (List ℕ)} {l : ℕ} {past : List Word} → Fresh vs ts l past → Going past (Fresh vs ts l) ws r (BodyKeeps vs ts l b)
k_body no_stmt {past = past} f = record { past' = past; so = f; there = λ k. (tt, k); back = λ h k. k }
k_body (assignment {n = n} {p = p} {q = q} {s = s} side rest) {past = past} f =
    let e = boundary_rule f.0 n p false in
    let x = k_right q (name n p ∷ past) (at_alike (boundary_alike f.0 n p) f.1) side in
    let y = k_body rest {past = mark Semicolon s ∷ x.past'} (behind_semicolon, x.so) in
    record {
      past' = y.past';
      so = y.so;
      there = λ k.
          let h = x.there k.1.1 in
          let i = y.there h.1.1 in
          ((declared f.1.0 n (sym e ∙ k.0), h.0, i.0), i.1);
      back = λ h k. (e ∙ keep_declared f.1.0 n h.0, (refl, x.back h.1 (refl, y.back h.2 k)));
    }
k_body (if_stmt {p = p} {o = o} {x = u} c b rest) {past = past} f =
    let x = k_cond c {past = mark If p ∷ past} behind_if f.1 in
    let y = k_block {x = u} x.so (k_body b {past = mark OpenBrace o ∷ x.past'} (behind_open, (x.so.0, x.so.1, ap suc x.so.2))) in
    let z = k_body rest y.so in
    record {
      past' = z.past';
      so = z.so;
      there = λ k.
          let h = x.there k.1 in
          let i = y.there h.1 in
          let j = z.there i.1 in
          ((h.0, i.0.0, i.0.1, tt, j.0), j.1);
      back = λ h k. (refl, x.back h.0 (y.back (h.1, h.2) (z.back h.4 k)));
    }
k_body (while_stmt {p = p} {o = o} {x = u} c b rest) {past = past} f =
    let x = k_cond c {past = mark While p ∷ past} behind_while f.1 in
    let y = k_block {x = u} x.so (k_body b {past = mark OpenBrace o ∷ x.past'} (behind_open, (x.so.0, x.so.1, ap suc x.so.2))) in
    let z = k_body rest y.so in
    record {
      past' = z.past';
      so = z.so;
      there = λ k.
          let h = x.there k.1 in
          let i = y.there h.1 in
          let j = z.there i.1 in
          ((h.0, i.0.0, i.0.1, j.0), j.1);
      back = λ h k. (refl, x.back h.0 (y.back (h.1, h.2) (z.back h.3 k)));
    }
k_body (if_else_stmt {p = p} {o = o} {x = u} {l = e} {o₂ = o₂} {x₂ = u₂} c b b₂ rest) {past = past} f =
    let x = k_cond c {past = mark If p ∷ past} behind_if f.1 in
    let y = k_block {x = u} x.so (k_body b {past = mark OpenBrace o ∷ x.past'} (behind_open, (x.so.0, x.so.1, ap suc x.so.2))) in
    let w = k_block {x = u₂} {past = mark Else e ∷ y.past'} y.so.1 (k_body b₂ {past = mark OpenBrace o₂ ∷ mark Else e ∷ y.past'} (behind_open, (y.so.1.0, y.so.1.1, ap suc y.so.1.2))) in
    let z = k_body rest w.so in
    record {
      past' = z.past';
      so = z.so;
      there = λ k.
          let h = x.there k.1 in
          let i = y.there h.1 in
          let m = w.there i.1.1 in
          let j = z.there m.1 in
          ((h.0, i.0.0, i.0.1, m.0.1, j.0), j.1);
      back = λ h k. (refl, x.back h.0 (y.back (h.1, h.2) (refl, w.back (h.1, h.3) (z.back h.4 k))));
    }

-- declarations
declares : (a b c : Bool) → ◌≡◌ {A = ℕ} (cond (a || b) 7 (cond c 12 0)) 0 → (a ≡ false) × (b ≡ false) × (c ≡ false)
declares true b c e = absurd (omega arith)
declares false true c e = absurd (omega arith)
declares false false true e = absurd (omega arith)
declares false false false e = (refl, refl, refl)

keep_declares : (a b c : Bool) → a ≡ false → b ≡ false → c ≡ false → ◌≡◌ {A = ℕ} (cond (a || b) 7 (cond c 12 0)) 0
keep_declares true b c e f g = absurd (false≢true (sym e))
keep_declares false true c e f g = absurd (false≢true (sym f))
keep_declares false false true e f g = absurd (false≢true (sym g))
keep_declares false false false e f g = refl

sized : (c : ℕ) → (eqb c 0 || ltb 65536 c) ≡ false → (0 < c) × (c ≤ 65536)
sized c h =
    let k = or_parts (eqb c 0) (ltb 65536 c) h in
    let z : (c ≡ 0 → ⊥) = eqb-false c 0 k.0 in
    let u = ltb-false 65536 c k.1 in (omega arith, u)

keep_sized : (c : ℕ) → 0 < c → c ≤ 65536 → (eqb c 0 || ltb 65536 c) ≡ false
keep_sized c h k = or_from (eqb c 0) (ltb 65536 c) (ne_eqb c 0 (λ e. omega arith)) (le-ltb 65536 c k)

k_heads : {ws r : List Word} {ds : List Declaration} → Heads ws r ds → {vs ts : List (List ℕ)} {past : List Word} → Fresh vs ts 0 past →
    Going past (Fresh (vs ++ var_names (variables ds)) (ts ++ table_names (tables ds)) 0) ws r (HeadsKeep vs ts ds)
k_heads no_decl {vs} {ts} {past} f =
    record { past' = past; so = (f.0, (f.1.0 ∙ sym (append-nil vs), f.1.1 ∙ sym (append-nil ts), f.1.2)); there = λ k. (tt, k); back = λ h k. k }
k_heads (var_decl {n = n} {p = p} {q = q} {e = e} {s = s} {ds = ds} range rest) {vs} {ts} {past} f =
    let V = names_behind Var past in
    let W = names_behind Table past in
    let v : V ≡ vs = f.1.0 in
    let w : W ≡ ts = f.1.1 in
    let size = ap length v in
    let full = leb 8 (length V) in
    let a : At (vs ++ (n ∷ [])) ts 0 (name n q ∷ mark Var p ∷ past) = (ap (λ (z : List (List ℕ)). z ++ (n ∷ [])) v, append-nil W ∙ w, f.1.2) in
    let x = k_span range {past = mark Equals e ∷ name n q ∷ mark Var p ∷ past} (record { minus = refl; dots = refl; bracket = refl }) a in
    let y = k_heads rest {past = mark Semicolon s ∷ x.past'} (behind_semicolon, x.so) in
    record {
      past' = y.past';
      so = (y.so.0, (y.so.1.0 ∙ append_assoc vs (n ∷ []) (var_names (variables ds)), y.so.1.1, y.so.1.2));
      there = λ k.
          let d = declares (among n V) (among n W) (full || false) k.1.0 in
          let room = leb-false 8 (length V) (sym (or-false full) ∙ d.2) in
          let h = x.there k.1.1.1 in
          let i = y.there h.1.1 in
          ((sym (ap (among n) v) ∙ d.0, sym (ap (among n) w) ∙ d.1, omega arith, h.0, i.0), i.1);
      back = λ h k. let room = h.2 in (
        refl,
        (
          keep_declares (among n V) (among n W) (full || false) (ap (among n) v ∙ h.0) (ap (among n) w ∙ h.1) (or-false full ∙ lt-leb 8 (length V) (omega arith)),
          (refl, x.back h.3 (refl, y.back h.4 k)),
        ),
      );
    }
k_heads (table_decl {n = n} {c = c} {p = p} {q = q} {o = o} {u = u} {x = b} {e = e} {s = s} {ds = ds} range rest) {vs} {ts} {past} f =
    let V = names_behind Var past in
    let W = names_behind Table past in
    let v : V ≡ vs = f.1.0 in
    let w : W ≡ ts = f.1.1 in
    let size = ap length w in
    let full = leb 8 (length W) in
    let a : At vs (ts ++ (n ∷ [])) 0 (name n q ∷ mark Table p ∷ past) = (append-nil V ∙ v, ap (λ (z : List (List ℕ)). z ++ (n ∷ [])) w, f.1.2) in
    let x = k_span range {past = mark Equals e ∷ mark CloseBracket b ∷ number c u ∷ mark OpenBracket o ∷ name n q ∷ mark Table p ∷ past} (record { minus = refl; dots = refl; bracket = refl }) a in
    let y = k_heads rest {past = mark Semicolon s ∷ x.past'} (behind_semicolon, x.so) in
    record {
      past' = y.past';
      so = (y.so.0, (y.so.1.0, y.so.1.1 ∙ append_assoc ts (n ∷ []) (table_names (tables ds)), y.so.1.2));
      there = λ k.
          let d = declares (among n V) (among n W) full k.1.0 in
          let room = leb-false 8 (length W) d.2 in
          let z = sized c (unbroken 9 (eqb c 0 || ltb 65536 c) k.1.1.1.0) in
          let h = x.there k.1.1.1.1.1.1 in
          let i = y.there h.1.1 in
          ((sym (ap (among n) v) ∙ d.0, sym (ap (among n) w) ∙ d.1, omega arith, z.0, z.1, h.0, i.0), i.1);
      back = λ h k. let room = h.2 in (
        refl,
        (
          keep_declares (among n V) (among n W) full (ap (among n) v ∙ h.0) (ap (among n) w ∙ h.1) (lt-leb 8 (length W) (omega arith)),
          (refl, (keep 9 (eqb c 0 || ltb 65536 c) (keep_sized c h.3 h.4), (refl, (refl, x.back h.5 (refl, y.back h.6 k))))),
        ),
      );
    }

-- the words of a script keep the rules exactly if its tree does
pub kept_keeps : {ws : List Word} {t : Tree} → Script ws t → Kept [] ws → Keeps t
kept_keeps (script heads body) k =
    let x = k_heads heads {vs = []} {ts = []} {past = []} (at_start, (refl, refl, refl)) in
    let h = x.there k in
    record { heads = h.0; body = ((k_body body x.so).there h.1).0 }

pub keeps_kept : {ws : List Word} {t : Tree} → Script ws t → Keeps t → Kept [] ws
keeps_kept (script heads body) k =
    let x = k_heads heads {vs = []} {ts = []} {past = []} (at_start, (refl, refl, refl)) in
    x.back k.heads ((k_body body x.so).back k.body tt)
