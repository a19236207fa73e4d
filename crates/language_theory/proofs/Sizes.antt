-- The constants of a script are at most 2147483647 in size.
use Rattle.std.proofs.Common.{ℕ, zero, suc, ◌≤◌, false, leb, List, [], ◌∷◌, length, drop, ℤ, pos, neg_ℤ, Some, None, Option, subst, arith}
use Rattle.std.proofs.lemmas.Bool.{cond_both, leb-true}
use Rattle.lexer.specs.Words.{Word, Next, Text, Reads, Part, Spelling, letter, digit, inner, run, gap, behind, reserved, reserved_in, name_word, value, symbols, symbol_in, symbol_part, part}
use Rattle.lexer.specs.Words.Word.{name, number, mark}
use Rattle.lexer.specs.Words.Next.{word, fault, end}
use Rattle.lexer.specs.Words.Reads.{at_end, at_fault, at_word}
use Rattle.language_theory.specs.Grammar.{Declaration, Side, Operand, Condition, Statements, Tree, Const, Span, Heads, Compared, Cond, Right, Body, Script}
use Rattle.language_theory.specs.Grammar.Const.{plain, signed}
use Rattle.language_theory.specs.Grammar.Span.{span}
use Rattle.language_theory.specs.Grammar.Heads.{no_decl, var_decl, table_decl}
use Rattle.language_theory.specs.Grammar.Compare.{less, less_equal, greater, greater_equal}
use Rattle.language_theory.specs.Grammar.Compared.{named, fixed}
use Rattle.language_theory.specs.Grammar.Cond.{condition}
use Rattle.language_theory.specs.Grammar.Right.{a_const, a_copy, a_sum, a_difference, a_negation, a_hear, a_sense, a_lookup}
use Rattle.language_theory.specs.Grammar.Body.{no_stmt, assignment, if_stmt, if_else_stmt, while_stmt}
use Rattle.language_theory.specs.Grammar.Script.{script}
use Rattle.language_theory.specs.Graphs.{Each, size, Within, SmallOperand, SmallCondition, SmallSide, Small, SmallHeads, SmallTree}
use Rattle.language_theory.specs.Rules.{words}
use Rattle.base.specs.declared.Place.{Place}
use Rattle.lexer.specs.declared.Mark.{Mark}
use Rattle.language_theory.specs.declared.Range.{Range}

abbrev pub SmallWord : Word → Type 0
SmallWord (name n p) = Unit {0}
SmallWord (number n p) = n ≤ 2147483647
SmallWord (mark m p) = Unit {0}

abbrev SmallNext : Next → Type 0
SmallNext (word w) = SmallWord w
SmallNext (fault n p) = Unit {0}
SmallNext (end p) = Unit {0}

name_small : (bs : List ℕ) (p : Place) (o : Option Mark) → SmallNext (name_word bs p o)
name_small bs p (Some m) = tt
name_small bs p None = tt

symbol_small : (o : Option Spelling) (b : ℕ) (p : Place) → SmallNext (symbol_part o b p).next
symbol_small (Some s) b p = tt
symbol_small None b p = tt

part_small : (bs : List ℕ) (p : Place) → SmallNext (part bs p).next
part_small [] p = tt
part_small (b ∷ bs) p =
    let P : Part → Type 0 = λ t. SmallNext t.next in
    cond_both (letter b) _ _ P
    (λ _. cond_both (leb (length (b ∷ run inner bs)) 16) _ _ SmallNext (λ _. name_small (b ∷ run inner bs) p (reserved_in reserved (b ∷ run inner bs))) (λ _. tt))
    (λ _. cond_both (digit b) _ _ P
    (λ _. cond_both (leb (value 0 (b ∷ run digit bs)) 2147483647) _ _ SmallNext (λ e. leb-true (value 0 (b ∷ run digit bs)) 2147483647 e) (λ _. tt))
    (λ _. symbol_small (symbol_in symbols (b ∷ bs)) b p))

abbrev pub S : List Word → Type 0
S ws = Each SmallWord ws

pub reads_small : {bs : List ℕ} {p : Place} {t : Text} → Reads bs p t → S (words t)
reads_small (at_end e) = tt
reads_small (at_fault e) = tt
reads_small (at_word {bs = bs} {p = p} e r) = (subst SmallNext e (part_small (drop (length (gap false bs)) bs) (behind (gap false bs) p)), reads_small r)

neg_size : (n : ℕ) → n ≤ 2147483647 → size (neg_ℤ (pos n)) ≤ 2147483647
neg_size zero h = omega arith
neg_size (suc n) h = h

s_const : {ws r : List Word} {c : ℤ} → Const ws r c → S ws → (size c ≤ 2147483647) × S r
s_const plain s = (s.0, s.1)
s_const (signed {n = n}) s = (neg_size n s.1.0, s.1.1)

s_span : {ws r : List Word} {g : Range} → Span ws r g → S ws → Within 2147483647 g × S r
s_span (span a b) s = let x = s_const a s in let y = s_const b x.1.1 in ((x.0, y.0), y.1)

s_compared : {ws r : List Word} {v : Operand} → Compared ws r v → S ws → SmallOperand v × S r
s_compared named s = (tt, s.1)
s_compared (fixed c) s = s_const c s

s_cond : {ws r : List Word} {c : Condition} → Cond ws r c → S ws → SmallCondition c × S r
s_cond (condition less v) s = s_compared v s.1.1
s_cond (condition less_equal v) s = s_compared v s.1.1
s_cond (condition greater v) s = s_compared v s.1.1
s_cond (condition greater_equal v) s = s_compared v s.1.1

s_right : {ws r : List Word} {e : Side} → Right ws r e → S ws → SmallSide e × S r
s_right (a_const c) s = s_const c s
s_right a_copy s = (omega arith, s.1)
s_right a_sum s = (s.1.1.0, s.1.1.1)
s_right (a_difference {c = c}) s = (neg_size c s.1.1.0, s.1.1.1)
s_right a_negation s = (tt, s.1.1)
s_right (a_hear g) s = s_span g s.1
s_right (a_sense g) s = s_span g s.1
s_right a_lookup s = (tt, s.1.1.1.1)

s_body : {ws r : List Word} {b : Statements} → Body ws r b → S ws → Small b × S r
s_body no_stmt s = (tt, s)
s_body (assignment e b) s = let x = s_right e s.1.1 in let y = s_body b x.1.1 in ((x.0, y.0), y.1)
s_body (if_stmt d b r) s = let x = s_cond d s.1 in let y = s_body b x.1.1 in let z = s_body r y.1.1 in ((x.0, y.0, tt, z.0), z.1)
s_body (if_else_stmt d b b₂ r) s =
    let x = s_cond d s.1 in let y = s_body b x.1.1 in let w = s_body b₂ y.1.1.1.1 in let z = s_body r w.1.1 in ((x.0, y.0, w.0, z.0), z.1)
s_body (while_stmt d b r) s = let x = s_cond d s.1 in let y = s_body b x.1.1 in let z = s_body r y.1.1 in ((x.0, y.0, z.0), z.1)

s_heads : {ws r : List Word} {ds : List Declaration} → Heads ws r ds → S ws → SmallHeads ds × S r
s_heads no_decl s = (tt, s)
s_heads (var_decl g h) s = let x = s_span g s.1.1.1 in let y = s_heads h x.1.1 in ((x.0, y.0), y.1)
s_heads (table_decl g h) s = let x = s_span g s.1.1.1.1.1.1 in let y = s_heads h x.1.1 in ((s.1.1.1.0, x.0, y.0), y.1)

pub script_small : {ws : List Word} {t : Tree} → Script ws t → S ws → SmallTree t
script_small (script h b) s = let x = s_heads h s in let y = s_body b x.1 in (x.0, y.0)
