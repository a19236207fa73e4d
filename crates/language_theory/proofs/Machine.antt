-- What is expected agrees with the grammar.
use Rattle.std.proofs.Common.{◌≡◌, ℕ, Bool, true, false, cond, List, [], ◌∷◌, ◌++◌, Some, None, Option, sym, refl, ap, ◌∙◌, subst, append-nil}
use Rattle.std.proofs.lemmas.Bool.{and_parts, false≢true}
use Rattle.lexer.specs.Words.{Word}
use Rattle.lexer.specs.Words.Word.{name, number, mark}
use Rattle.lexer.proofs.Told.{mark_same, no_some}
use Rattle.language_theory.specs.Grammar.{Declaration, Side, Order, Operand, Condition, Statements, Tree, Const, Span, Heads, Compare, Compared, Cond, Right, Body, Script, Begins}
use Rattle.language_theory.specs.Grammar.Const.{plain, signed}
use Rattle.language_theory.specs.Grammar.Span.{span as a_span}
use Rattle.language_theory.specs.Grammar.Heads.{no_decl, var_decl, table_decl}
use Rattle.language_theory.specs.Grammar.Compare.{less, less_equal, greater, greater_equal}
use Rattle.language_theory.specs.Grammar.Compared.{named, fixed}
use Rattle.language_theory.specs.Grammar.Cond.{condition as a_condition}
use Rattle.language_theory.specs.Grammar.Right.{a_const, a_copy, a_sum, a_difference, a_negation, a_hear, a_sense, a_lookup}
use Rattle.language_theory.specs.Grammar.Body.{no_stmt, assignment, if_stmt, if_else_stmt, while_stmt}
use Rattle.language_theory.specs.Grammar.Script.{script}
use Rattle.language_theory.specs.Expected.{Terminal, Expect, Alternative, fits, one, alternatives, optional, after, pick, step, steps, complete, accepted, at_first}
use Rattle.language_theory.specs.Expected.Terminal.{the, any_name, any_number}
use Rattle.language_theory.specs.Expected.Expect.{just, heads, body, span, const, condition, operator, operand, block, else_part, right, behind_minus, behind_name}
use Rattle.base.specs.declared.Place.{Place}
use Rattle.language_theory.specs.declared.Range.{Range}
use Rattle.lexer.specs.declared.Mark.{Mark}
use Rattle.lexer.specs.declared.Mark.TheVariants.{Becomes, Dots, LessEqual, GreaterEqual, Less, Greater, Equals, Plus, Minus, OpenBrace, CloseBrace, OpenBracket, CloseBracket, Semicolon, Var, Table, If, Else, While, Hear, Sense}

-- the words ws are what is expected, and then r
pub data Item : Expect → List Word → List Word → Type 0 where
  i_mark : {m : Mark} {p : Place} {r : List Word} → Item (just (the m)) (mark m p ∷ r) r
  i_name : {n : List ℕ} {p : Place} {r : List Word} → Item (just any_name) (name n p ∷ r) r
  i_number : {n : ℕ} {p : Place} {r : List Word} → Item (just any_number) (number n p ∷ r) r
  i_heads : {ws r : List Word} {ds : List Declaration} → Heads ws r ds → Item heads ws r
  i_body : {ws r : List Word} {b : Statements} → Body ws r b → Item body ws r
  i_span : {ws r : List Word} {g : Range} → Span ws r g → Item span ws r
  i_const : {ws r : List Word} {c : lib.IntN.ℤ} → Const ws r c → Item const ws r
  i_condition : {ws r : List Word} {c : Condition} → Cond ws r c → Item condition ws r
  i_operator : {ws r : List Word} {o : Order} → Compare ws r o → Item operator ws r
  i_operand : {ws r : List Word} {v : Operand} → Compared ws r v → Item operand ws r
  i_block : {ws r : List Word} {o x : Place} {b : Statements} → Body ws (mark CloseBrace x ∷ r) b → Item block (mark OpenBrace o ∷ ws) r
  i_no_else : {r : List Word} → Item else_part r r
  i_else : {ws r : List Word} {l o x : Place} {b : Statements} → Body ws (mark CloseBrace x ∷ r) b → Item else_part (mark Else l ∷ mark OpenBrace o ∷ ws) r
  i_right : {ws r : List Word} {e : Side} → Right ws r e → Item right ws r
  i_behind_minus : {ws r : List Word} → ((p : Place) → (e : Side) × Right (mark Minus p ∷ ws) r e) → Item behind_minus ws r
  i_behind_name : {ws r : List Word} → ((n : List ℕ) (p : Place) → (e : Side) × Right (name n p ∷ ws) r e) → Item behind_name ws r

pub data All : List Expect → List Word → Type 0 where
  nothing : All [] []
  item : {e : Expect} {k : List Expect} {ws r : List Word} → Item e ws r → All k r → All (e ∷ k) ws

-- every alternative is sound
abbrev Sound : Expect → Alternative → Type 0
Sound e a = (k : List Expect) (ws : List Word) → All (just a.first ∷ (a.more ++ k)) ws → All (e ∷ k) ws

abbrev Each : (Alternative → Type 0) → List Alternative → Type 0
Each P [] = Unit {0}
Each P (a ∷ as') = P a × Each P as'

s_just : (f : Terminal) (k : List Expect) (ws : List Word) → All (just f ∷ k) ws → All (just f ∷ k) ws
s_just f k ws a = a

s_var : (k : List Expect) (ws : List Word) → All (one Var ∷ just any_name ∷ one Equals ∷ span ∷ one Semicolon ∷ heads ∷ k) ws → All (heads ∷ k) ws
s_var k ws (item i_mark (item i_name (item i_mark (item (i_span s) (item i_mark (item (i_heads h) a)))))) = item (i_heads (var_decl s h)) a

s_table : (k : List Expect) (ws : List Word) → All (one Table ∷ just any_name ∷ one OpenBracket ∷ just any_number ∷ one CloseBracket ∷ one Equals ∷ span ∷ one Semicolon ∷ heads ∷ k) ws → All (heads ∷ k) ws
s_table k ws (item i_mark (item i_name (item i_mark (item i_number (item i_mark (item i_mark (item (i_span s) (item i_mark (item (i_heads h) a))))))))) = item (i_heads (table_decl s h)) a

s_assign : (k : List Expect) (ws : List Word) → All (just any_name ∷ one Becomes ∷ right ∷ one Semicolon ∷ body ∷ k) ws → All (body ∷ k) ws
s_assign k ws (item i_name (item i_mark (item (i_right e) (item i_mark (item (i_body b) a))))) = item (i_body (assignment e b)) a

s_if : (k : List Expect) (ws : List Word) → All (one If ∷ condition ∷ block ∷ else_part ∷ body ∷ k) ws → All (body ∷ k) ws
s_if k ws (item i_mark (item (i_condition c) (item (i_block b) (item i_no_else (item (i_body r) a))))) = item (i_body (if_stmt c b r)) a
s_if k ws (item i_mark (item (i_condition c) (item (i_block b) (item (i_else b₂) (item (i_body r) a))))) = item (i_body (if_else_stmt c b b₂ r)) a

s_while : (k : List Expect) (ws : List Word) → All (one While ∷ condition ∷ block ∷ body ∷ k) ws → All (body ∷ k) ws
s_while k ws (item i_mark (item (i_condition c) (item (i_block b) (item (i_body r) a)))) = item (i_body (while_stmt c b r)) a

s_span : (k : List Expect) (ws : List Word) → All (just any_number ∷ one Dots ∷ const ∷ k) ws → All (span ∷ k) ws
s_span k ws (item i_number (item i_mark (item (i_const c) a))) = item (i_span (a_span plain c)) a

s_span_minus : (k : List Expect) (ws : List Word) → All (one Minus ∷ just any_number ∷ one Dots ∷ const ∷ k) ws → All (span ∷ k) ws
s_span_minus k ws (item i_mark (item i_number (item i_mark (item (i_const c) a)))) = item (i_span (a_span signed c)) a

s_const : (k : List Expect) (ws : List Word) → All (just any_number ∷ k) ws → All (const ∷ k) ws
s_const k ws (item i_number a) = item (i_const plain) a

s_const_minus : (k : List Expect) (ws : List Word) → All (one Minus ∷ just any_number ∷ k) ws → All (const ∷ k) ws
s_const_minus k ws (item i_mark (item i_number a)) = item (i_const signed) a

s_condition : (k : List Expect) (ws : List Word) → All (just any_name ∷ operator ∷ operand ∷ k) ws → All (condition ∷ k) ws
s_condition k ws (item i_name (item (i_operator o) (item (i_operand v) a))) = item (i_condition (a_condition o v)) a

s_less : (k : List Expect) (ws : List Word) → All (one Less ∷ k) ws → All (operator ∷ k) ws
s_less k ws (item i_mark a) = item (i_operator less) a

s_less_equal : (k : List Expect) (ws : List Word) → All (one LessEqual ∷ k) ws → All (operator ∷ k) ws
s_less_equal k ws (item i_mark a) = item (i_operator less_equal) a

s_greater : (k : List Expect) (ws : List Word) → All (one Greater ∷ k) ws → All (operator ∷ k) ws
s_greater k ws (item i_mark a) = item (i_operator greater) a

s_greater_equal : (k : List Expect) (ws : List Word) → All (one GreaterEqual ∷ k) ws → All (operator ∷ k) ws
s_greater_equal k ws (item i_mark a) = item (i_operator greater_equal) a

s_operand_name : (k : List Expect) (ws : List Word) → All (just any_name ∷ k) ws → All (operand ∷ k) ws
s_operand_name k ws (item i_name a) = item (i_operand named) a

s_operand : (k : List Expect) (ws : List Word) → All (just any_number ∷ k) ws → All (operand ∷ k) ws
s_operand k ws (item i_number a) = item (i_operand (fixed plain)) a

s_operand_minus : (k : List Expect) (ws : List Word) → All (one Minus ∷ just any_number ∷ k) ws → All (operand ∷ k) ws
s_operand_minus k ws (item i_mark (item i_number a)) = item (i_operand (fixed signed)) a

s_block : (k : List Expect) (ws : List Word) → All (one OpenBrace ∷ body ∷ one CloseBrace ∷ k) ws → All (block ∷ k) ws
s_block k ws (item i_mark (item (i_body b) (item i_mark a))) = item (i_block b) a

s_else : (k : List Expect) (ws : List Word) → All (one Else ∷ block ∷ k) ws → All (else_part ∷ k) ws
s_else k ws (item i_mark (item (i_block b) a)) = item (i_else b) a

s_right : (k : List Expect) (ws : List Word) → All (just any_number ∷ k) ws → All (right ∷ k) ws
s_right k ws (item i_number a) = item (i_right (a_const plain)) a

s_right_minus : (k : List Expect) (ws : List Word) → All (one Minus ∷ behind_minus ∷ k) ws → All (right ∷ k) ws
s_right_minus k ws (item (i_mark {p = p}) (item (i_behind_minus f) a)) = item (i_right (f p).1) a

s_right_name : (k : List Expect) (ws : List Word) → All (just any_name ∷ behind_name ∷ k) ws → All (right ∷ k) ws
s_right_name k ws (item (i_name {n = n} {p = p}) (item (i_behind_name f) a)) = item (i_right (f n p).1) a

s_hear : (k : List Expect) (ws : List Word) → All (one Hear ∷ span ∷ k) ws → All (right ∷ k) ws
s_hear k ws (item i_mark (item (i_span s) a)) = item (i_right (a_hear s)) a

s_sense : (k : List Expect) (ws : List Word) → All (one Sense ∷ span ∷ k) ws → All (right ∷ k) ws
s_sense k ws (item i_mark (item (i_span s) a)) = item (i_right (a_sense s)) a

s_minus_number : (k : List Expect) (ws : List Word) → All (just any_number ∷ k) ws → All (behind_minus ∷ k) ws
s_minus_number k ws (item i_number a) = item (i_behind_minus (λ p. (_, a_const signed))) a

s_minus_name : (k : List Expect) (ws : List Word) → All (just any_name ∷ k) ws → All (behind_minus ∷ k) ws
s_minus_name k ws (item i_name a) = item (i_behind_minus (λ p. (_, a_negation))) a

s_plus : (k : List Expect) (ws : List Word) → All (one Plus ∷ just any_number ∷ k) ws → All (behind_name ∷ k) ws
s_plus k ws (item i_mark (item i_number a)) = item (i_behind_name (λ n p. (_, a_sum))) a

s_minus : (k : List Expect) (ws : List Word) → All (one Minus ∷ just any_number ∷ k) ws → All (behind_name ∷ k) ws
s_minus k ws (item i_mark (item i_number a)) = item (i_behind_name (λ n p. (_, a_difference))) a

s_lookup : (k : List Expect) (ws : List Word) → All (one OpenBracket ∷ just any_name ∷ one CloseBracket ∷ k) ws → All (behind_name ∷ k) ws
s_lookup k ws (item i_mark (item i_name (item i_mark a))) = item (i_behind_name (λ n p. (_, a_lookup))) a

all_sound : (e : Expect) → Each (Sound e) (alternatives e)
all_sound (just f) = (s_just f, tt)
all_sound heads = (s_var, (s_table, tt))
all_sound body = (s_assign, (s_if, (s_while, tt)))
all_sound span = (s_span, (s_span_minus, tt))
all_sound const = (s_const, (s_const_minus, tt))
all_sound condition = (s_condition, tt)
all_sound operator = (s_less, (s_less_equal, (s_greater, (s_greater_equal, tt))))
all_sound operand = (s_operand_name, (s_operand, (s_operand_minus, tt)))
all_sound block = (s_block, tt)
all_sound else_part = (s_else, tt)
all_sound right = (s_right, (s_right_minus, (s_right_name, (s_hear, (s_sense, tt)))))
all_sound behind_minus = (s_minus_number, (s_minus_name, tt))
all_sound behind_name = (s_plus, (s_minus, (s_lookup, tt)))

-- a word that fits is an item
fit_item : (f : Terminal) (w : Word) (r : List Word) → fits f w ≡ true → Item (just f) (w ∷ r) r
fit_item (the m) (name bs p) r e = absurd (false≢true e)
fit_item (the m) (number n p) r e = absurd (false≢true e)
fit_item (the m) (mark m₂ p) r e = subst (λ (x : Mark). Item (just (the m)) (mark x p ∷ r) r) (mark_same m m₂ e) i_mark
fit_item any_name (name bs p) r e = i_name
fit_item any_name (number n p) r e = absurd (false≢true e)
fit_item any_name (mark m p) r e = absurd (false≢true e)
fit_item any_number (name bs p) r e = absurd (false≢true e)
fit_item any_number (number n p) r e = i_number
fit_item any_number (mark m p) r e = absurd (false≢true e)

some_inj : {A : Type 0} {x y : A} → Some x ≡ Some y → x ≡ y
some_inj e = cc

produce : (e : Expect) (as' : List Alternative) → Each (Sound e) as' → (w : Word) (more k : List Expect) (ws : List Word) →
    after as' w ≡ Some more → All (more ++ k) ws → All (e ∷ k) (w ∷ ws)
produce e [] s w more k ws q a = no_some q
produce e (x ∷ as') s w more k ws q a = go (fits x.first w) refl q (produce e as' s.1 w more k ws)
  where
    go : (b : Bool) → fits x.first w ≡ b → cond b (Some x.more) (after as' w) ≡ Some more →
        (after as' w ≡ Some more → All (more ++ k) ws → All (e ∷ k) (w ∷ ws)) → All (e ∷ k) (w ∷ ws)
    go true f q₂ ih = s.0 k (w ∷ ws) (item (fit_item x.first w ws f) (subst (λ (z : List Expect). All (z ++ k) ws) (sym (some_inj q₂)) a))
    go false f q₂ ih = ih q₂ a

optional_item : (e : Expect) → optional e ≡ true → (ws : List Word) → Item e ws ws
optional_item (just f) o ws = absurd (false≢true o)
optional_item heads o ws = i_heads no_decl
optional_item body o ws = i_body no_stmt
optional_item span o ws = absurd (false≢true o)
optional_item const o ws = absurd (false≢true o)
optional_item condition o ws = absurd (false≢true o)
optional_item operator o ws = absurd (false≢true o)
optional_item operand o ws = absurd (false≢true o)
optional_item block o ws = absurd (false≢true o)
optional_item else_part o ws = i_no_else
optional_item right o ws = absurd (false≢true o)
optional_item behind_minus o ws = absurd (false≢true o)
optional_item behind_name o ws = i_behind_name (λ n p. (_, a_copy))

step_back : (k : List Expect) (w : Word) (k₂ : List Expect) (ws : List Word) → step k w ≡ Some k₂ → All k₂ ws → All k (w ∷ ws)
step_back [] w k₂ ws q a = no_some q
step_back (e ∷ k) w k₂ ws q a = go (after (alternatives e) w) refl (optional e) refl q (step_back k w k₂ ws)
  where
    go : (o : Option (List Expect)) → after (alternatives e) w ≡ o → (b : Bool) → optional e ≡ b → pick o b k (step k w) ≡ Some k₂ →
        (step k w ≡ Some k₂ → All k₂ ws → All k (w ∷ ws)) → All (e ∷ k) (w ∷ ws)
    go (Some more) p b o q₂ ih = produce e (alternatives e) (all_sound e) w more k ws p (subst (λ (z : List Expect). All z ws) (sym (some_inj q₂)) a)
    go None p true o q₂ ih = item (optional_item e o (w ∷ ws)) (ih q₂ a)
    go None p false o q₂ ih = no_some q₂

steps_back : (k : List Expect) (ws : List Word) (k₂ : List Expect) (more : List Word) → steps (Some k) ws ≡ Some k₂ → All k₂ more → All k (ws ++ more)
steps_back k [] k₂ more q a = subst (λ (z : List Expect). All z more) (sym (some_inj q)) a
steps_back k (w ∷ ws) k₂ more q a = go (step k w) refl q (λ k₁ q₂. steps_back k₁ ws k₂ more q₂ a)
  where
    go : (o : Option (List Expect)) → step k w ≡ o → steps o ws ≡ Some k₂ → ((k₁ : List Expect) → steps (Some k₁) ws ≡ Some k₂ → All k₁ (ws ++ more)) → All k (w ∷ (ws ++ more))
    go None p q₂ ih = no_some q₂
    go (Some k₁) p q₂ ih = step_back k w k₁ (ws ++ more) p (ih k₁ q₂)

-- everything expected can be had
here : Place
here = record { line = 1; column = 1 }

some_item : (e : Expect) (r : List Word) → (ws : List Word) × Item e ws r
some_item (just (the m)) r = (mark m here ∷ r, i_mark)
some_item (just any_name) r = (name (97 ∷ []) here ∷ r, i_name)
some_item (just any_number) r = (number 0 here ∷ r, i_number)
some_item heads r = (r, i_heads no_decl)
some_item body r = (r, i_body no_stmt)
some_item span r = (number 0 here ∷ mark Dots here ∷ number 0 here ∷ r, i_span (a_span plain plain))
some_item const r = (number 0 here ∷ r, i_const plain)
some_item condition r = (name (97 ∷ []) here ∷ mark Less here ∷ number 0 here ∷ r, i_condition (a_condition less (fixed plain)))
some_item operator r = (mark Less here ∷ r, i_operator less)
some_item operand r = (number 0 here ∷ r, i_operand (fixed plain))
some_item block r = (mark OpenBrace here ∷ mark CloseBrace here ∷ r, i_block no_stmt)
some_item else_part r = (r, i_no_else)
some_item right r = (number 0 here ∷ r, i_right (a_const plain))
some_item behind_minus r = (number 0 here ∷ r, i_behind_minus (λ p. (_, a_const signed)))
some_item behind_name r = (r, i_behind_name (λ n p. (_, a_copy)))

some_all : (k : List Expect) → (ws : List Word) × All k ws
some_all [] = ([], nothing)
some_all (e ∷ k) = let rest = some_all k in let i = some_item e rest.0 in (i.0, item i.1 rest.1)

-- words for at_first are a script
from_all : (ws : List Word) → All at_first ws → (t : Tree) × Script ws t
from_all ws (item (i_heads h) (item (i_body b) nothing)) = (_, script h b)

complete_all : (k : List Expect) → complete k ≡ true → All k []
complete_all [] c = nothing
complete_all (e ∷ k) c = let h = and_parts (optional e) (complete k) c in item (optional_item e h.0 []) (complete_all k h.1)

-- words that leave k to come begin a script
pub steps_begins : (ws : List Word) (k : List Expect) → steps (Some at_first) ws ≡ Some k → Begins ws
steps_begins ws k q =
    let rest = some_all k in
    let s = from_all (ws ++ rest.0) (steps_back at_first ws k rest.0 q rest.1) in
    record { more = rest.0; tree = s.0; is = s.1 }

-- words with nothing wanted any more are a script
pub complete_script : (ws : List Word) (k : List Expect) → steps (Some at_first) ws ≡ Some k → complete k ≡ true → (t : Tree) × Script ws t
complete_script ws k q c = from_all ws (subst (λ (z : List Word). All at_first z) (append-nil ws) (steps_back at_first ws k [] q (complete_all k c)))

-- The other way round: the words of a script are accepted.
abbrev A : List Expect → List Word → Bool
A k ws = accepted (steps (Some k) ws)

-- what stands behind statements: the end or }
pub data Closes : List Word → Type 0 where
  ended : Closes []
  closed : {p : Place} {r : List Word} → Closes (mark CloseBrace p ∷ r)

f_const : {ws r : List Word} {c : lib.IntN.ℤ} → Const ws r c → (k : List Expect) → A (const ∷ k) ws ≡ A k r
f_const plain k = refl
f_const signed k = refl

f_span : {ws r : List Word} {g : Range} → Span ws r g → (k : List Expect) → A (span ∷ k) ws ≡ A k r
f_span (a_span plain b) k = f_const b k
f_span (a_span signed b) k = f_const b k

f_compared : {ws r : List Word} {v : Operand} → Compared ws r v → (k : List Expect) → A (operand ∷ k) ws ≡ A k r
f_compared named k = refl
f_compared (fixed plain) k = refl
f_compared (fixed signed) k = refl

f_cond : {ws r : List Word} {c : Condition} → Cond ws r c → (k : List Expect) → A (condition ∷ k) ws ≡ A k r
f_cond (a_condition less v) k = f_compared v k
f_cond (a_condition less_equal v) k = f_compared v k
f_cond (a_condition greater v) k = f_compared v k
f_cond (a_condition greater_equal v) k = f_compared v k

f_right : {ws r : List Word} {s : Place} {e : Side} → Right ws (mark Semicolon s ∷ r) e → (k : List Expect) → A (right ∷ k) ws ≡ A k (mark Semicolon s ∷ r)
f_right (a_const plain) k = refl
f_right (a_const signed) k = refl
f_right a_copy k = refl
f_right a_sum k = refl
f_right a_difference k = refl
f_right a_negation k = refl
f_right (a_hear g) k = f_span g k
f_right (a_sense g) k = f_span g k
f_right a_lookup k = refl

skip_else : {ws r : List Word} {b : Statements} → Body ws r b → Closes r → (k : List Expect) → A (else_part ∷ k) ws ≡ A k ws
skip_else no_stmt ended k = refl
skip_else no_stmt closed k = refl
skip_else (assignment e b) c k = refl
skip_else (if_stmt d b r) c k = refl
skip_else (if_else_stmt d b b₂ r) c k = refl
skip_else (while_stmt d b r) c k = refl

f_body : {ws r : List Word} {b : Statements} → Body ws r b → Closes r → (k : List Expect) → A (body ∷ k) ws ≡ A k r
f_body no_stmt ended k = refl
f_body no_stmt closed k = refl
f_body (assignment e b) c k = f_right e (one Semicolon ∷ body ∷ k) ∙ f_body b c k
f_body (if_stmt d b r) c k =
    f_cond d (block ∷ else_part ∷ body ∷ k) ∙ f_body b closed (one CloseBrace ∷ else_part ∷ body ∷ k) ∙ skip_else r c (body ∷ k) ∙ f_body r c k
f_body (if_else_stmt d b b₂ r) c k =
    f_cond d (block ∷ else_part ∷ body ∷ k) ∙ f_body b closed (one CloseBrace ∷ else_part ∷ body ∷ k) ∙
    f_body b₂ closed (one CloseBrace ∷ body ∷ k) ∙ f_body r c k
f_body (while_stmt d b r) c k =
    f_cond d (block ∷ body ∷ k) ∙ f_body b closed (one CloseBrace ∷ body ∷ k) ∙ f_body r c k

skip_heads : {r : List Word} {b : Statements} → Body r [] b → (k : List Expect) → A (heads ∷ k) r ≡ A k r
skip_heads no_stmt k = refl
skip_heads (assignment e b) k = refl
skip_heads (if_stmt d b r) k = refl
skip_heads (if_else_stmt d b b₂ r) k = refl
skip_heads (while_stmt d b r) k = refl

f_heads : {ws r : List Word} {ds : List Declaration} {b : Statements} → Heads ws r ds → Body r [] b → (k : List Expect) → A (heads ∷ k) ws ≡ A k r
f_heads no_decl b k = skip_heads b k
f_heads (var_decl s h) b k = f_span s (one Semicolon ∷ heads ∷ k) ∙ f_heads h b k
f_heads (table_decl s h) b k = f_span s (one Semicolon ∷ heads ∷ k) ∙ f_heads h b k

pub script_accepted : {ws : List Word} {t : Tree} → Script ws t → accepted (steps (Some at_first) ws) ≡ true
script_accepted (script h b) = f_heads h b (body ∷ []) ∙ f_body b ended []

pub steps_append : (o : Option (List Expect)) (ws more : List Word) → steps o (ws ++ more) ≡ steps (steps o ws) more
steps_append None ws more = refl
steps_append (Some k) [] more = refl
steps_append (Some k) (w ∷ ws) more = steps_append (step k w) ws more

-- words that begin a script leave something to come
pub begins_steps : (ws : List Word) → Begins ws → (k : List Expect) × (steps (Some at_first) ws ≡ Some k)
begins_steps ws h = go (steps (Some at_first) ws) refl
  where
    go : (o : Option (List Expect)) → steps (Some at_first) ws ≡ o → (k : List Expect) × (o ≡ Some k)
    go (Some k) q = (k, refl)
    go None q = absurd (false≢true (ap (λ (o : Option (List Expect)). accepted (steps o h.more)) (sym q) ∙ ap accepted (sym (steps_append (Some at_first) ws h.more)) ∙ script_accepted h.is))

-- a script has nothing wanted any more
pub script_complete : (ws : List Word) (t : Tree) → Script ws t → (k : List Expect) → steps (Some at_first) ws ≡ Some k → complete k ≡ true
script_complete ws t s k q = ap accepted (sym q) ∙ script_accepted s
