-- The grammar, production by production, and the tree of a script.
--     script = {decl} {stmt}
--     decl   = var name = range ; | table name [ number ] = range ;
--     range  = const .. const      const = [-] number
--     stmt   = name := rhs ; | if cond block [else block] | while cond block
--     block  = { {stmt} }
--     cond   = name op name | name op const      op = < | <= | > | >=
--     rhs    = const | name | name + number | name - number | - name
--            | hear range | sense range | name [ name ]
use Rattle.std.specs.Prelude.{ℕ, List, [], ◌∷◌, ◌++◌, ℤ, pos, neg_ℤ}
use Rattle.lexer.specs.Words.{Word}
use Rattle.lexer.specs.Words.Word.{name, number, mark}
use Rattle.base.specs.declared.Place.{Place}
use Rattle.language_theory.specs.declared.Range.{Range}
use Rattle.language_theory.specs.declared.Source.{Source}
use Rattle.language_theory.specs.declared.Source.TheVariants.{Sensed, Heard}
use Rattle.lexer.specs.declared.Mark.TheVariants.{Becomes, Dots, LessEqual, GreaterEqual, Less, Greater, Equals, Plus, Minus, OpenBrace, CloseBrace, OpenBracket, CloseBracket, Semicolon, Var, Table, If, Else, While, Hear, Sense}

-- The tree. Names are their bytes.
pub data Declaration : Type 0 where
  variable : List ℕ → Range → Declaration
  table : List ℕ → ℕ → Range → Declaration

pub data Side : Type 0 where
  constant : ℤ → Side
  shifted : List ℕ → ℤ → Side
  negated : List ℕ → Side
  any : Source → Range → Side
  reading : List ℕ → List ℕ → Place → Side  -- the table, the index and where the index stands

pub data Order : Type 0 where
  below at_most above at_least : Order

pub data Operand : Type 0 where
  against : List ℕ → Operand
  limit : ℤ → Operand

pub data Condition : Type 0 where
  compares : List ℕ → Order → Operand → Condition

-- Statements one behind the other, each with the place of its first word.
-- An `if` without `else` has an empty second block.
pub data Statements : Type 0 where
  done : Statements
  assign : Place → List ℕ → Side → Statements → Statements
  choose : Place → Condition → Statements → Statements → Statements → Statements
  repeat : Place → Condition → Statements → Statements → Statements

pub record Tree : Type 0 where
  pub declarations : List Declaration
  pub statements : Statements

-- The grammar. `X ws r t`: the words ws are an X, which is the tree t, and then the words r.
pub data Const : List Word → List Word → ℤ → Type 0 where
  plain : {n : ℕ} {p : Place} {r : List Word} → Const (number n p ∷ r) r (pos n)
  signed : {n : ℕ} {p q : Place} {r : List Word} → Const (mark Minus p ∷ number n q ∷ r) r (neg_ℤ (pos n))

pub data Span : List Word → List Word → Range → Type 0 where
  span : {ws ws₁ r : List Word} {p : Place} {a b : ℤ} → Const ws (mark Dots p ∷ ws₁) a → Const ws₁ r b → Span ws r (record { low = a; high = b })

-- {decl}
pub data Heads : List Word → List Word → List Declaration → Type 0 where
  no_decl : {r : List Word} → Heads r r []
  var_decl : {ws ws₁ r : List Word} {n : List ℕ} {p q e s : Place} {g : Range} {ds : List Declaration} →
      Span ws (mark Semicolon s ∷ ws₁) g → Heads ws₁ r ds →
      Heads (mark Var p ∷ name n q ∷ mark Equals e ∷ ws) r (variable n g ∷ ds)
  table_decl : {ws ws₁ r : List Word} {n : List ℕ} {c : ℕ} {p q o u x e s : Place} {g : Range} {ds : List Declaration} →
      Span ws (mark Semicolon s ∷ ws₁) g → Heads ws₁ r ds →
      Heads (mark Table p ∷ name n q ∷ mark OpenBracket o ∷ number c u ∷ mark CloseBracket x ∷ mark Equals e ∷ ws) r (table n c g ∷ ds)

pub data Compare : List Word → List Word → Order → Type 0 where
  less : {p : Place} {r : List Word} → Compare (mark Less p ∷ r) r below
  less_equal : {p : Place} {r : List Word} → Compare (mark LessEqual p ∷ r) r at_most
  greater : {p : Place} {r : List Word} → Compare (mark Greater p ∷ r) r above
  greater_equal : {p : Place} {r : List Word} → Compare (mark GreaterEqual p ∷ r) r at_least

pub data Compared : List Word → List Word → Operand → Type 0 where
  named : {n : List ℕ} {p : Place} {r : List Word} → Compared (name n p ∷ r) r (against n)
  fixed : {ws r : List Word} {c : ℤ} → Const ws r c → Compared ws r (limit c)

pub data Cond : List Word → List Word → Condition → Type 0 where
  condition : {ws ws₁ r : List Word} {n : List ℕ} {p : Place} {o : Order} {v : Operand} →
      Compare ws ws₁ o → Compared ws₁ r v → Cond (name n p ∷ ws) r (compares n o v)

pub data Right : List Word → List Word → Side → Type 0 where
  a_const : {ws r : List Word} {c : ℤ} → Const ws r c → Right ws r (constant c)
  a_copy : {n : List ℕ} {p : Place} {r : List Word} → Right (name n p ∷ r) r (shifted n (pos 0))
  a_sum : {n : List ℕ} {c : ℕ} {p q s : Place} {r : List Word} → Right (name n p ∷ mark Plus q ∷ number c s ∷ r) r (shifted n (pos c))
  a_difference : {n : List ℕ} {c : ℕ} {p q s : Place} {r : List Word} → Right (name n p ∷ mark Minus q ∷ number c s ∷ r) r (shifted n (neg_ℤ (pos c)))
  a_negation : {n : List ℕ} {p q : Place} {r : List Word} → Right (mark Minus p ∷ name n q ∷ r) r (negated n)
  a_hear : {ws r : List Word} {p : Place} {g : Range} → Span ws r g → Right (mark Hear p ∷ ws) r (any Heard g)
  a_sense : {ws r : List Word} {p : Place} {g : Range} → Span ws r g → Right (mark Sense p ∷ ws) r (any Sensed g)
  a_lookup : {t i : List ℕ} {p q s u : Place} {r : List Word} →
      Right (name t p ∷ mark OpenBracket q ∷ name i s ∷ mark CloseBracket u ∷ r) r (reading t i s)

-- {stmt}; a block is its statements between { and }
pub data Body : List Word → List Word → Statements → Type 0 where
  no_stmt : {r : List Word} → Body r r done
  assignment : {ws ws₁ r : List Word} {n : List ℕ} {p q s : Place} {e : Side} {rest : Statements} →
      Right ws (mark Semicolon s ∷ ws₁) e → Body ws₁ r rest →
      Body (name n p ∷ mark Becomes q ∷ ws) r (assign p n e rest)
  if_stmt : {ws ws₁ ws₂ r : List Word} {p o x : Place} {c : Condition} {b rest : Statements} →
      Cond ws (mark OpenBrace o ∷ ws₁) c → Body ws₁ (mark CloseBrace x ∷ ws₂) b → Body ws₂ r rest →
      Body (mark If p ∷ ws) r (choose p c b done rest)
  if_else_stmt : {ws ws₁ ws₂ ws₃ r : List Word} {p o x l o₂ x₂ : Place} {c : Condition} {b b₂ rest : Statements} →
      Cond ws (mark OpenBrace o ∷ ws₁) c → Body ws₁ (mark CloseBrace x ∷ mark Else l ∷ mark OpenBrace o₂ ∷ ws₂) b →
      Body ws₂ (mark CloseBrace x₂ ∷ ws₃) b₂ → Body ws₃ r rest →
      Body (mark If p ∷ ws) r (choose p c b b₂ rest)
  while_stmt : {ws ws₁ ws₂ r : List Word} {p o x : Place} {c : Condition} {b rest : Statements} →
      Cond ws (mark OpenBrace o ∷ ws₁) c → Body ws₁ (mark CloseBrace x ∷ ws₂) b → Body ws₂ r rest →
      Body (mark While p ∷ ws) r (repeat p c b rest)

-- These words are a script, and this is its tree.
pub data Script : List Word → Tree → Type 0 where
  script : {ws ws₁ : List Word} {ds : List Declaration} {b : Statements} →
      Heads ws ws₁ ds → Body ws₁ [] b → Script ws (record { declarations = ds; statements = b })

-- Some script continues with these words: with some words behind them they are one.
pub record Begins (ws : List Word) : Type 0 where
  pub more : List Word
  pub tree : Tree
  pub is : Script (ws ++ more) tree
