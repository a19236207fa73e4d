-- What a reader that goes over a text once says of each part: which words it passed, what they are by the grammar,
-- and that the refusal of the whole text is that of what is left; or that the text is refused right there.
use Rattle.std.specs.Prelude.{◌≡◌, ℕ, ◌+◌, ◌≤◌, Bool, true, false, ◌||◌, List, [], ◌∷◌, ◌++◌, length, ℤ, pos, neg_ℤ, Some, Option, nat_le}
use Rattle.std.specs.Option.{option_map}
use Rattle.base.specs.Reasons.{number_of, no_memory}
use Rattle.base.specs.declared.Place.{Place}
use Rattle.base.specs.declared.Refusal.{Refusal}
use Rattle.lexer.specs.Words.{Word, Text}
use Rattle.lexer.specs.Words.Word.{name, number, mark}
use Rattle.lexer.specs.Words.Text.{ends, fails, reads}
use Rattle.lexer.specs.Marks.{is}
use Rattle.lexer.specs.declared.Mark.{Mark}
use Rattle.lexer.specs.declared.Mark.TheVariants.{Becomes, Dots, Less, LessEqual, Greater, GreaterEqual, Equals, Plus, Minus, OpenBrace, CloseBrace, OpenBracket, CloseBracket, Semicolon, Var, Table, If, While, Hear, Sense}
use Rattle.language_theory.specs.Grammar.{Declaration, Side, Order, Operand, Condition, Statements, Span, Right, Compare, Compared, Heads, Cond, Body}
use Rattle.language_theory.specs.Grammar.Side.{reading}
use Rattle.language_theory.specs.Grammar.Order.{below, at_most, above, at_least}
use Rattle.language_theory.specs.declared.Source.{Source}
use Rattle.language_theory.specs.declared.Source.TheVariants.{Sensed, Heard}
use Rattle.language_theory.specs.declared.Range.{Range}
use Rattle.language_theory.specs.Grammar.Statements.{choose}
use Rattle.language_theory.specs.Graphs.{Variable, Table as ATable, Drawing, variables, tables, var_names, table_names, draw, fresh, back, stand}
use Rattle.language_theory.specs.Names.{follows, names_behind, level}
use Rattle.language_theory.specs.Expected as expected
use Rattle.language_theory.specs.Expected.{Expect, one, refusal}
use Rattle.language_theory.specs.Expected.Expect.{just, heads, body, span, condition, block, else_part, right}
use Rattle.language_theory.specs.Expected.Terminal.{any_name, any_number}
use Rattle.language_theory.specs.declared.Action.TheVariants.{Skip}

-- words in turn, and then a text
abbrev pub before : List Word → Text → Text
before [] t = t
before (w ∷ ws) t = reads w (before ws t)

-- more words behind the past; the latest stands first
abbrev pub passed : List Word → List Word → List Word
passed [] past = past
passed (w ∷ ws) past = passed ws (w ∷ past)

-- the first word is this mark, or a name
abbrev pub first_is : Mark → Text → Bool
first_is m (ends p) = false
first_is m (fails n p) = false
first_is m (reads w t) = is m w

abbrev pub is_name : Word → Bool
is_name (name n p) = true
is_name (number n p) = false
is_name (mark m p) = false

abbrev pub first_names : Text → Bool
first_names (ends p) = false
first_names (fails n p) = false
first_names (reads w t) = is_name w

-- a refusal with a place, by its number
abbrev pub said : Refusal → Option expected.Refusal
said r = option_map (λ (p : Place). record { number = number_of r.reason; place = p }) r.place

-- Where these are expected, and then anything, behind a past that is so (C): the text is refused so.
abbrev pub Refuses : List Expect → (List Word → Type 0) → Text → Refusal → Type 0
Refuses es C t r = (k : List Expect) (past : List Word) → C past → refusal (es ++ k) past t ≡ said r

-- A call turns back by a rule that fails at a place, or for want of memory.
pub data TurnsBack (es : List Expect) (C : List Word → Type 0) (t : Text) (r : Refusal) : Type 0 where
  by_rule : (p : Place) → r.place ≡ Some p → Refuses es C t r → TurnsBack es C t r
  by_want : r ≡ no_memory → TurnsBack es C t r

-- Nothing is expected any more, and yet the text goes on: it is refused so.
pub record Unended (t : Text) (r : Refusal) : Type 0 where
  pub at : Place
  pub placed : r.place ≡ Some at
  pub refuses : (past : List Word) → refusal [] past t ≡ said r

abbrev pub Anywhere : List Word → Type 0
Anywhere past = Unit {0}

abbrev pub AtStart : List Word → Type 0
AtStart past = past ≡ []

-- the same names are declared and as many blocks are open
pub record Alike (past past₂ : List Word) : Type 0 where
  pub vars : names_behind Var past ≡ names_behind Var past₂
  pub tabs : names_behind Table past ≡ names_behind Table past₂
  pub lev : level past ≡ level past₂

-- The words from the text t up to t₂ are what is expected. They are so by the grammar (D), declare no name and open no
-- block; and behind a past that is so (C), what is refused of t is what is refused of t₂.
pub record Over (es : List Expect) (C D : List Word → Type 0) (t t₂ : Text) : Type 0 where
  pub words : List Word
  pub joined : t ≡ before words t₂
  pub derived : D words
  pub alike : (past : List Word) → C past → Alike (passed words past) past
  pub goes : (k : List Expect) (past : List Word) → C past → refusal (es ++ k) past t ≡ refusal k (passed words past) t₂

-- what words are by the grammar, whatever comes behind them
abbrev pub is_span : Range → List Word → Type 0
is_span g ws = (r : List Word) → Span (ws ++ r) r g

abbrev pub is_right : Side → List Word → Type 0
is_right a ws = (r : List Word) → Right (ws ++ r) r a

-- a right side behind its sign
abbrev pub is_negative : Side → List Word → Type 0
is_negative a ws = (q : Place) (r : List Word) → Right (mark Minus q ∷ (ws ++ r)) r a

-- a table read behind its opening bracket: the index, which stands at a place, and the closing bracket
abbrev pub is_index : List ℕ → Place → List Word → Type 0
is_index i s ws = (t : List ℕ) (p q : Place) (r : List Word) → Right (name t p ∷ mark OpenBracket q ∷ (ws ++ r)) r (reading t i s)

abbrev pub is_operand : Operand → List Word → Type 0
is_operand v ws = (r : List Word) → Compared (ws ++ r) r v

abbrev pub is_condition : Condition → List Word → Type 0
is_condition c ws = (r : List Word) → Cond (ws ++ r) r c

-- [-] number, with the place of the digits
pub data Spells : List Word → ℤ → Place → Type 0 where
  plain : {n : ℕ} {p : Place} → Spells (number n p ∷ []) (pos n) p
  signed : {n : ℕ} {p q : Place} → Spells (mark Minus q ∷ number n p ∷ []) (neg_ℤ (pos n)) p

pub record Constant (z : ℤ) (p : Place) (t t₂ : Text) : Type 0 where
  pub words : List Word
  pub joined : t ≡ before words t₂
  pub spells : Spells words z p

-- no rule on numbers looks at this past
pub record Quiet (past : List Word) : Type 0 where
  pub minus : follows Minus past ≡ false
  pub dots : follows Dots past ≡ false
  pub bracket : follows OpenBracket past ≡ false

-- the word just before is this mark
pub data Behind (m : Mark) : List Word → Type 0 where
  behind : {p : Place} {past : List Word} → Behind m (mark m p ∷ past)

-- the words just before are := and -
pub data Negates : List Word → Type 0 where
  negates : {p q : Place} {past : List Word} → Negates (mark Minus q ∷ mark Becomes p ∷ past)

-- the marks of the four comparisons
pub data Orders : Mark → Order → Type 0 where
  less_than : Orders Less below
  at_most_than : Orders LessEqual at_most
  greater_than : Orders Greater above
  at_least_than : Orders GreaterEqual at_least

-- the words just before are this name and a comparison
pub data Compares (n : List ℕ) : List Word → Type 0 where
  comparing : {m : Mark} {o : Order} {p q : Place} {past : List Word} → Orders m o → Compares n (mark m p ∷ name n q ∷ past)

-- the marks that announce a range of values, and where these come from
pub data Announces : Mark → Source → Type 0 where
  heard : Announces Hear Heard
  sensed : Announces Sense Sensed

-- the marks behind a name on a right side that shift it by a number
pub data Shifts : Mark → ℕ → ℤ → Type 0 where
  plus : {c : ℕ} → Shifts Plus c (pos c)
  minus : {c : ℕ} → Shifts Minus c (neg_ℤ (pos c))

-- a comparison, behind which a condition goes on
abbrev pub is_operator : Order → List Word → Type 0
is_operator o ws = ((r : List Word) → Compare (ws ++ r) r o) × ((n : List ℕ) (p : Place) (past : List Word) → Compares n (passed ws (name n p ∷ past)))

-- a condition stands behind `if` or `while`
pub data Asks : List Word → Type 0 where
  behind_if : {p : Place} {past : List Word} → Asks (mark If p ∷ past)
  behind_while : {p : Place} {past : List Word} → Asks (mark While p ∷ past)

-- a statement stands at the start, behind ; or behind a brace
pub data Boundary : List Word → Type 0 where
  at_start : Boundary []
  behind_semicolon : {p : Place} {past : List Word} → Boundary (mark Semicolon p ∷ past)
  behind_open : {p : Place} {past : List Word} → Boundary (mark OpenBrace p ∷ past)
  behind_close : {p : Place} {past : List Word} → Boundary (mark CloseBrace p ∷ past)

module _ (vs : List Variable) (ts : List ATable) where
  -- these are the names declared in the past
  pub record Known (past : List Word) : Type 0 where
    pub vars : names_behind Var past ≡ var_names vs
    pub tabs : names_behind Table past ≡ table_names ts

  -- behind this mark, with these names
  pub record KnowsBehind (m : Mark) (past : List Word) : Type 0 where
    pub follows : Behind m past
    pub known : Known past

  pub record KnowsNegates (past : List Word) : Type 0 where
    pub negates : Negates past
    pub known : Known past

  pub record KnowsAsks (past : List Word) : Type 0 where
    pub asks : Asks past
    pub known : Known past

  pub record KnowsCompares (n : List ℕ) (past : List Word) : Type 0 where
    pub compares : Compares n past
    pub known : Known past

  -- a name that stands here is declared by it, and there is no room for one more of its sort (full), or there is
  pub data New (full : Bool) : List Word → Type 0 where
    new_variable : {v : Place} {past : List Word} → Known past → nat_le 8 (length vs) ≡ full → New full (mark Var v ∷ past)
    new_table : {v : Place} {past : List Word} → Known past → nat_le 8 (length ts) ≡ full → New full (mark Table v ∷ past)

  -- a statement may begin here, and blocks may nest so many levels deeper
  pub record Starts (levels : ℕ) (past : List Word) : Type 0 where
    pub boundary : Boundary past
    pub known : Known past
    pub deep : level past + levels ≡ 8

  -- a block may stand here
  pub record Inner (levels : ℕ) (past : List Word) : Type 0 where
    pub known : Known past
    pub deep : level past + levels ≡ 8

  -- Statements: the words from t up to t₂ are some, which with any statements behind them are one body (`more`), and
  -- which take the drawing d to d₂.
  pub record Stated (levels : ℕ) (t t₂ : Text) (d d₂ : Drawing) : Type 0 where
    pub words : List Word
    pub joined : t ≡ before words t₂
    pub more : Statements → Statements
    pub derived : (r₀ r : List Word) (rest : Statements) → Body r₀ r rest → Body (words ++ r₀) r (more rest)
    pub draws : (rest : Statements) → draw vs ts (more rest) d ≡ draw vs ts rest d₂
    pub stays : (past : List Word) → Starts levels past → Starts levels (passed words past)
    pub goes : (k : List Expect) (past : List Word) → Starts levels past → refusal (body ∷ k) past t ≡ refusal (body ∷ k) (passed words past) t₂

  -- one statement, of at least one word
  pub record Statement (levels : ℕ) (t t₂ : Text) (d d₂ : Drawing) : Type 0 where
    pub stated : Stated levels t t₂ d d₂
    pub some : 1 ≤ length stated.words

  -- A block: a brace, statements of the tree `tree`, and a brace, behind a condition or `else`.
  pub record Blocked (levels : ℕ) (t t₂ : Text) (d d₂ : Drawing) : Type 0 where
    pub opened : Place
    pub closed : Place
    pub inside : List Word
    pub joined : t ≡ reads (mark OpenBrace opened) (before inside (reads (mark CloseBrace closed) t₂))
    pub tree : Statements
    pub derived : (r : List Word) → Body (inside ++ (mark CloseBrace closed ∷ r)) (mark CloseBrace closed ∷ r) tree
    pub draws : draw vs ts tree d ≡ d₂
    pub stays : (past : List Word) → Inner levels past → Starts levels (mark CloseBrace closed ∷ passed inside (mark OpenBrace opened ∷ past))
    pub goes : (k : List Expect) (past : List Word) → Inner levels past →
        refusal (block ∷ k) past t ≡ refusal k (mark CloseBrace closed ∷ passed inside (mark OpenBrace opened ∷ past)) t₂

  -- What may follow the first block of an `if`: `else` and a block, or nothing. Its tree is then the second block's.
  pub record Elsed (levels : ℕ) (t t₂ : Text) (d d₂ : Drawing) : Type 0 where
    pub words : List Word
    pub joined : t ≡ before words t₂
    pub tree : Statements
    pub derived : (p o x : Place) (ws ws₁ ws₃ r : List Word) (c : Condition) (b rest : Statements) → Cond ws (mark OpenBrace o ∷ ws₁) c →
        Body ws₁ (mark CloseBrace x ∷ (words ++ ws₃)) b → Body ws₃ r rest → Body (mark If p ∷ ws) r (choose p c b tree rest)
    pub draws : draw vs ts tree d ≡ d₂
    pub stays : (past : List Word) → Starts levels past → Starts levels (passed words past)
    pub goes : (k : List Expect) (past : List Word) → Starts levels past → refusal (else_part ∷ k) past t ≡ refusal k (passed words past) t₂

-- One declaration: behind the variables vs and the tables ts, with which there are then vs₂ and ts₂.
pub record Declares (vs vs₂ : List Variable) (ts ts₂ : List ATable) (t t₂ : Text) : Type 0 where
  pub words : List Word
  pub joined : t ≡ before words t₂
  pub declaration : Declaration
  pub derived : (r₀ r : List Word) (rest : List Declaration) → Heads r₀ r rest → Heads (words ++ r₀) r (declaration ∷ rest)
  pub some : 1 ≤ length words
  pub vars : vs₂ ≡ vs ++ variables (declaration ∷ [])
  pub tabs : ts₂ ≡ ts ++ tables (declaration ∷ [])
  pub stays : (past : List Word) → Starts vs ts 8 past → Starts vs₂ ts₂ 8 (passed words past)
  pub goes : (k : List Expect) (past : List Word) → Starts vs ts 8 past → refusal (heads ∷ k) past t ≡ refusal (heads ∷ k) (passed words past) t₂

-- Declarations from the start of a script on: the words from t up to t₂, with any declarations behind them.
pub record Declared (vs : List Variable) (ts : List ATable) (t t₂ : Text) : Type 0 where
  pub words : List Word
  pub joined : t ≡ before words t₂
  pub declarations : List Declaration
  pub derived : (r₀ r : List Word) (rest : List Declaration) → Heads r₀ r rest → Heads (words ++ r₀) r (declarations ++ rest)
  pub vars : vs ≡ variables declarations
  pub tabs : ts ≡ tables declarations
  pub starts : Starts vs ts 8 (passed words [])
  pub goes : (k : List Expect) → refusal (heads ∷ k) [] t ≡ refusal (heads ∷ k) (passed words []) t₂

-- a statement begins with a name, `if` or `while`
abbrev pub begins_statement : Text → Bool
begins_statement t = first_names t || first_is If t || first_is While t

-- a declaration begins with `var` or `table`
abbrev pub begins_declaration : Text → Bool
begins_declaration t = first_is Var t || first_is Table t

-- What is expected of each statement and of each declaration.
abbrev pub assigning : List Expect
assigning = just any_name ∷ one Becomes ∷ right ∷ one Semicolon ∷ []

abbrev pub choosing : List Expect
choosing = one If ∷ condition ∷ block ∷ else_part ∷ []

abbrev pub repeating : List Expect
repeating = one While ∷ condition ∷ block ∷ []

abbrev pub varying : List Expect
varying = one Var ∷ just any_name ∷ one Equals ∷ span ∷ one Semicolon ∷ []

abbrev pub tabling : List Expect
tabling = one Table ∷ just any_name ∷ one OpenBracket ∷ just any_number ∷ one CloseBracket ∷ one Equals ∷ span ∷ one Semicolon ∷ []

-- the drawing at the join of two blocks: the end of the first, and the drawing at the end of the second
abbrev pub joined_at : Place → ℕ → Drawing → Drawing
joined_at p first d =
    let join = fresh Skip p (stand first d) in
    stand join.now (back Skip p join.now (stand d.now join))
