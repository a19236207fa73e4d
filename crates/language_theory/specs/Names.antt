-- The rules on words behind one another, and the verdict on a text. The first word at which a rule fails decides,
-- and there the first rule.
-- `past` has the words before the present one, the latest first. Names of declarations stand right behind
-- `var` or `table`, and braces only round blocks, so each rule looks at words alone.
use Rattle.std.specs.Prelude.{◌≡◌, ℕ, suc, ◌-◌, ◌<◌, ◌≤◌, Bool, true, false, cond, not, ◌&&◌, ◌||◌, List, [], ◌∷◌, ◌++◌, length, ℤ, pos, neg_ℤ, Some, None, Option, ◌==◌, int_lt, nat_le, nat_lt}
use Rattle.lexer.specs.Words.{Word, Text, Reads, among, same, place, start}
use Rattle.lexer.specs.Words.Word.{name, number, mark}
use Rattle.lexer.specs.Words.Text.{ends, fails, reads}
use Rattle.lexer.specs.Marks.{is}
use Rattle.language_theory.specs.Grammar.{Tree, Script, Begins}
use Rattle.language_theory.specs.Graphs.{Graph, graph, maker}
use Rattle.base.specs.declared.Place.{Place}
use Rattle.lexer.specs.declared.Mark.{Mark}
use Rattle.lexer.specs.declared.Mark.TheVariants.{Becomes, Dots, LessEqual, GreaterEqual, Less, Greater, Minus, OpenBrace, CloseBrace, OpenBracket, Var, Table}

-- the word just before is this mark
abbrev pub follows : Mark → List Word → Bool
follows m [] = false
follows m (w ∷ past) = is m w

-- the word just before is this name
abbrev pub follows_name : List ℕ → List Word → Bool
follows_name n [] = false
follows_name n (name m p ∷ past) = same n m
follows_name n (number c p ∷ past) = false
follows_name n (mark m p ∷ past) = false

abbrev pub before : List Word → List Word
before [] = []
before (w ∷ past) = past

-- the names right behind a mark, the earliest first
abbrev pub names_behind : Mark → List Word → List (List ℕ)
names_behind m [] = []
names_behind m (name n p ∷ past) = names_behind m past ++ cond (follows m past) (n ∷ []) []
names_behind m (number c p ∷ past) = names_behind m past
names_behind m (mark k p ∷ past) = names_behind m past

abbrev pub is_variable : List ℕ → List Word → Bool
is_variable n past = among n (names_behind Var past)

abbrev pub is_table : List ℕ → List Word → Bool
is_table n past = among n (names_behind Table past)

-- the blocks that are open
abbrev pub level : List Word → ℕ
level [] = 0
level (w ∷ past) = cond (is OpenBrace w) (suc (level past)) (cond (is CloseBrace w) (level past - 1) (level past))

abbrev pub signed : Bool → ℕ → ℤ
signed true n = neg_ℤ (pos n)
signed false n = pos n

-- behind `..` of a range, with this second constant: it falls
abbrev pub falls_behind : List Word → ℤ → Bool
falls_behind [] b = false
falls_behind (name n p ∷ past) b = false
falls_behind (number a p ∷ past) b = int_lt b (signed (follows Minus past) a)
falls_behind (mark m p ∷ past) b = false

abbrev pub falls : List Word → ℤ → Bool
falls past b = follows Dots past && falls_behind (before past) b

abbrev pub compares : List Word → Bool
compares past = follows Less past || follows LessEqual past || follows Greater past || follows GreaterEqual past

-- The rules at a word behind past words. `bracket` says whether [ is the next word.
module _ (past : List Word) where
  abbrev pub declares : Bool
  declares = follows Var past || follows Table past

  -- 6: the brace of a ninth level
  abbrev pub ninth_level : Word → Bool
  ninth_level w = is OpenBrace w && nat_le 8 (level past)

  -- 7: a name that is declared before
  abbrev pub declared_before : List ℕ → Bool
  declared_before n = declares && (is_variable n past || is_table n past)

  -- 8: a name that is not declared or of the wrong sort;
  -- the leading name of a right side is a table's exactly if [ follows, every other is a variable's
  abbrev pub wrong_sort : List ℕ → Bool → Bool
  wrong_sort n bracket = not declares && not (cond (follows Becomes past && bracket) (is_table n past) (is_variable n past))

  -- 9: a range that falls, at its second number
  abbrev pub range_falls : ℕ → Bool
  range_falls n = cond (follows Minus past) (falls (before past) (neg_ℤ (pos n))) (falls past (pos n))

  -- 10: a table's size that is 0 or over 65,536
  abbrev pub wrong_size : ℕ → Bool
  wrong_size n = follows OpenBracket past && (n == 0 || nat_lt 65536 n)

  -- 11: a condition with the same name twice, at the second
  abbrev pub twice : List ℕ → Bool
  twice n = compares past && follows_name n (before past)

  -- 12: a ninth variable or a ninth table, at its name
  abbrev pub ninth : Bool
  ninth = follows Var past && nat_le 8 (length (names_behind Var past)) || follows Table past && nat_le 8 (length (names_behind Table past))

  -- the first of the rules 6 to 12 that fails at a word, or 0
  abbrev pub rule : Word → Bool → ℕ
  rule (name n p) bracket =
      cond (declared_before n) 7 (cond (wrong_sort n bracket) 8 (cond (twice n) 11 (cond ninth 12 0)))
  rule (number n p) bracket = cond (range_falls n) 9 (cond (wrong_size n) 10 0)
  rule (mark m p) bracket = cond (ninth_level (mark m p)) 6 0

abbrev pub next_is_bracket : Text → Bool
next_is_bracket (ends p) = false
next_is_bracket (fails n p) = false
next_is_bracket (reads w t) = is OpenBracket w

-- the words in the order of the text
abbrev pub in_order : List Word → List Word
in_order [] = []
in_order (w ∷ past) = in_order past ++ (w ∷ [])

-- Behind the past words, this text is refused with this number at this place.
pub data Refused : List Word → Text → ℕ → Place → Type 0 where
  -- 2, 3, 4: a word in fault
  in_fault : {past : List Word} {n : ℕ} {p : Place} → Refused past (fails n p) n p
  -- 5: the end of a text that is no script
  at_end : {past : List Word} {p : Place} → ((t : Tree) → Script (in_order past) t → ⊥) → Refused past (ends p) 5 p
  -- 5: a word that no script continues with
  unfit : {past : List Word} {w : Word} {t : Text} → (Begins (in_order (w ∷ past)) → ⊥) → Refused past (reads w t) 5 (place w)
  -- 6 to 12
  broken : {past : List Word} {w : Word} {t : Text} {n : ℕ} → Begins (in_order (w ∷ past)) →
      rule past w (next_is_bracket t) ≡ suc n → Refused past (reads w t) (suc n) (place w)
  -- at a later word
  later : {past : List Word} {w : Word} {t : Text} {n : ℕ} {p : Place} → Begins (in_order (w ∷ past)) →
      rule past w (next_is_bracket t) ≡ 0 → Refused (w ∷ past) t n p → Refused past (reads w t) n p

-- Behind the past words, no rule fails in this text, and all words are the script of this tree.
pub data Passes : List Word → Text → Tree → Type 0 where
  ended : {past : List Word} {p : Place} {tree : Tree} → Script (in_order past) tree → Passes past (ends p) tree
  passed : {past : List Word} {w : Word} {t : Text} {tree : Tree} →
      rule past w (next_is_bracket t) ≡ 0 → Passes (w ∷ past) t tree → Passes past (reads w t) tree

-- What becomes of a text: a refusal, with its place if it has one, or a graph.
pub data Outcome : Type 0 where
  refused : ℕ → Option Place → Outcome
  drawn : Graph → Outcome

pub data Verdict (bs : List ℕ) : Outcome → Type 0 where
  -- 1: over 8,192 bytes, before all else
  too_long : 8192 < length bs → Verdict bs (refused 1 None)
  by_rule : {t : Text} {n : ℕ} {p : Place} → length bs ≤ 8192 → Reads bs start t → Refused [] t n p → Verdict bs (refused n (Some p))
  -- 13: point 96 is needed, after all others
  too_many : {t : Text} {tree : Tree} {p : Place} → length bs ≤ 8192 → Reads bs start t → Passes [] t tree →
      96 < (graph tree).points → maker 96 (graph tree).edges ≡ Some p → Verdict bs (refused 13 (Some p))
  fine : {t : Text} {tree : Tree} → length bs ≤ 8192 → Reads bs start t → Passes [] t tree →
      (graph tree).points ≤ 96 → Verdict bs (drawn (graph tree))
