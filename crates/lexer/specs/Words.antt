-- The words of a script: parts of its bytes, each with the line and column where it begins.
use Rattle.std.specs.Prelude.{◌≡◌, ℕ, zero, suc, ◌+◌, ◌-◌, ◌*◌, Bool, true, false, cond, not, ◌&&◌, ◌||◌, List, [], ◌∷◌, ◌++◌, length, drop, Some, None, codes, Option, ◌==◌, nat_le}
use Rattle.base.specs.declared.Place.{Place}
use Rattle.lexer.specs.declared.Mark.{Mark}
use Rattle.lexer.specs.declared.Mark.TheVariants.{Becomes, Dots, LessEqual, GreaterEqual, Less, Greater, Equals, Plus, Minus, OpenBrace, CloseBrace, OpenBracket, CloseBracket, Semicolon, Var, Table, If, Else, While, Hear, Sense}

-- Places: lines and columns count from 1, a column is a byte, a line ends with LF.
abbrev pub start : Place
start = record { line = 1; column = 1 }

-- the place one byte on
abbrev pub onward : ℕ → Place → Place
onward b p = cond (b == 10) (record { line = p.line + 1; column = 1 }) (record { line = p.line; column = p.column + 1 })

-- the place behind some bytes
abbrev pub behind : List ℕ → Place → Place
behind [] p = p
behind (b ∷ bs) p = behind bs (onward b p)

-- Bytes: blanks are space, tab, CR and LF.
abbrev pub blank : ℕ → Bool
blank b = b == 32 || b == 9 || b == 13 || b == 10

abbrev pub letter : ℕ → Bool
letter b = nat_le 97 b && nat_le b 122

abbrev pub digit : ℕ → Bool
digit b = nat_le 48 b && nat_le b 57

-- a byte of a name behind its first: letter, digit or _
abbrev pub inner : ℕ → Bool
inner b = letter b || digit b || b == 95

-- What is skipped: blanks, and comments from # up to LF.
-- The first argument says whether the bytes begin inside a comment.
abbrev pub skipped : Bool → ℕ → Bool
skipped comment b = comment || blank b || b == 35

abbrev pub commenting : Bool → ℕ → Bool
commenting comment b = cond comment (not (b == 10)) (b == 35)

-- the blanks and comments that some bytes begin with
abbrev pub gap : Bool → List ℕ → List ℕ
gap comment [] = []
gap comment (b ∷ bs) = cond (skipped comment b) (b ∷ gap (commenting comment b) bs) []

-- the longest beginning whose bytes all pass a test
abbrev pub run : (ℕ → Bool) → List ℕ → List ℕ
run f [] = []
run f (b ∷ bs) = cond (f b) (b ∷ run f bs) []

-- Spellings. Among the symbols those of two bytes stand first, so that the longest fits first.
pub record Spelling : Type 0 where
  pub bytes : List ℕ
  pub mark : Mark

abbrev pub spelled : List ℕ → Mark → Spelling
spelled bs m = record { bytes = bs; mark = m }

abbrev pub pairs : List Spelling
pairs = spelled (codes ":=") Becomes ∷ spelled (codes "..") Dots ∷ spelled (codes "<=") LessEqual ∷ spelled (codes ">=") GreaterEqual ∷ []

abbrev pub singles : List Spelling
singles =
    spelled (codes "<") Less ∷ spelled (codes ">") Greater ∷ spelled (codes "=") Equals ∷ spelled (codes "+") Plus ∷ spelled (codes "-") Minus ∷
    spelled (codes "{") OpenBrace ∷ spelled (codes "}") CloseBrace ∷ spelled (codes "[") OpenBracket ∷ spelled (codes "]") CloseBracket ∷
    spelled (codes ";") Semicolon ∷ []

abbrev pub symbols : List Spelling
symbols = pairs ++ singles

abbrev pub reserved : List Spelling
reserved =
    spelled (codes "var") Var ∷ spelled (codes "table") Table ∷ spelled (codes "if") If ∷ spelled (codes "else") Else ∷
    spelled (codes "while") While ∷ spelled (codes "hear") Hear ∷ spelled (codes "sense") Sense ∷ []

-- equal lists of bytes
abbrev pub same : List ℕ → List ℕ → Bool
same [] [] = true
same [] (y ∷ ys) = false
same (x ∷ xs) [] = false
same (x ∷ xs) (y ∷ ys) = x == y && same xs ys

-- one of these names
abbrev pub among : List ℕ → List (List ℕ) → Bool
among n [] = false
among n (m ∷ ms) = same n m || among n ms

-- the bytes begin with the first list
abbrev pub begins : List ℕ → List ℕ → Bool
begins [] bs = true
begins (x ∷ xs) [] = false
begins (x ∷ xs) (b ∷ bs) = x == b && begins xs bs

-- the first spelling that the bytes begin with
abbrev pub symbol_in : List Spelling → List ℕ → Option Spelling
symbol_in [] bs = None
symbol_in (s ∷ rest) bs = cond (begins s.bytes bs) (Some s) (symbol_in rest bs)

-- the reserved word of this spelling
abbrev pub reserved_in : List Spelling → List ℕ → Option Mark
reserved_in [] bs = None
reserved_in (s ∷ rest) bs = cond (same s.bytes bs) (Some s.mark) (reserved_in rest bs)

-- the value of digits, behind digits of the value n
abbrev pub value : ℕ → List ℕ → ℕ
value n [] = n
value n (d ∷ ds) = value (n * 10 + (d - 48)) ds

-- A word with its place.
pub data Word : Type 0 where
  name : List ℕ → Place → Word
  number : ℕ → Place → Word
  mark : Mark → Place → Word

abbrev pub place : Word → Place
place (name bs p) = p
place (number n p) = p
place (mark m p) = p

-- What comes next in a text: a word, a word in fault with the fault's number, or the end.
pub data Next : Type 0 where
  word : Word → Next
  fault : ℕ → Place → Next
  end : Place → Next

-- A name has at most 16 bytes (4), a number is at most 2147483647 (3), any other word is a symbol (2).
abbrev pub name_word : List ℕ → Place → Option Mark → Next
name_word bs p (Some m) = word (mark m p)
name_word bs p None = word (name bs p)

abbrev pub letters_next : List ℕ → Place → Next
letters_next bs p = cond (nat_le (length bs) 16) (name_word bs p (reserved_in reserved bs)) (fault 4 p)

abbrev pub digits_next : List ℕ → Place → Next
digits_next ds p = cond (nat_le (value 0 ds) 2147483647) (word (number (value 0 ds) p)) (fault 3 p)

-- the part of the bytes that the next word takes, and that word
pub record Part : Type 0 where
  pub bytes : List ℕ
  pub next : Next

abbrev pub symbol_part : Option Spelling → ℕ → Place → Part
symbol_part (Some s) b p = record { bytes = s.bytes; next = word (mark s.mark p) }
symbol_part None b p = record { bytes = b ∷ []; next = fault 2 p }

-- the part at the front of bytes that begin with no blank and no comment
abbrev pub part : List ℕ → Place → Part
part [] p = record { bytes = []; next = end p }
part (b ∷ bs) p =
    cond (letter b) (record { bytes = b ∷ run inner bs; next = letters_next (b ∷ run inner bs) p })
    (cond (digit b) (record { bytes = b ∷ run digit bs; next = digits_next (b ∷ run digit bs) p })
    (symbol_part (symbol_in symbols (b ∷ bs)) b p))

-- One step of reading: what comes next, and the bytes behind it with their place.
pub record Step : Type 0 where
  pub next : Next
  pub rest : List ℕ
  pub at : Place

abbrev pub take_part : List ℕ → Place → Part → Step
take_part bs p t = record { next = t.next; rest = drop (length t.bytes) bs; at = behind t.bytes p }

abbrev pub next_part : List ℕ → Place → Step
next_part bs p = take_part bs p (part bs p)

abbrev pub next : List ℕ → Place → Step
next bs p = next_part (drop (length (gap false bs)) bs) (behind (gap false bs) p)

-- The words of a text, up to its end or its first word in fault.
pub data Text : Type 0 where
  ends : Place → Text
  fails : ℕ → Place → Text
  reads : Word → Text → Text

-- These bytes, from this place on, have these words.
pub data Reads : List ℕ → Place → Text → Type 0 where
  at_end : {bs : List ℕ} {p q : Place} → (next bs p).next ≡ end q → Reads bs p (ends q)
  at_fault : {bs : List ℕ} {p q : Place} {n : ℕ} → (next bs p).next ≡ fault n q → Reads bs p (fails n q)
  at_word : {bs : List ℕ} {p : Place} {w : Word} {t : Text} → (next bs p).next ≡ word w →
      Reads (next bs p).rest (next bs p).at t → Reads bs p (reads w t)

-- The same computed, in at most `fuel` steps; every word takes a byte, so one step more than there are bytes suffices.
abbrev pub text_in : ℕ → List ℕ → Place → Text
text_in zero bs p = ends p
text_in (suc fuel) bs p =
    let s = next bs p in
    elim s.next [ word w ↦ reads w (text_in fuel s.rest s.at) | fault n q ↦ fails n q | end q ↦ ends q ]

-- the words of bytes that begin at a place, and of a script
abbrev pub text_at : List ℕ → Place → Text
text_at bs p = text_in (suc (length bs)) bs p

abbrev pub text : List ℕ → Text
text bs = text_at bs start
