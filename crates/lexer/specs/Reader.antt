-- What the word reader answers.
use Rattle.std.specs.Prelude.{◌≡◌, ℕ, ◌+◌, ◌^◌, ◌≤◌, List, length, Some, None, Option, Ok, Err, Result, cond, nat_le}
use Rattle.lexer.specs.Words.{Word as Read, Spelling, Next, Text, part, next, text_at}
use Rattle.lexer.specs.Words.Text.{ends, fails, reads}
use Rattle.lexer.specs.Words.Word.{name, number, mark}
use Rattle.lexer.specs.Words.Next.{word, fault, end}
use Rattle.lexer.specs.declared.Word.{Word}
use Rattle.lexer.specs.declared.Word.TheVariants.{Name, Number, Sign}
use Rattle.lexer.specs.declared.Fault.{Fault}
use Rattle.base.specs.declared.Place.{Place}
use Rattle.base.specs.declared.Reason.{Reason}
use Rattle.base.specs.Reasons.{number_of}
use Rattle.lexer.specs.declared.reader.WordReader.{WordReader}
use Rattle.lexer.specs.declared.Mark.{Mark}

-- lines and columns of so many more bytes fit
abbrev pub Room : Place → ℕ → Type 0
Room p n = (p.line + n ≤ 2 ^ 63) × (p.column + n ≤ 2 ^ 63)

-- a symbol as its length and its mark
abbrev pub sized : Option Spelling → Option (ℕ × Mark)
sized (Some s) = Some (length s.bytes, s.mark)
sized None = None

-- the second number, if it is no larger than the first
abbrev pub within : ℕ → ℕ → Option ℕ
within most n = cond (nat_le n most) (Some n) None

-- a word found at a place, as a word of the text
abbrev pub as_word : Word → Place → Read
as_word (Name bs) p = name bs.now p
as_word (Number n) p = number n p
as_word (Sign m) p = mark m p

-- the same as what comes next, or the reason why no word stands there
abbrev pub word_at : Place → Result Word Reason → Next
word_at p (Ok w) = word (as_word w p)
word_at p (Err r) = fault (number_of r) p

-- the same, or the end
abbrev pub found_at : Place → Result (Option Word) Reason → Next
found_at p (Ok (Some w)) = word_at p (Ok w)
found_at p (Ok None) = end p
found_at p (Err r) = word_at p (Err r)

-- what the reader answers, as what comes next
abbrev pub as_next : Result (Option Word × Place) Fault → Next
as_next (Ok (w, p)) = found_at p (Ok w)
as_next (Err f) = found_at f.place (Err f.reason)

-- a part found at the front of bytes: what it is, and its length
pub record Finds (bs : List ℕ) (p : Place) (r : Result (Option Word) Reason) (n : ℕ) : Type 0 where
  pub found : found_at p r ≡ (part bs p).next
  pub length_is : n ≡ length (part bs p).bytes

-- one step of the reader from the bytes and the place at entry to those at exit
pub record Goes (bs : List ℕ) (p : Place) (r : Result (Option Word × Place) Fault) (rest : List ℕ) (at : Place) : Type 0 where
  pub found : as_next r ≡ (next bs p).next
  pub rest_is : rest ≡ (next bs p).rest
  pub at_is : at ≡ (next bs p).at

-- the words that a reader has still to read
abbrev pub ahead : WordReader → Text
ahead r = text_at r.rest.now r.place

-- the words of a text, from what comes first and the words behind it
abbrev pub leads : Next → Text → Text
leads (word w) t = reads w t
leads (fault n p) t = fails n p
leads (end p) t = ends p
