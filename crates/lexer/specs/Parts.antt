-- What holds of every step from word to word.
use Rattle.std.specs.Prelude.{◌≡◌, ℕ, ◌≤◌, Bool, true, false, List, [], ◌∷◌, ◌++◌, length, drop, ◌==◌}
use Rattle.lexer.specs.Words.{Spelling, Text, Reads, start, text, blank, letter, digit, inner, skipped, gap, behind, begins, symbols, part, next}
use Rattle.base.specs.declared.Place.{Place}

-- Blanks and comments, inside a comment (true) or outside (false); a comment ends with LF, or with the text.
pub data Gap : Bool → List ℕ → Type 0 where
  none : {c : Bool} → Gap c []
  a_blank : {b : ℕ} {bs : List ℕ} → blank b ≡ true → Gap false bs → Gap false (b ∷ bs)
  hash : {bs : List ℕ} → Gap true bs → Gap false (35 ∷ bs)
  inside : {b : ℕ} {bs : List ℕ} → (b == 10) ≡ false → Gap true bs → Gap true (b ∷ bs)
  line_end : {bs : List ℕ} → Gap false bs → Gap true (10 ∷ bs)

-- the first of these bytes, if any, fails the test
abbrev pub Stops : (ℕ → Bool) → List ℕ → Type 0
Stops f [] = Unit {0}
Stops f (b ∷ bs) = f b ≡ false

abbrev pub Member : Spelling → List Spelling → Type 0
Member s [] = ⊥
Member s (x ∷ l) = mathlib.Core.Logic.◌⊎◌ (s ≡ x) (Member s l)

-- the longest part: of a name and of a number no byte is left, and no symbol that fits is longer
abbrev pub Longest : List ℕ → List ℕ → Type 0
Longest [] rest = rest ≡ []
Longest (b ∷ bs) rest =
    (letter b ≡ true → Stops inner rest) ×
    (letter b ≡ false → digit b ≡ true → Stops digit rest) ×
    (letter b ≡ false → digit b ≡ false → (s : Spelling) → Member s symbols → begins s.bytes (b ∷ (bs ++ rest)) ≡ true → length s.bytes ≤ length (b ∷ bs))

-- the bytes of the next word, behind what is skipped
abbrev pub taken : List ℕ → Place → List ℕ
taken bs p = (part (drop (length (gap false bs)) bs) (behind (gap false bs) p)).bytes

pub record StepsWell (bs : List ℕ) (p : Place) : Type 0 where
  -- what is skipped, the word's bytes and the rest give the text back
  pub joined : gap false bs ++ (taken bs p ++ (next bs p).rest) ≡ bs
  -- blanks and comments are skipped, and all of them
  pub skips : Gap false (gap false bs)
  pub clear : Stops (skipped false) (taken bs p ++ (next bs p).rest)
  pub longest : Longest (taken bs p) (next bs p).rest
  -- the place goes on over what is passed
  pub goes_on : (next bs p).at ≡ behind (gap false bs ++ taken bs p) p

-- Every text has one list of words, and `text` computes it.
pub record WordsStand : Type 0 where
  pub steps : (bs : List ℕ) (p : Place) → StepsWell bs p
  pub computed : (bs : List ℕ) → Reads bs start (text bs)
  pub one : (bs : List ℕ) (t : Text) → Reads bs start t → t ≡ text bs
