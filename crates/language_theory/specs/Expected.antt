-- Which words a script can continue with, followed word by word: a list of what is still to come.
-- That this agrees with the grammar is proved.
use Rattle.std.specs.Prelude.{ℕ, zero, suc, Bool, true, false, cond, ◌&&◌, List, [], ◌∷◌, ◌++◌, Some, None, Option}
use Rattle.lexer.specs.Words.{Word, Text, place}
use Rattle.lexer.specs.Words.Text.{ends, fails, reads}
use Rattle.lexer.specs.Marks.{is}
use Rattle.language_theory.specs.Names.{rule, next_is_bracket}
use Rattle.base.specs.declared.Place.{Place}
use Rattle.lexer.specs.Words.Word.{name, number, mark}
use Rattle.lexer.specs.declared.Mark.{Mark}
use Rattle.lexer.specs.declared.Mark.TheVariants.{Becomes, Dots, LessEqual, GreaterEqual, Less, Greater, Equals, Plus, Minus, OpenBrace, CloseBrace, OpenBracket, CloseBracket, Semicolon, Var, Table, If, Else, While, Hear, Sense}

pub data Terminal : Type 0 where
  the : Mark → Terminal
  any_name any_number : Terminal

abbrev pub fits : Terminal → Word → Bool
fits (the m) w = is m w
fits any_name (name bs p) = true
fits any_name (number n p) = false
fits any_name (mark m p) = false
fits any_number (name bs p) = false
fits any_number (number n p) = true
fits any_number (mark m p) = false

-- What can be still to come. `behind_minus` is what follows - in a right side, `behind_name` what follows its
-- leading name, and `else_part` what follows the first block of an if.
pub data Expect : Type 0 where
  just : Terminal → Expect
  heads body span const condition operator operand block else_part right behind_minus behind_name : Expect

-- an alternative: its first word, then what is to come
pub record Alternative : Type 0 where
  pub first : Terminal
  pub more : List Expect

infixr 5 ◌⇒◌
abbrev pub ◌⇒◌ : Terminal → List Expect → Alternative
f ⇒ k = record { first = f; more = k }

abbrev pub one : Mark → Expect
one m = just (the m)

abbrev pub alternatives : Expect → List Alternative
alternatives (just f) = (f ⇒ []) ∷ []
alternatives heads =
    (the Var ⇒ just any_name ∷ one Equals ∷ span ∷ one Semicolon ∷ heads ∷ []) ∷
    (the Table ⇒ just any_name ∷ one OpenBracket ∷ just any_number ∷ one CloseBracket ∷ one Equals ∷ span ∷ one Semicolon ∷ heads ∷ []) ∷ []
alternatives body =
    (any_name ⇒ one Becomes ∷ right ∷ one Semicolon ∷ body ∷ []) ∷
    (the If ⇒ condition ∷ block ∷ else_part ∷ body ∷ []) ∷
    (the While ⇒ condition ∷ block ∷ body ∷ []) ∷ []
alternatives span = (any_number ⇒ one Dots ∷ const ∷ []) ∷ (the Minus ⇒ just any_number ∷ one Dots ∷ const ∷ []) ∷ []
alternatives const = (any_number ⇒ []) ∷ (the Minus ⇒ just any_number ∷ []) ∷ []
alternatives condition = (any_name ⇒ operator ∷ operand ∷ []) ∷ []
alternatives operator = (the Less ⇒ []) ∷ (the LessEqual ⇒ []) ∷ (the Greater ⇒ []) ∷ (the GreaterEqual ⇒ []) ∷ []
alternatives operand = (any_name ⇒ []) ∷ (any_number ⇒ []) ∷ (the Minus ⇒ just any_number ∷ []) ∷ []
alternatives block = (the OpenBrace ⇒ body ∷ one CloseBrace ∷ []) ∷ []
alternatives else_part = (the Else ⇒ block ∷ []) ∷ []
alternatives right =
    (any_number ⇒ []) ∷ (the Minus ⇒ behind_minus ∷ []) ∷ (any_name ⇒ behind_name ∷ []) ∷ (the Hear ⇒ span ∷ []) ∷ (the Sense ⇒ span ∷ []) ∷ []
alternatives behind_minus = (any_number ⇒ []) ∷ (any_name ⇒ []) ∷ []
alternatives behind_name =
    (the Plus ⇒ just any_number ∷ []) ∷ (the Minus ⇒ just any_number ∷ []) ∷
    (the OpenBracket ⇒ just any_name ∷ one CloseBracket ∷ []) ∷ []

-- what may be left out
abbrev pub optional : Expect → Bool
optional (just f) = false
optional heads = true
optional body = true
optional span = false
optional const = false
optional condition = false
optional operator = false
optional operand = false
optional block = false
optional else_part = true
optional right = false
optional behind_minus = false
optional behind_name = true

-- what is to come behind a word, of the first alternative that it fits
abbrev pub after : List Alternative → Word → Option (List Expect)
after [] w = None
after (a ∷ as') w = cond (fits a.first w) (Some a.more) (after as' w)

abbrev pub pick : Option (List Expect) → Bool → List Expect → Option (List Expect) → Option (List Expect)
pick (Some more) o k s = Some (more ++ k)
pick None true k s = s
pick None false k s = None

-- one word
abbrev pub step : List Expect → Word → Option (List Expect)
step [] w = None
step (e ∷ k) w = pick (after (alternatives e) w) (optional e) k (step k w)

-- words in turn; None: no script continues with the words so far
abbrev pub steps : Option (List Expect) → List Word → Option (List Expect)
steps None ws = None
steps (Some k) [] = Some k
steps (Some k) (w ∷ ws) = steps (step k w) ws

-- nothing is wanted any more
abbrev pub complete : List Expect → Bool
complete [] = true
complete (e ∷ k) = optional e && complete k

abbrev pub accepted : Option (List Expect) → Bool
accepted None = false
accepted (Some k) = complete k

abbrev pub at_first : List Expect
at_first = heads ∷ body ∷ []

-- A refusal: its number and place.
pub record Refusal : Type 0 where
  pub number : ℕ
  pub place : Place

abbrev pub refuse : ℕ → Place → Option Refusal
refuse n p = Some (record { number = n; place = p })

-- The first refusal of a text, behind past words that leave k to come.
abbrev pub refusal : List Expect → List Word → Text → Option Refusal
refusal k past (ends p) = cond (complete k) None (refuse 5 p)
refusal k past (fails n p) = refuse n p
refusal k past (reads w t) =
    elim (step k w) [
      | None ↦ refuse 5 (place w)
      | Some k₂ ↦ elim (rule past w (next_is_bracket t)) [ zero ↦ refusal k₂ (w ∷ past) t | suc n ↦ refuse (suc n) (place w) ]
    ]
