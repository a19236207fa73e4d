-- What the methods that read a script say of the script before and behind.
use Rattle.std.specs.Prelude.{◌≡◌, ℕ, ◌==◌, ◌||◌, nat_lt, Bool, false, List, [], ◌∷◌}
use Rattle.base.specs.declared.Place.{Place}
use Rattle.base.specs.declared.Refusal.{Refusal}
use Rattle.lexer.specs.Words.{Word, Text}
use Rattle.lexer.specs.Words.Word.{number, mark}
use Rattle.lexer.specs.Words.Text.{reads}
use Rattle.lexer.specs.declared.Mark.{Mark}
use Rattle.lexer.specs.declared.Mark.TheVariants.{Equals, OpenBracket, CloseBracket, Semicolon}
use Rattle.language_theory.specs.Grammar as grammar
use Rattle.language_theory.specs.Graphs as graphs
use Rattle.language_theory.specs.Graphs.{var_number}
use Rattle.language_theory.specs.Expected.{Expect, one}
use Rattle.language_theory.specs.Expected.Expect.{just, span}
use Rattle.language_theory.specs.Expected.Terminal.{any_number}
use Rattle.language_theory.specs.Readings as readings
use Rattle.language_theory.specs.Readings.{TurnsBack, Over, Quiet, KnowsBehind, KnowsCompares, Starts, Inner, New, is_span}
use Rattle.language_theory.specs.declared.Range.{Range}
use Rattle.parser.specs.Models.{left, vars_of, tabs_of, drawn_so, side_of, operand_of, condition_of}
use Rattle.parser.specs.declared.script.Script.{Script}
use Rattle.parser.specs.declared.statements.Scribe.{Scribe}
use Rattle.parser.specs.declared.side.Side.{Side}
use Rattle.parser.specs.declared.condition.Operand.{Operand}
use Rattle.parser.specs.declared.condition.Condition.{Condition}

-- a past that is so at given variables and tables
abbrev pub Past : Type 1
Past = List graphs.Variable → List graphs.Table → List Word → Type 0

abbrev pub BehindMark : Mark → Past
BehindMark m vs ts = KnowsBehind vs ts m

abbrev pub BehindOrder : List ℕ → Past
BehindOrder n vs ts = KnowsCompares vs ts n

abbrev pub StartsAt : ℕ → Past
StartsAt l vs ts = Starts vs ts l

abbrev pub InnerAt : ℕ → Past
InnerAt l vs ts = Inner vs ts l

abbrev pub NewAt : Bool → Past
NewAt full vs ts = New vs ts full

-- The words from one script up to the other are what is expected, behind a past that is so at its names; they are so by
-- the grammar (D), and no name is declared.
abbrev pub Reads : List Expect → Past → (List Word → Type 0) → Script → Script → Type 0
Reads es C D s s₂ = Over es (C (vars_of s.names) (tabs_of s.names)) D (left s.sentence) (left s₂.sentence) × (s₂.names ≡ s.names)

-- Where these are expected, behind a past that is so at the names of the script, it is refused so.
abbrev pub Halts : List Expect → Past → Script → Refusal → Type 0
Halts es C s e = TurnsBack es (C (vars_of s.names) (tabs_of s.names)) (left s.sentence) e

-- no name is declared
abbrev pub IsNew : Script → Type 0
IsNew s = (vars_of s.names ≡ []) × (tabs_of s.names ≡ [])

-- The words from one script up to the other declare one name.
abbrev pub Declares : Script → Script → Type 0
Declares s s₂ = readings.Declares (vars_of s.names) (vars_of s₂.names) (tabs_of s.names) (tabs_of s₂.names) (left s.sentence) (left s₂.sentence)

-- the size of a table, in its brackets
abbrev pub sizing : List Expect
sizing = one OpenBracket ∷ just any_number ∷ one CloseBracket ∷ []

pub record Sizing (c : ℕ) (t t₂ : Text) : Type 0 where
  pub opened : Place
  pub at : Place
  pub closed : Place
  pub behind_open : Text
  pub behind_size : Text
  pub opens : t ≡ reads (mark OpenBracket opened) behind_open
  pub size : behind_open ≡ reads (number c at) behind_size
  pub fits : (c == 0 || nat_lt 65536 c) ≡ false
  pub closes : behind_size ≡ reads (mark CloseBracket closed) t₂

-- how each declaration ends
abbrev pub ending : List Expect
ending = one Equals ∷ span ∷ one Semicolon ∷ []

pub record Ending (g : Range) (t t₂ : Text) : Type 0 where
  pub equals : Place
  pub semicolon : Place
  pub behind_equals : Text
  pub behind_range : Text
  pub opens : t ≡ reads (mark Equals equals) behind_equals
  pub range : Over (span ∷ []) Quiet (is_span g) behind_equals behind_range
  pub closes : behind_range ≡ reads (mark Semicolon semicolon) t₂

-- numbers, sides and conditions, by the names of a script
abbrev pub variable_in : Script → List ℕ → ℕ
variable_in s i = var_number (vars_of s.names) (tabs_of s.names) i

abbrev pub side_in : Script → grammar.Side → Side
side_in s a = side_of (vars_of s.names) (tabs_of s.names) a

abbrev pub operand_in : Script → grammar.Operand → Operand
operand_in s v = operand_of (vars_of s.names) (tabs_of s.names) v

abbrev pub condition_in : Script → grammar.Condition → Condition
condition_in s a = condition_of (vars_of s.names) (tabs_of s.names) a

-- From one state of a scribe up to the other: the words between are such statements (R), which take the one drawing to
-- the other, and no name is declared.
abbrev pub Writes : (List graphs.Variable → List graphs.Table → ℕ → Text → Text → graphs.Drawing → graphs.Drawing → Type 0) → ℕ → Scribe → Scribe → Type 0
Writes R l a b =
    R (vars_of a.script.names) (tabs_of a.script.names) l (left a.script.sentence) (left b.script.sentence) (drawn_so a.drawing) (drawn_so b.drawing)
    × (b.script.names ≡ a.script.names)
