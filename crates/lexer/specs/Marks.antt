-- Marks told apart.
use Rattle.std.specs.Prelude.{ℕ, Bool, false, ◌==◌}
use Rattle.lexer.specs.Words.{Word}
use Rattle.lexer.specs.Words.Word.{name, number, mark}
use Rattle.lexer.specs.declared.Mark.{Mark}
use Rattle.lexer.specs.declared.Mark.TheVariants.{Becomes, Dots, LessEqual, GreaterEqual, Less, Greater, Equals, Plus, Minus, OpenBrace, CloseBrace, OpenBracket, CloseBracket, Semicolon, Var, Table, If, Else, While, Hear, Sense}

-- marks told apart by number
abbrev pub code : Mark → ℕ
code Becomes = 0
code Dots = 1
code LessEqual = 2
code GreaterEqual = 3
code Less = 4
code Greater = 5
code Equals = 6
code Plus = 7
code Minus = 8
code OpenBrace = 9
code CloseBrace = 10
code OpenBracket = 11
code CloseBracket = 12
code Semicolon = 13
code Var = 14
code Table = 15
code If = 16
code Else = 17
code While = 18
code Hear = 19
code Sense = 20

-- the word is this mark
abbrev pub is : Mark → Word → Bool
is m (name bs p) = false
is m (number n p) = false
is m (mark m₂ p) = code m == code m₂
