-- Marks of one number are equal, and a missing answer is none that is there.
use Rattle.std.proofs.Common.{◌≡◌, ℕ, true, eqb, [], ◌∷◌, get_or, Some, None, sym, refl, ap, ◌∙◌}
use Rattle.std.proofs.lemmas.Bool.{eqb-true}
use Rattle.std.proofs.lemmas.Option.{none-some}
use Rattle.lexer.specs.Marks.{code}
use Rattle.lexer.specs.declared.Mark.{Mark}
use Rattle.lexer.specs.declared.Mark.TheVariants.{Becomes, Dots, LessEqual, GreaterEqual, Less, Greater, Equals, Plus, Minus, OpenBrace, CloseBrace, OpenBracket, CloseBracket, Semicolon, Var, Table, If, Else, While, Hear, Sense}

-- marks of one number are equal
decode : ℕ → Mark
decode n = get_or (Becomes ∷ Dots ∷ LessEqual ∷ GreaterEqual ∷ Less ∷ Greater ∷ Equals ∷ Plus ∷ Minus ∷ OpenBrace ∷ CloseBrace ∷ OpenBracket ∷ CloseBracket ∷ Semicolon ∷ Var ∷ Table ∷ If ∷ Else ∷ While ∷ Hear ∷ Sense ∷ []) n Becomes

decode_code : (m : Mark) → decode (code m) ≡ m
unfolding decode
decode_code Becomes = refl
decode_code Dots = refl
decode_code LessEqual = refl
decode_code GreaterEqual = refl
decode_code Less = refl
decode_code Greater = refl
decode_code Equals = refl
decode_code Plus = refl
decode_code Minus = refl
decode_code OpenBrace = refl
decode_code CloseBrace = refl
decode_code OpenBracket = refl
decode_code CloseBracket = refl
decode_code Semicolon = refl
decode_code Var = refl
decode_code Table = refl
decode_code If = refl
decode_code Else = refl
decode_code While = refl
decode_code Hear = refl
decode_code Sense = refl

pub mark_same : (m n : Mark) → eqb (code m) (code n) ≡ true → m ≡ n
mark_same m n e = sym (decode_code m) ∙ ap decode (eqb-true (code m) (code n) e) ∙ decode_code n

pub no_some : {A : Type 0} {x : A} {P : Type 0} → None ≡ Some x → P
no_some {A} {x} e = absurd (none-some x e)
