-- The rules 6 to 12 as statements about the tree. That a text passes exactly if its tree keeps them is proved.
use Rattle.std.specs.Prelude.{◌≡◌, ℕ, suc, ◌<◌, ◌≤◌, false, List, [], ◌∷◌, ◌++◌, length, int_lt}
use Rattle.lexer.specs.Words.{Word, Text, same, among}
use Rattle.lexer.specs.Words.Text.{ends, fails, reads}
use Rattle.base.specs.declared.Place.{Place}
use Rattle.language_theory.specs.Grammar.{Declaration, Side, Operand, Condition, Statements, Tree}
use Rattle.language_theory.specs.Grammar.Declaration.{variable, table}
use Rattle.language_theory.specs.Grammar.Side.{constant, shifted, negated, any, reading}
use Rattle.language_theory.specs.Grammar.Operand.{against, limit}
use Rattle.language_theory.specs.Grammar.Condition.{compares}
use Rattle.language_theory.specs.Grammar.Statements.{done, assign, choose, repeat}
use Rattle.language_theory.specs.Graphs.{variables, tables, var_names, table_names, Among}
use Rattle.language_theory.specs.declared.Range.{Range}

-- 9: no range falls
abbrev pub Rises : Range → Type 0
Rises g = int_lt g.high g.low ≡ false

-- behind declarations of the variables vs and the tables ts:
-- 7: no name is declared before, 12: at most eight of each, 10: sizes from 1 to 65,536
abbrev pub HeadsKeep : List (List ℕ) → List (List ℕ) → List Declaration → Type 0
HeadsKeep vs ts [] = Unit {0}
HeadsKeep vs ts (variable n g ∷ ds) =
    (among n vs ≡ false) × (among n ts ≡ false) × (length vs < 8) × Rises g × HeadsKeep (vs ++ (n ∷ [])) ts ds
HeadsKeep vs ts (table n c g ∷ ds) =
    (among n vs ≡ false) × (among n ts ≡ false) × (length ts < 8) × (0 < c) × (c ≤ 65536) × Rises g × HeadsKeep vs (ts ++ (n ∷ [])) ds

-- 8: names are declared, and of the sort that their place wants
abbrev pub SideKeeps : List (List ℕ) → List (List ℕ) → Side → Type 0
SideKeeps vs ts (constant c) = Unit {0}
SideKeeps vs ts (shifted i c) = Among i vs
SideKeeps vs ts (negated i) = Among i vs
SideKeeps vs ts (any s g) = Rises g
SideKeeps vs ts (reading t i p) = Among t ts × Among i vs

-- 11: the two names of a condition differ
abbrev pub OperandKeeps : List (List ℕ) → List ℕ → Operand → Type 0
OperandKeeps vs i (against k) = Among k vs × (same k i ≡ false)
OperandKeeps vs i (limit c) = Unit {0}

abbrev pub ConditionKeeps : List (List ℕ) → Condition → Type 0
ConditionKeeps vs (compares i o v) = Among i vs × OperandKeeps vs i v

-- 6: inside `level` blocks, a further one only below the eighth
abbrev pub BodyKeeps : List (List ℕ) → List (List ℕ) → ℕ → Statements → Type 0
BodyKeeps vs ts level done = Unit {0}
BodyKeeps vs ts level (assign p k e rest) = Among k vs × SideKeeps vs ts e × BodyKeeps vs ts level rest
BodyKeeps vs ts level (choose p c b b₂ rest) =
    ConditionKeeps vs c × (level < 8) × BodyKeeps vs ts (suc level) b × BodyKeeps vs ts (suc level) b₂ × BodyKeeps vs ts level rest
BodyKeeps vs ts level (repeat p c b rest) =
    ConditionKeeps vs c × (level < 8) × BodyKeeps vs ts (suc level) b × BodyKeeps vs ts level rest

pub record Keeps (t : Tree) : Type 0 where
  pub heads : HeadsKeep [] [] t.declarations
  pub body : BodyKeeps (var_names (variables t.declarations)) (table_names (tables t.declarations)) 0 t.statements

-- the text of these words, with its end at this place
abbrev pub whole : List Word → Place → Text
whole [] p = ends p
whole (w ∷ ws) p = reads w (whole ws p)

-- the words of a text
abbrev pub words : Text → List Word
words (ends p) = []
words (fails n p) = []
words (reads w t) = w ∷ words t
