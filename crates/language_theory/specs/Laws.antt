-- What is proved of the definitions, as statements for the contracts.
use Rattle.std.specs.Prelude.{◌≡◌, ℕ, ◌≤◌, true, List, [], Some, None}
use Rattle.lexer.specs.Words.{Word, Text}
use Rattle.language_theory.specs.Grammar.{Tree, Script, Begins}
use Rattle.language_theory.specs.Graphs.{Graph, graph, Declared, SmallTree}
use Rattle.language_theory.specs.WellFormed.{Made, WellFormed, InBounds}
use Rattle.language_theory.specs.Names.{Refused, Passes, Outcome, Verdict}
use Rattle.language_theory.specs.Names.Outcome.{drawn}
use Rattle.language_theory.specs.Rules.{Keeps, whole}
use Rattle.base.specs.declared.Place.{Place}
use Rattle.language_theory.specs.Expected.{Expect, steps, accepted, at_first, Refusal, refusal}

-- Words have at most one tree. What is expected next says which words begin a script, and which are one.
pub record GrammarStands : Type 0 where
  pub one : (ws : List Word) (t t₂ : Tree) → Script ws t → Script ws t₂ → t ≡ t₂
  pub expected : (ws : List Word) → Begins ws → (k : List Expect) × (steps (Some at_first) ws ≡ Some k)
  pub begins : (ws : List Word) (k : List Expect) → steps (Some at_first) ws ≡ Some k → Begins ws
  pub finished : (ws : List Word) (t : Tree) → Script ws t → accepted (steps (Some at_first) ws) ≡ true
  pub script : (ws : List Word) → accepted (steps (Some at_first) ws) ≡ true → (t : Tree) × Script ws t

-- Every text has one verdict. The refusals at words are those that `refusal` computes.
pub record VerdictsStand : Type 0 where
  pub some : (bs : List ℕ) → (o : Outcome) × Verdict bs o
  pub one : (bs : List ℕ) (o o₂ : Outcome) → Verdict bs o → Verdict bs o₂ → o ≡ o₂
  pub refused : (t : Text) (r : Refusal) → refusal at_first [] t ≡ Some r → Refused [] t r.number r.place
  pub passes : (t : Text) → refusal at_first [] t ≡ None → (tree : Tree) × Passes [] t tree
  -- a text passes exactly if it is whole, and its words are the script of a tree that keeps the rules
  pub keeps : (t : Text) (tree : Tree) → Passes [] t tree → (ws : List Word) × (p : Place) × (t ≡ whole ws p) × Script ws tree × Keeps tree
  pub kept : (ws : List Word) (p : Place) (tree : Tree) → Script ws tree → Keeps tree → Passes [] (whole ws p) tree

-- Points are numbered as made; where a tree's names are declared and its constants small, its graph is in bounds; where it
-- also keeps the other rules and needs no point 96, as in every text that is accepted, its graph is well formed.
pub record GraphsStand : Type 0 where
  pub made : (t : Tree) → Made (graph t).edges (graph t).points
  pub in_bounds : (t : Tree) → Declared t → SmallTree t → InBounds (graph t)
  pub well_formed : (t : Tree) → Keeps t → SmallTree t → (graph t).points ≤ 96 → WellFormed (graph t)
  -- what is drawn of a text
  pub drawn : (bs : List ℕ) (g : Graph) → Verdict bs (drawn g) → Made g.edges g.points × WellFormed g
