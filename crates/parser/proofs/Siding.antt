-- Right sides as the reader answers them.
use Rattle.std.proofs.Common.{◌≡◌, ℕ, List, refl, ◌∙◌}
use Rattle.base.specs.declared.Place.{Place}
use Rattle.language_theory.specs.Grammar as grammar
use Rattle.language_theory.specs.Grammar.Side.{shifted}
use Rattle.language_theory.specs.Graphs.{Variable, Table, Drawing, var_number, draw_assign}
use Rattle.parser.specs.Models.{side_of, assigned}
use Rattle.parser.specs.declared.side.Side.{Side}

-- an assignment as the reader draws it
pub assigned_as : (vs : List Variable) (ts : List Table) (p : Place) (k : ℕ) (n : List ℕ) (x : Side) (a : grammar.Side) (d : Drawing) → k ≡ var_number vs ts n → x ≡ side_of vs ts a →
    assigned p k x d ≡ draw_assign vs ts p (var_number vs ts n) a d
assigned_as vs ts p k n x a d e f = (λ i. assigned p (e i) (f i) d) ∙ go a
  where
    go : (a : grammar.Side) → assigned p (var_number vs ts n) (side_of vs ts a) d ≡ draw_assign vs ts p (var_number vs ts n) a d
    go (grammar.Side.constant c) = refl
    go (grammar.Side.shifted i c) = refl
    go (grammar.Side.negated i) = refl
    go (grammar.Side.any s g) = refl
    go (grammar.Side.reading t i q) = refl
