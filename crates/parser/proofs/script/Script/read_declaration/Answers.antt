use Rattle.std.proofs.Common.{◌∷◌, sym, ◌∙◌}
use Rattle.std.proofs.lemmas.Result.{MatchResult-weaker}
use Rattle.language_theory.specs.Expected.Expect.{heads}
use Rattle.language_theory.proofs.Turning.{turns}
use Rattle.language_theory.proofs.Heads.{heads_varying, heads_tabling}
use Rattle.parser.specs.Models.{left, vars_of, tabs_of}
use Rattle.parser.proofs.Sentences.{ATable}
use Rattle.parser.proofs.script.Script.read_declaration.Goals as goal

pub returns-then-at : goal.returns-then-at
returns-then-at c =
    let n = c.args.self.now.names in
    MatchResult-weaker c.read_variable.result c.read_variable.ensures (λ _ h. h)
    (λ e h _. turns (λ r k past y. heads_varying (vars_of n) (tabs_of n) (left c.args.self.now.sentence) k past (sym c.if-at.ensures) ∙ r (heads ∷ k) past y) h)

pub returns-else-at : goal.returns-else-at
returns-else-at c =
    let n = c.args.self.now.names in
    MatchResult-weaker c.read_table.result c.read_table.ensures (λ _ h. h)
    (λ e h b. turns (λ r k past y. heads_tabling (vars_of n) (tabs_of n) (left c.args.self.now.sentence) k past (ATable (left c.args.self.now.sentence) b (sym c.if-at.ensures)) ∙ r (heads ∷ k) past y) h)
