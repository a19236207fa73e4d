use Rattle.std.proofs.Common.{Bool, ◌||◌, sym, ap, ◌∙◌}
use Rattle.lexer.specs.Words.{among}
use Rattle.language_theory.specs.Graphs.{table_names}
use Rattle.parser.specs.Models.{tabs_of}
use Rattle.parser.proofs.Naming.{names_of_vars, names_of_tables, is_there}
use Rattle.parser.proofs.names.Names.has.Goals as goal

pub returns-then-is_some : goal.returns-then-is_some
returns-then-is_some c =
    let n = c.args.name.now in
    let b = among n (table_names (tabs_of c.args.self.now)) in
    let v = c.is_some.ensures ∙ is_there n _ _ (names_of_vars _ _ c.as_slice.ensures.value) c.position.result c.position.ensures in
    c.if-is_some.true ∙ ap (λ (x : Bool). x || b) (sym c.if-is_some.true ∙ v)

pub returns-else-is_some : goal.returns-else-is_some
returns-else-is_some c =
    let n = c.args.name.now in
    let r = c.is_some-else-is_some.result in
    let v = c.is_some.ensures ∙ is_there n _ _ (names_of_vars _ _ c.as_slice.ensures.value) c.position.result c.position.ensures in
    let w = c.is_some-else-is_some.ensures ∙ is_there n _ _ (names_of_tables _ _ c.as_slice-else-is_some.ensures.value) c.position-else-is_some.result c.position-else-is_some.ensures in
    w ∙ ap (λ (x : Bool). x || among n (table_names (tabs_of c.args.self.now))) (sym c.if-is_some.false ∙ v)
