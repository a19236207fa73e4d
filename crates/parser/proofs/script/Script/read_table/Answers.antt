use Rattle.std.proofs.Common.{[], ◌∷◌, ◌++◌, vec_items, ap, ◌∙◌}
use Rattle.language_theory.specs.Expected.Expect.{just}
use Rattle.language_theory.specs.Expected.Terminal.{any_name}
use Rattle.language_theory.proofs.Turning.{turns}
use Rattle.language_theory.proofs.Heads.{refuses_table_name, declares_table}
use Rattle.parser.specs.Models.{vars_of, table_of}
use Rattle.parser.specs.Scripts.{sizing, ending}
use Rattle.parser.specs.declared.names.Names.{Names}
use Rattle.parser.specs.declared.Table.{Table}
use Rattle.parser.proofs.Exits.{handed_on}
use Rattle.parser.proofs.Naming.{counted, one_more}
use Rattle.parser.proofs.Declaring.{refuses_table_size, refuses_table_ending}
use Rattle.parser.proofs.script.Script.read_table.Goals as goal

pub returns-in_err-mark : goal.returns-in_err-mark
returns-in_err-mark c =
    handed_on _ _ c.from_residual.result _ c.from_residual.ensures.1
    (turns (λ h k past y. h (just any_name ∷ (sizing ++ (ending ++ k))) past tt) c.in_err-mark.ensures)

pub returns-in_err-name : goal.returns-in_err-name
returns-in_err-name c =
    let n = c.args.self.now.names in
    handed_on _ _ c.from_residual-in_err-name.result _ c.from_residual-in_err-name.ensures.1
    (turns (refuses_table_name _ _ c.in_ok-mark.ensures _ (counted table_of (vec_items n.tables) c.len-count.result (c.len-count.ensures ∙ n.tables.ok.0)) _)
    c.in_err-name.ensures)

pub returns-in_err-size : goal.returns-in_err-size
returns-in_err-size c =
    let n = c.args.self.now.names in
    let w = c.in_ok-name.ensures in
    let i = counted table_of (vec_items n.tables) c.len-count.result (c.len-count.ensures ∙ n.tables.ok.0) ∙ w.3 in
    handed_on _ _ c.from_residual-in_err-size.result _ c.from_residual-in_err-size.ensures.1
    (turns (refuses_table_size _ _ c.in_ok-mark.ensures w.1 w.2 i _) c.in_err-size.ensures)

pub returns-in_err-range : goal.returns-in_err-range
returns-in_err-range c =
    let n = c.args.self.now.names in
    let w = c.in_ok-name.ensures in
    let i = counted table_of (vec_items n.tables) c.len-count.result (c.len-count.ensures ∙ n.tables.ok.0) ∙ w.3 in
    handed_on _ _ c.from_residual-in_err-range.result _ c.from_residual-in_err-range.ensures.1
    (turns (refuses_table_ending _ _ c.in_ok-mark.ensures w.1 w.2 i c.in_ok-size.ensures _) c.in_err-range.ensures)

pub returns : goal.returns
returns c =
    let n = c.args.self.now.names in
    let w = c.in_ok-name.ensures in
    let z = c.in_ok-size.ensures in
    let x = c.in_ok-range.ensures in
    let i = counted table_of (vec_items n.tables) c.len-count.result (c.len-count.ensures ∙ n.tables.ok.0) ∙ w.3 in
    let t : Table = record { name = c.in_ok-name-2.name; size = c.in_ok-size.size; range = c.in_ok-range.range } in
    declares_table _ _ c.in_ok-mark.ensures w.1 w.2 i z.opens z.size z.fits z.closes x.opens x.range _ _ x.closes _
    (one_more table_of (vec_items n.tables) (vec_items c.push.new.self) t _
    (c.in_ok-push.ensures.items ∙ ap (λ (m : Names). vec_items m.tables ++ (t ∷ [])) w.4) (λ i. record { name = c.in_ok-name-2.ensures.items i; size = c.in_ok-size.size; range = c.in_ok-range.range })) _ (ap vars_of w.4)
