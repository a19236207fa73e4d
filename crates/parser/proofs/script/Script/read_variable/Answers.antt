use Rattle.std.proofs.Common.{◌∷◌, [], ◌++◌, vec_items, ap, ◌∙◌}
use Rattle.language_theory.specs.Expected.Expect.{just}
use Rattle.language_theory.specs.Expected.Terminal.{any_name}
use Rattle.language_theory.proofs.Turning.{turns}
use Rattle.language_theory.proofs.Heads.{refuses_variable_name, declares_variable}
use Rattle.parser.specs.Models.{tabs_of, variable_of}
use Rattle.parser.specs.Scripts.{ending}
use Rattle.parser.specs.declared.names.Names.{Names}
use Rattle.parser.specs.declared.Variable.{Variable}
use Rattle.parser.proofs.Exits.{handed_on}
use Rattle.parser.proofs.Naming.{counted, one_more}
use Rattle.parser.proofs.Declaring.{refuses_variable_ending}
use Rattle.parser.proofs.script.Script.read_variable.Goals as goal

pub returns-in_err-mark : goal.returns-in_err-mark
returns-in_err-mark c =
    handed_on _ _ c.from_residual.result _ c.from_residual.ensures.1
    (turns (λ h k past y. h (just any_name ∷ (ending ++ k)) past tt) c.in_err-mark.ensures)

pub returns-in_err-name : goal.returns-in_err-name
returns-in_err-name c =
    let n = c.args.self.now.names in
    handed_on _ _ c.from_residual-in_err-name.result _ c.from_residual-in_err-name.ensures.1
    (turns (refuses_variable_name _ _ c.in_ok-mark.ensures _ (counted variable_of (vec_items n.variables) c.len-count.result (c.len-count.ensures ∙ n.variables.ok.0)) _)
    c.in_err-name.ensures)

pub returns-in_err-range : goal.returns-in_err-range
returns-in_err-range c =
    let n = c.args.self.now.names in
    let w = c.in_ok-name.ensures in
    let i = counted variable_of (vec_items n.variables) c.len-count.result (c.len-count.ensures ∙ n.variables.ok.0) ∙ w.3 in
    handed_on _ _ c.from_residual-in_err-range.result _ c.from_residual-in_err-range.ensures.1
    (turns (refuses_variable_ending _ _ c.in_ok-mark.ensures w.1 w.2 i _) c.in_err-range.ensures)

pub returns : goal.returns
returns c =
    let n = c.args.self.now.names in
    let w = c.in_ok-name.ensures in
    let x = c.in_ok-range.ensures in
    let i = counted variable_of (vec_items n.variables) c.len-count.result (c.len-count.ensures ∙ n.variables.ok.0) ∙ w.3 in
    let v : Variable = record { name = c.in_ok-name-2.name; range = c.in_ok-range.range } in
    declares_variable _ _ c.in_ok-mark.ensures w.1 w.2 i x.opens x.range _ _ x.closes _
    (one_more variable_of (vec_items n.variables) (vec_items c.push.new.self) v _
    (c.in_ok-push.ensures.items ∙ ap (λ (m : Names). vec_items m.variables ++ (v ∷ [])) w.4) (λ i. record { name = c.in_ok-name-2.ensures.items i; range = c.in_ok-range.range })) _ (ap tabs_of w.4)
