use Rattle.std.proofs.Common.{Ok, sym, subst}
use Rattle.language_theory.specs.Names.Verdict.{too_long}
use Rattle.language_theory.proofs.Whole.{refuses_heads, refuses_body, refuses_rest, verdict_fine, verdict_many}
use Rattle.parser.specs.Models.{left}
use Rattle.parser.specs.Outlines.{RefusedAs, Outlined}
use Rattle.parser.specs.declared.names.Names.{Names}
use Rattle.parser.specs.Outlines.RefusedAs.{by_verdict}
use Rattle.parser.proofs.Verdict.{from_blank, outlined_err, turned_back, unended}
use Rattle.parser.proofs.read_outline.Goals as goal

pub returns-then-script-gt-MOST_BYTES-clause-verdict : goal.returns-then-script-gt-MOST_BYTES-clause-verdict
returns-then-script-gt-MOST_BYTES-clause-verdict c = subst (RefusedAs c.args.script.now) (sym c.into.ensures) (by_verdict (too_long c.if-script-gt-MOST_BYTES.true))

pub returns-in_err-read_declarations-clause-verdict : goal.returns-in_err-read_declarations-clause-verdict
returns-in_err-read_declarations-clause-verdict c =
    let bs = c.args.script.now in
    let t = left c.new.result.sentence in
    outlined_err bs c.from_residual.result _ c.from_residual.ensures.1
    (turned_back bs t _ c.if-script-gt-MOST_BYTES.false c.new.ensures.words (refuses_heads t _) (c.in_err-read_declarations.ensures c.new.ensures.names))

pub returns-in_err-read_statements-clause-verdict : goal.returns-in_err-read_statements-clause-verdict
returns-in_err-read_statements-clause-verdict c =
    let bs = c.args.script.now in
    let t = left c.new.result.sentence in
    let h = c.in_ok-read_declarations.ensures c.new.ensures.names in
    outlined_err bs c.from_residual-in_err-read_statements.result _ c.from_residual-in_err-read_statements.ensures.1
    (turned_back bs t _ c.if-script-gt-MOST_BYTES.false c.new.ensures.words (refuses_body h.0 h.1 _) c.in_err-read_statements.ensures)

pub returns-in_err-end-clause-verdict : goal.returns-in_err-end-clause-verdict
returns-in_err-end-clause-verdict c =
    let bs = c.args.script.now in
    let t = left c.new.result.sentence in
    let h = c.in_ok-read_declarations.ensures c.new.ensures.names in
    let b = c.in_ok-read_statements.ensures in
    let s = from_blank c.new-2.ensures b.0.0 in
    outlined_err bs c.from_residual-in_err-end.result _ c.from_residual-in_err-end.ensures.1
    (unended bs t _ c.if-script-gt-MOST_BYTES.false c.new.ensures.words (refuses_rest h.0 h.1 s b.1 _) c.in_err-end.ensures)

pub returns-in-Some-clause-verdict : goal.returns-in-Some-clause-verdict
returns-in-Some-clause-verdict c =
    let bs = c.args.script.now in
    let h = c.in_ok-read_declarations.ensures c.new.ensures.names in
    let b = c.in_ok-read_statements.ensures in
    let s = from_blank c.new-2.ensures b.0.0 in
    let e = c.in_ok-end.ensures in
    let v = verdict_many h.0 h.1 s b.1 e.1 bs c.if-script-gt-MOST_BYTES.false c.new.ensures.words c.in-Some.place (sym c.in-Some.ensures) in
    subst (RefusedAs bs) (sym c.at.ensures) (by_verdict v)

pub returns-clause-verdict : goal.returns-clause-verdict
returns-clause-verdict c =
    let bs = c.args.script.now in
    let h = c.in_ok-read_declarations.ensures c.new.ensures.names in
    let b = c.in_ok-read_statements.ensures in
    let s = from_blank c.new-2.ensures b.0.0 in
    let e = c.in_ok-end.ensures in
    let v = verdict_fine h.0 h.1 s b.1 e.1 bs c.if-script-gt-MOST_BYTES.false c.new.ensures.words (sym c.in_default.ensures) in
    subst (λ (m : Names). Outlined bs (Ok (record { names = m; drawing = c.read_statements.new.self.drawing }))) (sym b.0.1) v
