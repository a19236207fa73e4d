use Rattle.std.proofs.Common.{List, [], ◌∷◌, sym, ap, ◌∙◌, subst}
use Rattle.lexer.specs.Words.{Word}
use Rattle.language_theory.specs.Graphs as graphs
use Rattle.language_theory.specs.Expected.{refusal}
use Rattle.language_theory.specs.Expected.Expect.{heads}
use Rattle.language_theory.specs.Readings.{Declared}
use Rattle.language_theory.proofs.Turning.{turns}
use Rattle.language_theory.proofs.Heads.{declared_none, declared_more, shorter}
use Rattle.parser.specs.Models.{left, tabs_of}
use Rattle.parser.proofs.Exits.{handed_on}
use Rattle.parser.proofs.script.Script.read_declarations.Goals as goal

pub loop-heap-init : goal.loop-heap-init
loop-heap-init c e =
    let n = c.args.self.now.names in
    let t = left c.args.self.now.sentence in
    subst (λ (vs : List graphs.Variable). Declared vs (tabs_of n) t t) (sym e.0) (subst (λ (ts : List graphs.Table). Declared [] ts t t) (sym e.1) (declared_none t))

pub loop-heap-smaller : goal.loop-heap-smaller
loop-heap-smaller c = shorter c.in_ok-read_declaration.ensures

pub loop-heap-preserved : goal.loop-heap-preserved
loop-heap-preserved c e = declared_more (c.loop-heap.invariant e) c.in_ok-read_declaration.ensures

pub returns-in_err-read_declaration : goal.returns-in_err-read_declaration
returns-in_err-read_declaration c e =
    let i = c.loop-heap.invariant e in
    let t = left c.args.self.now.sentence in
    handed_on _ _ c.from_residual.result _ c.from_residual.ensures.1
    (turns (λ r k past y. ap (λ (z : List Word). refusal (heads ∷ k) z t) y ∙ i.goes k ∙ r k _ i.starts) (c.in_err-read_declaration.ensures (sym c.loop-heap-test.ensures)))
