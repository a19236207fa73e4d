use Rattle.std.proofs.Common.{◌≡◌, ℕ, length, take, sym, ap, ◌∙◌, arith}
use Rattle.std.proofs.lemmas.List.{take_all}
use Rattle.lexer.specs.Words.{run}
use Rattle.lexer.proofs.Loops.{run_stop, run_end}
use Rattle.lexer.proofs.Parts.{run_front, front_take}
use Rattle.lexer.proofs.bytes.front.Goals as goal

pub returns-then-not-test : goal.returns-then-not-test
returns-then-not-test g c f h =
    let bs = c.args.bytes.now in
    let e = run_stop f bs c.loop-n.n c.loop-n-test.true (sym (h _ _ c.if-not-test.ensures)) in
    let i = c.loop-n.invariant f h in
    let l : c.loop-n.n ≡ length (run f bs) = omega arith in
    ap (λ (k : ℕ). take k bs) l ∙ front_take (run f bs) bs (run_front f bs)

pub returns : goal.returns
returns g c f h =
    let bs = c.args.bytes.now in
    let e = run_end f bs c.loop-n.n c.loop-n-test.false in
    let i = c.loop-n.invariant f h in
    let l : length bs ≡ length (run f bs) = omega arith in
    sym (take_all (length bs) bs (omega arith)) ∙ ap (λ (k : ℕ). take k bs) l ∙ front_take (run f bs) bs (run_front f bs)
