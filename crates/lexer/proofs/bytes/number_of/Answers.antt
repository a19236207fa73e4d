use Rattle.std.proofs.Common.{◌+◌, ◌*◌, ◌∙◌, arith}
use Rattle.lexer.proofs.Loops.{too_large}
use Rattle.lexer.proofs.bytes.number_of.Goals as goal

pub returns-in_err-checked_mul : goal.returns-in_err-checked_mul
returns-in_err-checked_mul c =
    let h = c.in_err-checked_mul.ensures in
    c.from_residual.ensures ∙ too_large c.args.digits.now c.loop-d.d-index c.loop-d.n (c.loop-d.n * 10) c.loop-d-test.true c.loop-d.invariant (omega arith) (omega (arith, h))

pub returns-in_err-n : goal.returns-in_err-n
returns-in_err-n c =
    let h = c.in_err-n.ensures in
    let k = c.in_ok-checked_mul.ensures in
    c.from_residual-in_err-n.ensures ∙
    too_large c.args.digits.now c.loop-d.d-index c.loop-d.n (c.in_ok-checked_mul.field-0 + c.from.result) c.loop-d-test.true c.loop-d.invariant (omega (arith, k)) (omega (arith, h))
