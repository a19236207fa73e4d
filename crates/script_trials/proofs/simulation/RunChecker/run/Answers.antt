use Rattle.std.proofs.Common.{◌∷◌, [], ◌++◌, arith}
use Rattle.std.proofs.lemmas.List.{length_push}
use Rattle.script_trials.proofs.Keeping.{saw_more}
use Rattle.script_trials.proofs.simulation.RunChecker.run.Goals as goal

pub loop-preserved : goal.loop-preserved
loop-preserved c ss h =
    let i = c.loop.invariant ss h in
    (i.0 ++ c.loop.state ∷ [], saw_more ss i.0 c.look.ensures i.1, λ _. omega (arith, length_push i.0 c.loop.state))

pub returns-then-not-step : goal.returns-then-not-step
returns-then-not-step c ss h =
    let i = c.loop.invariant ss h in
    (i.0 ++ c.loop.state ∷ [], saw_more ss i.0 c.look.ensures i.1, λ _. omega (arith, length_push i.0 c.loop.state))
