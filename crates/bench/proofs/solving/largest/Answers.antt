use Rattle.std.proofs.Common.{◌≡◌, ◌≤ℤ◌, [], ◌∷◌, arith, rules, w64}
use Rattle.std.specs.Int.{int_max}
use Rattle.std.proofs.lemmas.Int.{ints, fold-int_max_bounds, to_z-of_z}
use borrow.Author.Count.{below_more}
use Rattle.bench.specs.Largest.{shown_at}
use Rattle.bench.proofs.solving.largest.Goals as goal

pub loop-unknown-preserved : goal.loop-unknown-preserved
loop-unknown-preserved c =
    let shown = c.whole_at.result in
    let e : c.max-largest.result ≡ int_max c.loop-unknown.largest shown = search rules in
    let le = fold-int_max_bounds c.loop-unknown.largest (shown ∷ []) c.max-largest.result e in
    rw (to_z-of_z w64 c.max-largest.result (search rules)) (below_more (λ k. shown_at c.args.analysis.now.list.now k ≤ℤ c.max-largest.result) c.loop-unknown.unknown (λ k lt. let i = c.loop-unknown.invariant k lt in let l = le.0 in omega (arith, ints)) (let l = le.1 0 shown (omega arith) in let s = c.whole_at.ensures in omega (arith, ints)))
