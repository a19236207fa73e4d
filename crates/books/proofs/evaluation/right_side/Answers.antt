use Rattle.std.proofs.Common.{◌≡◌, ◌<◌, [], length, get_or, arith}
use Rattle.books.specs.Entries.{values}
use Rattle.books.proofs.Bests.{largest_next}
use Rattle.books.proofs.Asked.{count_is, must_find}
use Rattle.books.proofs.evaluation.right_side.Goals as goal
use Rattle.books.proofs.evaluation.right_side.Goals.{in-Ok, in_default}

pub loop-number-preserved : goal.loop-number-preserved
loop-number-preserved g c h =
    let m = g.B.Book.equations c.args.book.now in
    let bs = get_or m c.args.unknown [] in
    let n : c.unwrap_or-count.result ≡ length bs = count_is m c.args.unknown c.unwrap_or-count.result c.alternatives.result c.alternatives.ensures c.unwrap_or-count.ensures in
    let lt : c.loop-number.number < length bs = omega arith in
    let well = g.met.B.Book.well c.args.book.now in
    elim c.match-alternative.branch [
      | in-Ok w ↦ rw w.best-is (largest_next g.K.Kind.ops g.met.K.Kind.laws (length m) (values c.args.list.now) h bs (well.fine c.args.unknown) c.loop-number.number w.in-Ok.choice
          w.alternative_value.result c.loop-number.best w.better-best.result w.in-Ok.ensures (w.alternative_value.ensures (length m) h) w.better-best.ensures (c.loop-number.invariant h))
      | in_default w ↦ let r = must_find m c.args.unknown c.loop-number.number c.alternative.result c.alternative.ensures lt in absurd (w.in_default.not-Ok r.0 r.1)
    ]
