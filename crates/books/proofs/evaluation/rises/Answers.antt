use Rattle.std.proofs.Common.{◌≡◌, ◌<◌, [], length, get_or, ◌∙◌, arith}
use Rattle.books.specs.Entries.{values}
use Rattle.books.proofs.Bests.{right_rises, right_stays, compared, stays_more}
use Rattle.books.proofs.Asked.{count_is, must_find, found_ok}
use Rattle.books.proofs.evaluation.rises.Goals as goal
use Rattle.books.proofs.evaluation.rises.Goals.{in-Ok+else-not-at_most, in_default}

pub loop-number-preserved : goal.loop-number-preserved
loop-number-preserved g c h v =
    let m = g.B.Book.equations c.args.book.now in
    let bs = get_or m c.args.unknown [] in
    let n : c.unwrap_or-count.result ≡ length bs = count_is m c.args.unknown c.unwrap_or-count.result c.alternatives.result c.alternatives.ensures c.unwrap_or-count.ensures in
    let lt : c.loop-number.number < length bs = omega arith in
    let well = g.met.B.Book.well c.args.book.now in
    elim c.match-alternative.branch [
      | in-Ok+else-not-at_most w ↦ stays_more g.K.Kind.ops g.met.K.Kind.laws (length m) (values c.args.list.now) h bs (well.fine c.args.unknown) c.loop-number.number w.in-Ok.choice
          w.alternative_value.result c.args.value w.at_most.result w.in-Ok.ensures (w.alternative_value.ensures (length m) h) v w.at_most.ensures w.if-not-at_most.false (c.loop-number.invariant h v)
      | in_default w ↦ let r = must_find m c.args.unknown c.loop-number.number c.alternative.result c.alternative.ensures lt in absurd (w.in_default.not-Ok r.0 r.1)
    ]

pub returns-then-not-at_most : goal.returns-then-not-at_most
returns-then-not-at_most g c h v =
    let m = g.B.Book.equations c.args.book.now in
    let bs = get_or m c.args.unknown [] in
    let well = g.met.B.Book.well c.args.book.now in
    right_rises g.K.Kind.ops g.met.K.Kind.laws (values c.args.list.now) bs c.loop-number.number c.in-Ok.choice c.args.value (found_ok _ c.in-Ok.choice c.in-Ok.ensures)
    (compared g.K.Kind.ops g.met.K.Kind.laws (length m) (values c.args.list.now) h bs (well.fine c.args.unknown) c.loop-number.number c.in-Ok.choice
    c.alternative_value.result c.args.value c.at_most.result c.in-Ok.ensures (c.alternative_value.ensures (length m) h) v c.at_most.ensures ∙ c.if-not-at_most.true)

pub returns : goal.returns
returns g c h v =
    let m = g.B.Book.equations c.args.book.now in
    let bs = get_or m c.args.unknown [] in
    let n : c.unwrap_or-count.result ≡ length bs = count_is m c.args.unknown c.unwrap_or-count.result c.alternatives.result c.alternatives.ensures c.unwrap_or-count.ensures in
    right_stays g.K.Kind.ops g.met.K.Kind.laws (values c.args.list.now) bs c.args.value (λ k a lt. c.loop-number.invariant h v k a (omega arith))
