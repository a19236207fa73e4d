use Rattle.std.proofs.Common.{◌≡◌, ◌<◌, [], length, get_or, arith}
use Rattle.books.specs.Books.{nth}
use Rattle.books.proofs.Asked.{count_is, found_ok, must_find}
use Rattle.bench.proofs.Counted.{terms_more}
use Rattle.bench.proofs.asking.ask_unknown.Goals as goal
use Rattle.bench.proofs.asking.ask_unknown.Goals.{in-Ok, in_default}

pub loop-number-preserved : goal.loop-number-preserved
loop-number-preserved g c =
    let m = g.B.Book.equations c.args.book.now in
    let u = c.args.unknown in
    let k = c.loop-number.number in
    let n : c.unwrap_or-number-end.result ≡ length (get_or m u []) = count_is m u c.unwrap_or-number-end.result c.alternatives.result c.alternatives.ensures c.unwrap_or-number-end.ensures in
    let lt : k < length (get_or m u []) = omega arith in
    elim c.match-alternative.branch [
      | in-Ok w ↦ let more = terms_more (get_or m u []) k w.in-Ok.alternative (found_ok (nth (get_or m u []) k) w.in-Ok.alternative w.in-Ok.ensures) in
          let i = c.loop-number.invariant in let s = w.saturating_add-terms.ensures in let t = w.term_count.ensures in rw w.terms-is (omega arith)
      | in_default w ↦ let r = must_find m u k c.alternative.result c.alternative.ensures lt in absurd (w.in_default.not-Ok r.0 r.1)
    ]
