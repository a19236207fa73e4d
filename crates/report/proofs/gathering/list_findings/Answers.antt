use Rattle.std.proofs.Common.{ap, length, arith}
use Rattle.books.specs.Entries.{values}
use Rattle.report.proofs.Settled.{never_refused}
use Rattle.report.proofs.gathering.list_findings.Goals as goal

pub returns-in_err-count : goal.returns-in_err-count
returns-in_err-count c = λ on_bounds.
    let b = c.args.bounds.now in
    absurd (never_refused c.args.graph.now (values b.analysis.list.now) b.settled b.book.graph.now b.known on_bounds c.as_mut_slice.result.now c.findings.new.list (omega (arith, c.as_mut_slice.ensures.len, c.in_ok-list.ensures.len, ap length c.lookups.ensures)) c.in_err-count.field-0.0 c.in_err-count.ensures.answer)
