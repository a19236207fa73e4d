use Rattle.std.proofs.Common.{◌≡◌, ◌-◌, ◌^◌, [], get_or, take, min}
use Rattle.bench.specs.Asked.{terms_in}
use Rattle.bench.proofs.asking.ask_unknown.Given as goal

abbrev pub invariant-loop-number : goal.invariant-loop-number
invariant-loop-number g l = l.terms ≡ min (terms_in (take l.number (get_or (g.B.Book.equations l.book) l.unknown []))) (2 ^ 64 - 1)
