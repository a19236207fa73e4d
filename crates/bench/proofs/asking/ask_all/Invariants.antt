use Rattle.std.proofs.Common.{◌≡◌, ◌-◌, ◌^◌, take, min}
use Rattle.bench.specs.Asked.{all_alternatives, all_terms}
use Rattle.bench.proofs.asking.ask_all.Given as goal

abbrev pub invariant-loop-unknown : goal.invariant-loop-unknown
invariant-loop-unknown g l = record {
  alternatives : l.asked.alternatives ≡ min (all_alternatives (take l.unknown (g.B.Book.equations l.book))) (2 ^ 64 - 1);
  terms : l.asked.terms ≡ min (all_terms (take l.unknown (g.B.Book.equations l.book))) (2 ^ 64 - 1);
}
