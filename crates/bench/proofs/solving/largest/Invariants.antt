use Rattle.bench.specs.Largest.{Tops}
use Rattle.bench.proofs.solving.largest.Given as goal

abbrev pub invariant-loop-unknown : goal.invariant-loop-unknown
invariant-loop-unknown l = Tops l.analysis.list.now l.unknown l.largest
