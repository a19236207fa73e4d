use Rattle.std.proofs.Common.{length}
use Rattle.language_theory.specs.Rules.{words}
use Rattle.language_theory.specs.Readings.{Declared}
use Rattle.parser.specs.Models.{left, vars_of, tabs_of}
use Rattle.parser.specs.Scripts.{IsNew}
use Rattle.parser.proofs.script.Script.read_declarations.Given as goal

-- the words from the start of the text on are declarations of these names
abbrev pub invariant-loop-heap : goal.invariant-loop-heap
invariant-loop-heap l = IsNew l.initial.self → Declared (vars_of l.self.names) (tabs_of l.self.names) (left l.initial.self.sentence) (left l.self.sentence)

abbrev pub decreases-loop-heap : goal.decreases-loop-heap
decreases-loop-heap l = length (words (left l.self.sentence))
