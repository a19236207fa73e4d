use Rattle.std.proofs.Common.{◌+◌, ◌*◌, length}
use Rattle.language_theory.specs.Rules.{words}
use Rattle.language_theory.specs.Readings.{Stated}
use Rattle.parser.specs.Models.{left}
use Rattle.parser.specs.Scripts.{Writes}
use Rattle.parser.proofs.statements.Scribe.+nesting.Given as goal

abbrev pub decreases-read_block : goal.decreases-read_block
decreases-read_block l = 5 * l.levels

abbrev pub decreases-read_choice : goal.decreases-read_choice
decreases-read_choice l = 5 * l.levels + 2

abbrev pub decreases-read_else : goal.decreases-read_else
decreases-read_else l = 5 * l.levels + 1

abbrev pub decreases-read_repetition : goal.decreases-read_repetition
decreases-read_repetition l = 5 * l.levels + 2

abbrev pub decreases-read_statement : goal.decreases-read_statement
decreases-read_statement l = 5 * l.levels + 3

abbrev pub decreases-read_statements : goal.decreases-read_statements
decreases-read_statements l = 5 * l.levels + 4

-- the words from the start of the loop on are statements
abbrev pub invariant-read_statements-loop-self : goal.invariant-read_statements-loop-self
invariant-read_statements-loop-self l = Writes Stated l.levels l.initial.self l.self

abbrev pub decreases-read_statements-loop-self : goal.decreases-read_statements-loop-self
decreases-read_statements-loop-self l = length (words (left l.self.script.sentence))
