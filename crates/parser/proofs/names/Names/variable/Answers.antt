use Rattle.std.proofs.Common.{List, ℕ, subst}
use Rattle.parser.specs.Models.{Finds}
use Rattle.parser.proofs.Naming.{names_of_vars}
use Rattle.parser.proofs.names.Names.variable.Goals as goal

pub returns : goal.returns
returns c = subst (λ (ns : List (List ℕ)). Finds c.args.name.now ns c.args.place c.find.result) (names_of_vars _ _ c.as_slice.ensures.value) c.find.ensures
