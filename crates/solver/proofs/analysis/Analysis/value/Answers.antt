use Rattle.std.proofs.Common.{rules}
use Rattle.solver.proofs.Told.{told_value, value_of_entry}
use Rattle.solver.proofs.analysis.Analysis.value.Goals as goal

pub returns-in_err-entry_at-clause-life : goal.returns-in_err-entry_at-clause-life
returns-in_err-entry_at-clause-life g c m well = told_value g.K.Kind.ops g.met.K.Kind.laws m well c.args.self.now.list.now c.args.self.now.rounds c.args.unknown c.from_residual.result (search rules)

pub returns-clause-life : goal.returns-clause-life
returns-clause-life g c m well =
    value_of_entry g.K.Kind.ops g.met.K.Kind.laws m well c.args.self.now.list.now c.args.self.now.rounds c.args.unknown c.in_ok-entry_at.field-0 c.in_ok-entry_at.ensures
