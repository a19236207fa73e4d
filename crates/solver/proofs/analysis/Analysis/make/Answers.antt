use Rattle.solver.proofs.analysis.Analysis.make.Goals as goal

pub returns-in-Rounds-clause-life : goal.returns-in-Rounds-clause-life
returns-in-Rounds-clause-life g c = rw c.in-Rounds.is (c.rounds.ensures.life (g.B.Book.equations c.args.book.now) (g.met.B.Book.well c.args.book.now))
