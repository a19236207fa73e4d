use Rattle.sessions.proofs.session.Session.make.Goals as goal

pub returns-in-Rounds-clause-life : goal.returns-in-Rounds-clause-life
returns-in-Rounds-clause-life g c = rw c.in-Rounds.is c.rounds.ensures.life
