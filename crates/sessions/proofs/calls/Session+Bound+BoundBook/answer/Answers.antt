use Rattle.sessions.proofs.calls.Session+Bound+BoundBook.answer.Goals as goal

pub returns-in-Findings-clause-life : goal.returns-in-Findings-clause-life
returns-in-Findings-clause-life c = rw c.in-Findings.is c.list_findings.ensures.life
