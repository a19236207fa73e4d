use Rattle.std.proofs.Common.{List, Ok, Err, rules, subst, sym, ◌∙◌, arith}
use Rattle.kinds.specs.Values.{bounds}
use Rattle.books.specs.Entries.{values}
use Rattle.strategy_theory.specs.Lives.Call.{question}
use Rattle.strategy_theory.specs.Lives.Answer.{told}
use Rattle.strategy_theory.specs.Promises.{GoesOn}
use Rattle.solver.specs.Analyses.{state_of}
use Rattle.script_equations_theory.specs.Bounds.{bound_book}
use Rattle.soundness_theory.specs.Questions.{ask}
use Rattle.soundness_theory.specs.Questions.Question.{findings_into}
use Rattle.soundness_theory.specs.Questions.Told.{filled}
use Rattle.soundness_theory.specs.declared.Finding.{Finding}
use Rattle.script_graph.specs.Meaning.{meaning}
use Rattle.sessions.proofs.FindingsOf.{goes_on_from, taken_front, filled_long}
use Rattle.sessions.proofs.calls.Session+Bound+BoundBook.list_findings.Goals as goal

pub returns-in-Ok-clause-life : goal.returns-in-Ok-clause-life
returns-in-Ok-clause-life c =
    let s = c.args.self.now in
    let g = s.book.graph.now in
    subst (λ (fs : List Finding). GoesOn bounds (bound_book (meaning g)) (ask (meaning g)) (question (findings_into c.args.length)) (told (filled fs)) (state_of s.analysis) (state_of s.analysis))
    (sym (c.truncate.ensures.items ∙ taken_front c.in-Ok.count _ c.findings.new.list _ (omega (arith, c.in-Ok.ensures.answer.room, c.as_mut_slice.ensures.len)) (filled_long (meaning g) (values s.analysis.list.now) c.as_mut_slice.result.now c.findings.new.list c.in-Ok.count c.in-Ok.ensures.answer)))
    (goes_on_from g s.analysis.list.now s.analysis.rounds s.lived c.args.length c.as_mut_slice.result.now c.findings.new.list (Ok c.in-Ok.count) (search rules) c.in-Ok.ensures.answer)

pub returns-in-Err-clause-life : goal.returns-in-Err-clause-life
returns-in-Err-clause-life c =
    let s = c.args.self.now in
    goes_on_from s.book.graph.now s.analysis.list.now s.analysis.rounds s.lived c.args.length c.as_mut_slice.result.now c.findings.new.list (Err c.in-Err.refusal) (search rules) c.in-Err.ensures.answer
