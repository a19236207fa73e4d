use Rattle.std.proofs.Common.{◌≡◌, length, take, All}
use Rattle.kinds.specs.Values.{bounds}
use Rattle.strategy_theory.specs.Lives.{begun}
use Rattle.solver.specs.Answers.{IsUnplaced}
use Rattle.solver.specs.Analyses.{state_of}
use Rattle.script_equations_theory.specs.Bounds.{bound_book}
use Rattle.script_graph.specs.Meaning.{meaning}
use Rattle.sessions.specs.Whole.{script_history}
use Rattle.sessions.proofs.Rows.{LeadsOn}
use Rattle.sessions.proofs.calls.make_all.Given as goal

abbrev pub invariant-loop-call : goal.invariant-loop-call
invariant-loop-call l = record {
  same_book : l.session.book ≡ l.fn.session.book;
  long : length l.answers.items ≡ l.call-index;
  unplaced : All IsUnplaced l.answers.items;
  life : state_of l.fn.session.analysis ≡ begun bounds (bound_book (meaning l.fn.session.book.graph.now)) →
      LeadsOn l.fn.session.book.graph.now (script_history (take l.call-index l.calls) l.answers.items) (state_of l.session.analysis);
}
