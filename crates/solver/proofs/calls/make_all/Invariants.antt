use Rattle.std.proofs.Common.{◌≡◌, length, take, drop, All}
use Rattle.solver.specs.Analyses.{state_of}
use Rattle.solver.specs.Answers.{IsUnplaced, history}
use Rattle.solver.specs.Whole.{LeadsOn}
use Rattle.solver.proofs.calls.make_all.Given as goal

abbrev pub invariant-loop-place : goal.invariant-loop-place
invariant-loop-place g l = record {
  same_list : l.analysis.list.ghost_name ≡ l.initial.analysis.list.ghost_name;
  life : length l.fn.list ≡ length (g.B.Book.equations l.book) → LeadsOn g.K.Kind.ops (g.B.Book.equations l.book) (history (take l.place l.calls) (take l.place l.answers)) (state_of l.analysis);
  unplaced : All IsUnplaced (take l.place l.answers);
  behind : drop l.place l.answers ≡ drop l.place l.fn.answers;
}
