use Rattle.std.proofs.Common.{ℕ, ◌+◌, List, [], ◌∷◌, length, refl, ap, ◌∙◌, subst, arith, length-append}
use Rattle.std.proofs.lemmas.List.{take_all, get_or_default}
use Rattle.std.proofs.lemmas.List.Elements.{All-nil, All-push, All-same}
use Rattle.solver.specs.Answers.{IsUnplaced}
use Rattle.solver.specs.Analyses.{state_of}
use Rattle.sessions.specs.Whole.{script_history}
use Rattle.sessions.specs.declared.calls.ScriptCall.{ScriptCall}
use Rattle.sessions.proofs.Rows.{LeadsOn, starts, one_more, whole}
use Rattle.sessions.proofs.calls.make_all.Goals as goal

pub loop-call-init : goal.loop-call-init
loop-call-init c = record {
  same_book = refl;
  long = ap length c.new-answers.ensures.items;
  unplaced = All-same IsUnplaced _ _ c.new-answers.ensures.items (All-nil IsUnplaced);
  life = starts c.args.session.now.book.graph.now (state_of c.args.session.now.analysis);
}

pub loop-call-preserved : goal.loop-call-preserved
loop-call-preserved c =
    let i = c.loop-call.call-index in
    let known = c.loop-call.invariant in
    record {
      same_book = c.in_ok-answer.ensures.same_book ∙ known.same_book;
      long = ap length c.in_ok-push.ensures.items ∙ length-append c.loop-call.answers.items (c.in_ok-answer.answer ∷ []) ∙ ap (λ (k : ℕ). k + 1) known.long;
      unplaced = All-same IsUnplaced _ _ c.in_ok-push.ensures.items (All-push IsUnplaced c.loop-call.answers.items c.in_ok-answer.answer known.unplaced c.in_ok-answer.ensures.unplaced);
      life = λ e. one_more c.args.session.now.book c.loop-call.session.book known.same_book c.args.calls.now c.loop-call.answers.items c.push.new.self.items i c.in_ok-answer.answer (state_of c.loop-call.session.analysis) (state_of c.answer.new.self.analysis)
          _ c.in_ok-answer.ensures.life c.loop-call-test.true (get_or_default c.args.calls.now i _ _ c.loop-call-test.true) known.long c.in_ok-push.ensures.items (known.life e);
    }

pub returns : goal.returns
returns c =
    let i = c.loop-call.call-index in
    let cs = c.args.calls.now in
    let g = c.args.session.now.book.graph.now in (
      omega (arith, c.loop-call.invariant.long),
      c.loop-call.invariant.unplaced,
      λ e. whole g (script_history cs c.loop-call.answers.items) (state_of c.loop-call.session.analysis)
          (subst (λ (ds : List ScriptCall). LeadsOn g (script_history ds c.loop-call.answers.items) (state_of c.loop-call.session.analysis)) (take_all i cs c.loop-call-test.false) (c.loop-call.invariant.life e)),
    )
