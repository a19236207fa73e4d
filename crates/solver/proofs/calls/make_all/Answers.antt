use Rattle.std.proofs.Common.{ℕ, ◌+◌, ◌<◌, List, [], length, take, drop, sym, refl, ap, ◌∙◌, subst, subst₂, arith}
use Rattle.std.proofs.lemmas.List.{take_more_set, drop-set-lt, drop-drop}
use Rattle.std.proofs.lemmas.List.Elements.{All-nil, All-push, All-same}
use Rattle.books.specs.declared.Entry.{Entry}
use Rattle.strategy_theory.specs.Lives.{Event}
use Rattle.strategy_theory.specs.Calls.{state, Begins}
use Rattle.strategy_theory.proofs.Making.{begins}
use Rattle.solver.specs.Analyses.{state_of}
use Rattle.solver.specs.Answers.{IsUnplaced, history}
use Rattle.solver.specs.Whole.{LeadsOn}
use Rattle.solver.proofs.Rows.{history_more}
use Rattle.solver.proofs.calls.make_all.Goals as goal

pub loop-place-init : goal.loop-place-init
loop-place-init g c =
    let o = g.K.Kind.ops in
    let m = g.B.Book.equations c.args.book.now in
    let begun = c.begin-analysis.ensures.fresh in
    record {
      same_list = refl;
      life = λ len.
          let b = subst₂ (λ (ds : List (Entry _)) (n : ℕ). Begins o m (state ds n)) (sym begun.0) (sym begun.1) (begins o g.met.K.Kind.laws m (g.met.B.Book.well c.args.book.now) (length c.args.list.now) len) in
          record { past = []; life = b.life };
      unplaced = All-nil IsUnplaced;
      behind = refl;
    }

pub loop-place-preserved : goal.loop-place-preserved
loop-place-preserved g c =
    let o = g.K.Kind.ops in
    let m = g.B.Book.equations c.args.book.now in
    let i = c.loop-place.place in
    let cs = c.args.calls.now in
    let bs = c.loop-place.answers in
    let lt : i < length cs = omega arith in
    let gt : i < length bs = omega (arith, c.requires) in
    record {
      same_list = c.make.ensures.same_list ∙ c.loop-place.invariant.same_list;
      life = λ len.
          let q = c.loop-place.invariant.life len in
          let r = c.make.ensures.life (history (take i cs) (take i bs)) q.past q.life in
          subst (λ (h : List (Event ⊥ _ ⊥)). LeadsOn o m h (state_of c.make.new.self)) (sym (history_more cs bs i _ c.make.result lt gt)) (record { past = r.0; life = r.1 });
      unplaced = All-same IsUnplaced _ _ (take_more_set bs i c.make.result gt) (All-push IsUnplaced (take i bs) c.make.result c.loop-place.invariant.unplaced c.make.ensures.unplaced);
      behind = drop-set-lt (i + 1) bs i c.make.result (omega arith) ∙ sym (drop-drop 1 i bs) ∙ ap (λ (ds : List _). drop 1 ds) c.loop-place.invariant.behind ∙ drop-drop 1 i c.args.answers.now;
    }
