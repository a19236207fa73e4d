use Rattle.std.proofs.Common.{◌≡◌, ℕ, ◌-◌, ◌≤◌, List, length, take, drop, sym, refl, ap, ◌∙◌, subst, inl, inr, arith}
use Rattle.std.proofs.lemmas.List.{take_at, drop_at, length-take-le}
use Rattle.books.specs.declared.Entry.{Entry}
use Rattle.strategy_theory.specs.Calls.{state, unasked}
use Rattle.strategy_theory.specs.Lives.{Life}
use Rattle.strategy_theory.proofs.Keeping.{always}
use Rattle.strategy_theory.proofs.Lived.{lives}
use Rattle.solver.specs.Answers.{history}
use Rattle.solver.proofs.calls.make_calls.Goals as goal
use Rattle.solver.proofs.calls.make_calls.Goals.{then-list-count-via-then-list-count, then-list-count-via-else-list-count+then-answers-calls}

pub returns : goal.returns
returns g c =
    let o = g.K.Kind.ops in
    let m = g.B.Book.equations c.args.book.now in
    let es = c.args.list.now in
    let es' = c.make_all.new.list in
    let n = c.count-count.result in
    let e : n ≡ length m = c.count-count.ensures in
    let le : n - 0 ≤ length es = omega arith in
    let same : n - 0 ≡ length m = omega arith in
    let long : length (take (n - 0) es) ≡ length m = length-take-le (n - 0) es le ∙ same in
    let q = c.make_all.ensures.life long in
    let long' : length es' ≡ length m = c.make_all.auto.list ∙ long in
    let life = subst (λ (ds : List (Entry _)). Life o m unasked (history c.args.calls.now (take (length c.args.calls.now) c.make_all.new.answers)) q.past (state ds c.make_all.result))
    (sym (take_at es' _ (length m) long')) q.life in
    record {
      whole = record {
        room = omega arith;
        answers = c.if-answers-calls.false;
        past = q.past;
        life = life;
        always = always o m unasked g.met.K.Kind.laws (g.met.B.Book.well c.args.book.now) life;
        unplaced = c.make_all.ensures.unplaced;
        behind = drop_at es' _ (length m) long' ∙ ap (λ (k : ℕ). drop k es) same;
        behind_answers = c.make_all.ensures.behind;
      };
      law = lives o g.met.K.Kind.laws;
    }

pub returns-then-list-count : goal.returns-then-list-count
returns-then-list-count g c = record {
  whole = record {
    short =
        elim c.then-list-count.branch [
          | then-list-count-via-then-list-count w ↦ inl (omega (arith, w.if-list-count.true, c.count-count.ensures))
          | then-list-count-via-else-list-count+then-answers-calls w ↦ inr w.if-answers-calls.true
        ];
    refusal = c.into.ensures;
    same = refl;
    same_answers = refl;
  };
  law = lives g.K.Kind.ops g.met.K.Kind.laws;
}
