use Rattle.std.proofs.Common.{refl, ◌≡◌, ℕ, suc, ◌-◌, [], ◌∷◌, sym, ap, ◌∙◌, subst, arith}
use Rattle.std.proofs.lemmas.Result.{MatchResult-weaker}
use Rattle.base.specs.declared.Reason.TheVariants.{TooDeep}
use Rattle.lexer.specs.Words.{Text}
use Rattle.lexer.specs.declared.Mark.TheVariants.{CloseBrace}
use Rattle.language_theory.specs.Expected.{one}
use Rattle.language_theory.specs.Expected.Expect.{body, condition, block, else_part}
use Rattle.language_theory.specs.Graphs.{fresh, stand}
use Rattle.language_theory.specs.Readings.{TurnsBack, Inner, Statement, Blocked, Elsed}
use Rattle.language_theory.specs.Readings.TurnsBack.{by_want}
use Rattle.language_theory.proofs.Turning.{turns, turns_at}
use Rattle.language_theory.proofs.Steps.{block_brace}
use Rattle.language_theory.proofs.Bodies.{stated_none, stated_then, shorter, body_assigning, body_choosing, body_repeating, refuses_level, refuses_inside, refuses_brace, blocked, elsed_none, elsed_some, refuses_else, refuses_if, refuses_first, refuses_second, stated_choice, refuses_while, refuses_loop, stated_loop}
use Rattle.parser.specs.Models.{left, vars_of, tabs_of, drawn_so}
use Rattle.parser.specs.Scripts.{StartsAt, InnerAt}
use Rattle.parser.proofs.Keeping.{at_names, halts_at}
use Rattle.parser.proofs.Exits.{handed_on}
use Rattle.parser.proofs.Guarding.{holds_as, fails_as}
use Rattle.parser.proofs.Sentences.{a_name}
use Rattle.parser.proofs.statements.Scribe.+nesting.Goals as goal

pub read_block-returns-in_err-place : goal.read_block-returns-in_err-place
read_block-returns-in_err-place t c =
    handed_on _ _ c.from_residual.result _ c.from_residual.ensures.1
    (turns (λ h k past y. block_brace k past (left c.args.self.now.script.sentence) ∙ h (body ∷ one CloseBrace ∷ k) past tt) c.in_err-place.ensures)

pub read_block-returns-then-levels-eq0 : goal.read_block-returns-then-levels-eq0
read_block-returns-then-levels-eq0 t c =
    let n = c.args.self.now.script.names in
    turns_at (block ∷ []) (Inner _ _ c.args.levels) _ _ TooDeep _ c.at.ensures
    (λ k past y. refuses_level _ _ c.in_ok-place.ensures k past (subst (λ (l : ℕ). Inner (vars_of n) (tabs_of n) l past) c.if-levels-eq0.true y))

pub read_block-returns-in_err-read_statements : goal.read_block-returns-in_err-read_statements
read_block-returns-in_err-read_statements t c =
    let n = c.args.self.now.script.names in
    let e : suc (c.args.levels - 1) ≡ c.args.levels = omega arith in
    handed_on _ _ c.from_residual-in_err-read_statements.result _ c.from_residual-in_err-read_statements.ensures.1
    (subst (λ (l : ℕ). TurnsBack (block ∷ []) (Inner (vars_of n) (tabs_of n) l) (left c.args.self.now.script.sentence) c.in_err-read_statements.field-0.0) e
    (turns (refuses_inside _ _ c.in_ok-place.ensures _) c.in_err-read_statements.ensures))

pub read_block-returns-in_err-mark : goal.read_block-returns-in_err-mark
read_block-returns-in_err-mark t c =
    let n = c.args.self.now.script.names in
    let e : suc (c.args.levels - 1) ≡ c.args.levels = omega arith in
    let b = c.in_ok-read_statements.ensures in
    handed_on _ _ c.from_residual-in_err-mark.result _ c.from_residual-in_err-mark.ensures.1
    (subst (λ (l : ℕ). TurnsBack (block ∷ []) (Inner (vars_of n) (tabs_of n) l) (left c.args.self.now.script.sentence) c.in_err-mark.field-0.0) e
    (turns (refuses_brace _ _ c.in_ok-place.ensures b.0.0 b.1 _) c.in_err-mark.ensures))

pub read_block-returns : goal.read_block-returns
read_block-returns t c =
    let n = c.args.self.now.script.names in
    let e : suc (c.args.levels - 1) ≡ c.args.levels = omega arith in
    let b = c.in_ok-read_statements.ensures in (
      subst (λ (l : ℕ). Blocked (vars_of n) (tabs_of n) l (left c.args.self.now.script.sentence) (left c.mark-2.new.self) (drawn_so c.args.self.now.drawing) (drawn_so c.read_statements.new.self.drawing)) e
          (blocked _ _ c.in_ok-place.ensures b.0.0 b.1 _ _ c.in_ok-mark.ensures),
      b.0.1,
    )

pub read_choice-returns-in_err-place : goal.read_choice-returns-in_err-place
read_choice-returns-in_err-place t c =
    handed_on _ _ c.from_residual.result _ c.from_residual.ensures.1
    (turns (λ h k past y. h (condition ∷ block ∷ else_part ∷ k) past tt) c.in_err-place.ensures)

pub read_choice-returns-in_err-c : goal.read_choice-returns-in_err-c
read_choice-returns-in_err-c t c =
    handed_on _ _ c.from_residual-in_err-c.result _ c.from_residual-in_err-c.ensures.1
    (turns (refuses_if _ _ c.in_ok-place.ensures _) c.in_err-c.ensures)

pub read_choice-returns-in_err-read_block : goal.read_choice-returns-in_err-read_block
read_choice-returns-in_err-read_block t c =
    let a = c.in_ok-c.ensures in
    handed_on _ _ c.from_residual-in_err-read_block.result _ c.from_residual-in_err-read_block.ensures.1
    (turns (refuses_first _ _ c.in_ok-place.ensures a.3.0 _) (halts_at a.3.1 (InnerAt c.args.levels) c.in_err-read_block.ensures))

pub read_choice-returns-in_err-read_else : goal.read_choice-returns-in_err-read_else
read_choice-returns-in_err-read_else t c =
    let a = c.in_ok-c.ensures in
    let b = at_names a.3.1 Blocked c.in_ok-read_block.ensures in
    handed_on _ _ c.from_residual-in_err-read_else.result _ c.from_residual-in_err-read_else.ensures.1
    (turns (refuses_second _ _ c.in_ok-place.ensures a.3.0 b.0 _) (halts_at b.1 (StartsAt c.args.levels) c.in_err-read_else.ensures))

pub read_choice-returns : goal.read_choice-returns
read_choice-returns t c =
    let n = c.args.self.now.script.names in
    let vs = vars_of n in
    let ts = tabs_of n in
    let p = c.in_ok-place.place in
    let a = c.in_ok-c.ensures in
    let h = holds_as vs ts a.0 a.1 a.2 c.holds.ensures in
    let f = fails_as vs ts a.0 a.1 a.2 c.fails.ensures in
    let b = at_names a.3.1 Blocked c.in_ok-read_block.ensures in
    let o = at_names b.1 Elsed c.in_ok-read_else.ensures in
    MatchResult-weaker c.join.result c.join.ensures
    (λ _ e. (
      stated_choice vs ts c.in_ok-place.ensures a.3.0 b.0 _ _ _ _ _ o.0
          (c.in_ok-onward.ensures ∙ (λ i. fresh (h i) p (drawn_so c.args.self.now.drawing)))
          (c.in_ok-onward-2.ensures ∙ (λ i. fresh (f i) p (c.stand.ensures i))) e,
      o.1,
    ))
    (λ _ e. by_want e)

pub read_else-returns-then-accept : goal.read_else-returns-then-accept
read_else-returns-then-accept t c =
    let m = c.if-accept.ensures.passed in
    MatchResult-weaker c.read_block.result c.read_block.ensures
    (λ _ b. (elsed_some _ _ _ m.0 _ _ _ _ _ m.1 b.0, b.1))
    (λ e b. turns (refuses_else _ _ _ m.0 _ _ _ m.1) b)

pub read_else-returns : goal.read_else-returns
read_else-returns t c =
    let n = c.args.self.now.script.names in
    let d = drawn_so c.args.self.now.drawing in
    let t₀ = left c.args.self.now.script.sentence in
    (subst (λ (x : Text). Elsed (vars_of n) (tabs_of n) c.args.levels t₀ x d d) (sym c.if-accept.ensures.stays) (elsed_none _ _ _ _ _ (sym c.if-accept.ensures.is)), refl)

pub read_repetition-returns-in_err-place : goal.read_repetition-returns-in_err-place
read_repetition-returns-in_err-place t c =
    handed_on _ _ c.from_residual.result _ c.from_residual.ensures.1
    (turns (λ h k past y. h (condition ∷ block ∷ k) past tt) c.in_err-place.ensures)

pub read_repetition-returns-in_err-c : goal.read_repetition-returns-in_err-c
read_repetition-returns-in_err-c t c =
    handed_on _ _ c.from_residual-in_err-c.result _ c.from_residual-in_err-c.ensures.1
    (turns (refuses_while _ _ c.in_ok-place.ensures _) c.in_err-c.ensures)

pub read_repetition-returns-in_err-read_block : goal.read_repetition-returns-in_err-read_block
read_repetition-returns-in_err-read_block t c =
    let a = c.in_ok-c.ensures in
    handed_on _ _ c.from_residual-in_err-read_block.result _ c.from_residual-in_err-read_block.ensures.1
    (turns (refuses_loop _ _ c.in_ok-place.ensures a.3.0 _) (halts_at a.3.1 (InnerAt c.args.levels) c.in_err-read_block.ensures))

pub read_repetition-returns : goal.read_repetition-returns
read_repetition-returns t c =
    let n = c.args.self.now.script.names in
    let vs = vars_of n in
    let ts = tabs_of n in
    let p = c.in_ok-place.place in
    let a = c.in_ok-c.ensures in
    let h = holds_as vs ts a.0 a.1 a.2 c.holds.ensures in
    let f = fails_as vs ts a.0 a.1 a.2 c.fails.ensures in
    let b = at_names a.3.1 Blocked c.in_ok-read_block.ensures in
    MatchResult-weaker c.onward-3.result c.onward-3.ensures
    (λ _ e. (
      stated_loop vs ts c.in_ok-place.ensures a.3.0 _ _ _ _ _ _ b.0 c.in_ok-onward.ensures
          (c.in_ok-onward-2.ensures ∙ (λ i. fresh (h i) p (drawn_so c.onward.new.self)))
          (e ∙ (λ i. fresh (f i) p ((c.stand.ensures ∙ ap (stand c.onward.new.self.here) c.in_ok-back.ensures) i))),
      b.1,
    ))
    (λ _ e. by_want e)

pub read_statement-returns-then-at : goal.read_statement-returns-then-at
read_statement-returns-then-at t c =
    let n = c.args.self.now.script.names in
    MatchResult-weaker c.read_choice.result c.read_choice.ensures (λ _ h. h)
    (λ e h _. turns (λ r k past y. body_choosing (vars_of n) (tabs_of n) (left c.args.self.now.script.sentence) k past (sym c.if-at.ensures) ∙ r (body ∷ k) past y) h)

pub read_statement-returns-then-at-2 : goal.read_statement-returns-then-at-2
read_statement-returns-then-at-2 t c =
    let n = c.args.self.now.script.names in
    MatchResult-weaker c.read_repetition.result c.read_repetition.ensures (λ _ h. h)
    (λ e h _. turns (λ r k past y. body_repeating (vars_of n) (tabs_of n) (left c.args.self.now.script.sentence) k past (sym c.if-at-2.ensures) ∙ r (body ∷ k) past y) h)

pub read_statement-returns-else-at-2 : goal.read_statement-returns-else-at-2
read_statement-returns-else-at-2 t c =
    let n = c.args.self.now.script.names in
    MatchResult-weaker c.read_assignment.result c.read_assignment.ensures (λ _ h. h c.args.levels)
    (λ e h b. turns (λ r k past y. body_assigning (vars_of n) (tabs_of n) (left c.args.self.now.script.sentence) k past (a_name (left c.args.self.now.script.sentence) b (sym c.if-at.ensures) (sym c.if-at-2.ensures)) ∙ r (body ∷ k) past y)
    (h c.args.levels))

pub read_statements-loop-self-init : goal.read_statements-loop-self-init
read_statements-loop-self-init t c = let n = c.args.self.now.script.names in (stated_none _ _ _ _ _, refl)

pub read_statements-loop-self-smaller : goal.read_statements-loop-self-smaller
read_statements-loop-self-smaller t c = let n = c.loop-self.self.script.names in shorter _ _ c.in_ok-read_statement.ensures.0

pub read_statements-loop-self-preserved : goal.read_statements-loop-self-preserved
read_statements-loop-self-preserved t c =
    let i = c.loop-self.invariant in
    let s = at_names i.1 Statement c.in_ok-read_statement.ensures in
    (stated_then _ _ i.0 s.0.stated, s.1)

pub read_statements-returns-in_err-read_statement : goal.read_statements-returns-in_err-read_statement
read_statements-returns-in_err-read_statement t c =
    let i = c.loop-self.invariant in
    handed_on _ _ c.from_residual.result _ c.from_residual.ensures.1
    (turns (λ r k past y. i.0.goes k past y ∙ r k _ (i.0.stays past y)) (halts_at i.1 (StartsAt c.args.levels) (c.in_err-read_statement.ensures (sym c.loop-self-test.ensures))))
