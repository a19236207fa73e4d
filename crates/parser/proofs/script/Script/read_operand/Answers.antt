use Rattle.std.proofs.Common.{◌≡◌, true, false, [], ◌∷◌, ℤ, sym, refl, ap, subst, w64, to_z, of_z, rules}
use Rattle.std.proofs.lemmas.Int.{to_z-of_z}
use Rattle.base.specs.declared.Reason.TheVariants.{Undeclared, SameName}
use Rattle.language_theory.specs.Grammar.Operand.{against, limit}
use Rattle.language_theory.specs.Expected.Expect.{operand}
use Rattle.language_theory.specs.Readings.{KnowsCompares, Constant}
use Rattle.language_theory.proofs.Turning.{turns, turns_at}
use Rattle.language_theory.proofs.Conditions.{against_decides, over_against, over_limit, refuses_against, refuses_limit}
use Rattle.parser.specs.Models.{left, Small}
use Rattle.parser.specs.declared.condition.Operand.TheVariants.{Against}
use Rattle.parser.proofs.Exits.{handed_on}
use Rattle.parser.proofs.script.Script.read_operand.Goals as goal

pub returns-in_err-name : goal.returns-in_err-name
returns-in_err-name c =
    handed_on _ _ c.from_residual.result _ c.from_residual.ensures.1
    (turns (refuses_against _ _ c.args.left.now (left c.args.self.now.sentence) _ (sym c.if-at_name.ensures)) c.in_err-name.ensures)

pub returns-in_err-k : goal.returns-in_err-k
returns-in_err-k c =
    let h = c.in_err-k.ensures in
    handed_on _ _ c.from_residual-in_err-k.result _ c.from_residual-in_err-k.ensures.1
    (turns_at (operand ∷ []) (KnowsCompares _ _ c.args.left.now) _ _ Undeclared _ h.1
    (against_decides _ _ c.args.left.now c.in_ok-name.name.now c.in_ok-name.place _ _ false _ c.in_ok-name.ensures h.0 refl))

pub returns-then-same_name : goal.returns-then-same_name
returns-then-same_name c =
    let h = c.in_ok-k.ensures in
    turns_at (operand ∷ []) (KnowsCompares _ _ c.args.left.now) _ _ SameName _ c.at.ensures
    (against_decides _ _ c.args.left.now c.in_ok-name.name.now c.in_ok-name.place _ _ true true c.in_ok-name.ensures h.0 (sym c.if-same_name.ensures))

pub returns-then-at_name : goal.returns-then-at_name
returns-then-at_name c =
    let h = c.in_ok-k.ensures in (
      against c.in_ok-name.name.now,
      ap Against h.1,
      tt,
      (over_against _ _ c.args.left.now _ _ _ _ c.in_ok-name.ensures h.0 (sym c.if-same_name.ensures), refl),
    )

pub returns-in_err-c : goal.returns-in_err-c
returns-in_err-c c =
    handed_on _ _ c.from_residual-in_err-c.result _ c.from_residual-in_err-c.ensures.1
    (turns (refuses_limit _ _ c.args.left.now (left c.args.self.now.sentence) _ (sym c.if-at_name.ensures)) c.in_err-c.ensures.read)

pub returns : goal.returns
returns c =
    let h = c.in_ok-c.ensures in
    let z = c.in_ok-c.c in
    let e : z ≡ to_z w64 (of_z w64 z) = sym (to_z-of_z w64 z (search rules)) in (
      limit (to_z w64 (of_z w64 z)),
      refl,
      subst Small e h.small,
      (
        over_limit _ _ c.args.left.now _ _ (left c.args.self.now.sentence) (left c.constant.new.self) (sym c.if-at_name.ensures)
            (subst (λ (x : ℤ). Constant x c.in_ok-c.field-0-1 (left c.args.self.now.sentence) (left c.constant.new.self)) e h.read),
        refl,
      ),
    )
