use Rattle.std.proofs.Common.{Bool, true, false, leb, [], ◌∷◌, sym, subst, ◌≡◌, rules}
use Rattle.base.specs.declared.Reason.TheVariants.{DeclaredBefore, TooManyNames}
use Rattle.language_theory.specs.Expected.Expect.{just}
use Rattle.language_theory.specs.Expected.Terminal.{any_name}
use Rattle.language_theory.specs.Readings.{New}
use Rattle.language_theory.proofs.Turning.{turns, turns_at}
use Rattle.language_theory.proofs.Heads.{new_decides}
use Rattle.parser.specs.Models.{vars_of, tabs_of}
use Rattle.parser.proofs.Exits.{handed_on}
use Rattle.parser.proofs.script.Script.read_new_name.Goals as goal

pub returns-in_err-name : goal.returns-in_err-name
returns-in_err-name c =
    handed_on _ _ c.from_residual.result _ c.from_residual.ensures.1 (turns (λ h k past y. h k past tt) c.in_err-name.ensures)

pub returns-then-has : goal.returns-then-has
returns-then-has c =
    let full = leb 8 c.args.count in
    turns_at (just any_name ∷ []) (New _ _ full) _ _ DeclaredBefore _ c.at.ensures
    (new_decides _ _ true full _ _ _ _ c.in_ok-name.ensures (sym c.if-has.ensures))

pub returns-then-count-ge-MOST_NAMES : goal.returns-then-count-ge-MOST_NAMES
returns-then-count-ge-MOST_NAMES c =
    let n = c.args.self.now.names in
    let e : leb 8 c.args.count ≡ true = search rules in
    turns_at (just any_name ∷ []) (New _ _ (leb 8 c.args.count)) _ _ TooManyNames _ c.at-then-count-ge-MOST_NAMES.ensures
    (λ k past y. new_decides _ _ false true _ _ _ _ c.in_ok-name.ensures (sym c.if-has.ensures) k past
    (subst (λ (b : Bool). New (vars_of n) (tabs_of n) b past) e y))
