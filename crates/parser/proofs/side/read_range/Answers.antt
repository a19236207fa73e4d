use Rattle.std.proofs.Common.{ℤ, Bool, ◌≡◌, [], ◌∷◌, ◌∙◌, subst, arith, w64, to_z, of_z}
use lib.Signed.{lt_z}
use borrow.Author.Differences.{ints}
use Rattle.base.specs.declared.Reason.TheVariants.{RangeFalls}
use Rattle.language_theory.specs.declared.Range.{Range}
use Rattle.language_theory.specs.Expected.Expect.{span}
use Rattle.language_theory.specs.Readings.{Over, Quiet, is_span}
use Rattle.language_theory.proofs.Steps.{span_const}
use Rattle.language_theory.proofs.Numbers.{span_first, span_second, span_falls, span_over}
use Rattle.language_theory.proofs.Turning.{turns, turns_at}
use Rattle.language_theory.specs.Expected.{one}
use Rattle.language_theory.specs.Expected.Expect.{const}
use Rattle.lexer.specs.declared.Mark.TheVariants.{Dots}
use Rattle.parser.specs.Models.{left}
use Rattle.parser.proofs.Exits.{handed_on}
use Rattle.parser.proofs.side.read_range.Goals as goal

-- the code compares the numbers as they lie in their words
compared : {a b a₂ b₂ : ℤ} {t : Bool} → a ≡ a₂ → b ≡ b₂ → lt_z a₂ b₂ ≡ t → lt_z a b ≡ t
compared e f h = (λ i. lt_z (e i) (f i)) ∙ h

pub returns-in_err-low : goal.returns-in_err-low
returns-in_err-low c =
    handed_on _ _ c.from_residual.result _ c.from_residual.ensures.1
    (turns (λ h k past y. span_const k past (left c.args.s.now) ∙ h (one Dots ∷ const ∷ k) past tt) c.in_err-low.ensures.read)

pub returns-in_err-mark : goal.returns-in_err-mark
returns-in_err-mark c =
    handed_on _ _ c.from_residual-in_err-mark.result _ c.from_residual-in_err-mark.ensures.1
    (turns (λ h k past y. span_first c.in_ok-low.ensures.read k past y ∙ h (const ∷ k) _ tt) c.in_err-mark.ensures)

pub returns-in_err-high : goal.returns-in_err-high
returns-in_err-high c =
    handed_on _ _ c.from_residual-in_err-high.result _ c.from_residual-in_err-high.ensures.1
    (turns (λ h k past y. span_second c.in_ok-low.ensures.read c.in_ok-mark.ensures k past y ∙ h k _ tt) c.in_err-high.ensures.read)

pub returns-then-high-low : goal.returns-then-high-low
returns-then-high-low c =
    let low = c.in_ok-low.low in
    let high = c.in_ok-high.high in
    let a : low ≡ to_z w64 (of_z w64 low) = omega (arith, ints) in
    let b : high ≡ to_z w64 (of_z w64 high) = omega (arith, ints) in
    turns_at (span ∷ []) Quiet _ _ RangeFalls _ c.at.ensures
    (span_falls c.in_ok-low.ensures.read c.in_ok-mark.ensures c.in_ok-high.ensures.read (compared b a c.if-high-low.true))

pub returns : goal.returns
returns c =
    let low = c.in_ok-low.low in
    let high = c.in_ok-high.high in
    let a : low ≡ to_z w64 (of_z w64 low) = omega (arith, ints) in
    let b : high ≡ to_z w64 (of_z w64 high) = omega (arith, ints) in
    subst (λ (g : Range). Over (span ∷ []) Quiet (is_span g) (left c.args.s.now) (left c.constant-2.new.self)) (λ i. record { low = a i; high = b i })
    (span_over c.in_ok-low.ensures.read c.in_ok-mark.ensures c.in_ok-high.ensures.read (compared b a c.if-high-low.false))
