use Rattle.std.proofs.Common.{refl, sym}
use Rattle.std.proofs.lemmas.Bool.{false≢true}
use Rattle.reference.specs.contracts.results.AbstractValuePartialEq.TheImpl.{eq-value as value_eq}
use Rattle.reference.specs.contracts.results.IndexFindingPartialEq.TheImpl.{eq-value as finding_eq}
use Rattle.script_trials.proofs.Equal.{value_same, finding_same, same_if, other_if}
use Rattle.script_trials.proofs.comparison.compare.Goals as goal

pub returns-then-ne : goal.returns-then-ne
returns-then-ne c = (λ e. absurd (false≢true (sym e)), λ same. absurd (other_if value_eq.it value_same _ _ _ _ c.ne.result c.ne.ensures c.as_slice.ensures.value c.as_slice-2.ensures.value c.if-ne.true same.values))

pub returns-then-ne-2 : goal.returns-then-ne-2
returns-then-ne-2 c = (λ e. absurd (false≢true (sym e)), λ same. absurd (other_if finding_eq.it finding_same _ _ _ _ c.ne-2.result c.ne-2.ensures c.as_slice-3.ensures.value c.as_slice-4.ensures.value c.if-ne-2.true same.findings))

pub returns : goal.returns
returns c = (
  λ e. record {
    values = same_if value_eq.it value_same _ _ _ _ c.ne.result c.ne.ensures c.as_slice.ensures.value c.as_slice-2.ensures.value c.if-ne.false;
    findings = same_if finding_eq.it finding_same _ _ _ _ c.ne-2.result c.ne-2.ensures c.as_slice-3.ensures.value c.as_slice-4.ensures.value c.if-ne-2.false;
  },
  λ same. refl,
)
