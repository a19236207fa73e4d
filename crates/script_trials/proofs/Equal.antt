-- Comparisons that tell whether two values are one.
use Rattle.std.proofs.Common.{◌≡◌, Bool, true, false, List, refl, sym, ◌∙◌, rules, ap}
use Rattle.std.specs.Prelude.{not}
use Rattle.std.specs.Bool.{Decides}
use Rattle.std.specs.Cmp.Lexicographic.{pointwise}
use Rattle.std.proofs.lemmas.Bool.{false≢true}
use Rattle.std.proofs.lemmas.Bool.Decides.{Decides-eqb, Decides-and, Decides-like}
use Rattle.std.proofs.lemmas.Slice.Eq.{slice_eq-Decides}
use Rattle.reference.specs.declared.extended.Extended.{Extended}
use Rattle.reference.specs.declared.interval.Interval.{Interval}
use Rattle.reference.specs.declared.results.AbstractValue.{AbstractValue}
use Rattle.reference.specs.declared.results.IndexFinding.{IndexFinding}
use Rattle.reference.specs.contracts.extended.ExtendedPartialEq.TheImpl.{eq-value as extended_eq}
use Rattle.reference.specs.contracts.interval.IntervalPartialEq.TheImpl.{eq-value as interval_eq}
use Rattle.reference.specs.contracts.results.AbstractValuePartialEq.TheImpl.{eq-value as value_eq}
use Rattle.reference.specs.contracts.results.IndexFindingPartialEq.TheImpl.{eq-value as finding_eq}

extended_same : (x y : Extended) → Decides (extended_eq.it x y) (x ≡ y)
extended_same x y = search rules

interval_same : (x y : Interval) → Decides (interval_eq.it x y) (x ≡ y)
interval_same x y = search (rules, extended_same)

pub value_same : (x y : AbstractValue) → Decides (value_eq.it x y) (x ≡ y)
value_same x y =
    Decides-like (value_eq.it x y) (λ h i. record { interval = h.0 i; grade = h.1 i })
    (λ e. (ap (λ (v : AbstractValue). v.interval) e, ap (λ (v : AbstractValue). v.grade) e))
    (Decides-and _ _ (interval_same x.interval y.interval) (extended_same x.grade y.grade))

pub finding_same : (x y : IndexFinding) → Decides (finding_eq.it x y) (x ≡ y)
finding_same x y =
    Decides-like (finding_eq.it x y) (λ h i. record { point = h.0 i; place = record { line = h.1.0.0 i; column = h.1.0.1 i }; variable = h.1.1.0 i; interval = h.1.1.1.0 i; size = h.1.1.1.1 i })
    (λ e. (ap (λ (f : IndexFinding). f.point) e, ((ap (λ (f : IndexFinding). f.place.line) e, ap (λ (f : IndexFinding). f.place.column) e), (ap (λ (f : IndexFinding). f.variable) e, (ap (λ (f : IndexFinding). f.interval) e, ap (λ (f : IndexFinding). f.size) e)))))
    (Decides-and _ _ (Decides-eqb x.point y.point) (Decides-and _ _ (Decides-and _ _ (Decides-eqb x.place.line y.place.line) (Decides-eqb x.place.column y.place.column)) (Decides-and _ _ (Decides-eqb x.variable y.variable) (Decides-and _ _ (interval_same x.interval y.interval) (Decides-eqb x.size y.size)))))

module _ {X : Type 0} (eq : X → X → Bool) (decides : (a b : X) → Decides (eq a b) (a ≡ b)) (xs ys zs ws : List X) (other : Bool) (e : other ≡ not (pointwise eq xs ys)) (x : xs ≡ zs) (y : ys ≡ ws) where
  known : Decides (pointwise eq xs ys) (xs ≡ ys)
  known = slice_eq-Decides decides xs ys (pointwise eq xs ys) refl

  pub same_if : other ≡ false → zs ≡ ws
  same_if f = sym x ∙ (known.0 (flip (pointwise eq xs ys) (sym e ∙ f)) ∙ y)
    where
      flip : (b : Bool) → not b ≡ false → b ≡ true
      flip true h = refl
      flip false h = sym h

  pub other_if : other ≡ true → zs ≡ ws → ⊥
  other_if t h = false≢true (sym (ap not (known.1 (x ∙ (h ∙ sym y)))) ∙ (sym e ∙ t))
