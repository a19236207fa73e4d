-- Every run lies inside the intervals of values that hold up, and reads outside a table only where there is a finding.
use Rattle.std.proofs.Common.{◌≡◌, ℕ, true, List, [], ℤ, pos, neg_ℤ, ◌-ℤ◌, int_le, Some, None, Option, sym, refl, arith}
use Rattle.std.proofs.lemmas.Bool.{false≢true}
use Rattle.std.proofs.lemmas.Int.{ints}
use Rattle.kinds.specs.Values.{bounds}
use Rattle.kinds.specs.Laws.{bounds_laws}
use Rattle.kinds.specs.declared.bound.Bound.{Bound}
use Rattle.kinds.specs.declared.bound.Bound.TheVariants.{Least, Whole, Greatest}
use Rattle.books.specs.Books.{at, Solution, HoldsUp}
use Rattle.books.specs.Forms.{constant}
use Rattle.books.proofs.Order.{le_of_eq}
use Rattle.language_theory.specs.Graphs.{Graph, range}
use Rattle.language_theory.specs.declared.Lookup.{Lookup}
use Rattle.language_theory.specs.WellFormed.{WellFormed}
use Rattle.script_equations_theory.specs.Bounds.{upper, lower, variables_of, bound_book}
use Rattle.script_equations_theory.proofs.Lists.{contains_first}
use Rattle.soundness_theory.specs.Runs.{of, size_of, Run, OutsideRead}
use Rattle.soundness_theory.specs.Runs.Run.{begins, goes}
use Rattle.soundness_theory.specs.Intervals.{with_lower, ends, interval, LiesIn, Inside}
use Rattle.soundness_theory.specs.Findings.{finding_at, FindingOf}
use Rattle.soundness_theory.specs.Kept.{Sound}
use Rattle.soundness_theory.specs.declared.Finding.{Finding}
use Rattle.soundness_theory.proofs.Edges.{◌≼◌, trans, negated, Bounded, acts_up, acts_down, acts_long, over_upper, over_lower, edge_upper, edge_lower}

turned : (a b : ℤ) → int_le (neg_ℤ a) b ≡ true → int_le (neg_ℤ b) a ≡ true
turned a b h = grind (arith, ints)

-- a number within two bounds lies in the interval that they make
lies_low : (a : ℤ) (u l : Bound) → Whole a ≼ u → Whole (neg_ℤ a) ≼ l → LiesIn (with_lower u l) a
lies_low a u Least h k = absurd (false≢true k)
lies_low a u (Whole b) h k = (turned a b k, h)
lies_low a u Greatest h k = (refl, h)

lies : (a : ℤ) (u l : Bound) → Whole a ≼ u → Whole (neg_ℤ a) ≼ l → LiesIn (ends u l) a
lies a Least l h k = absurd (false≢true h)
lies a (Whole b) l h k = lies_low a (Whole b) l h k
lies a Greatest l h k = lies_low a Greatest l h k

-- where something lies, there is an interval
there_is : (o : Option (Bound × Bound)) (a : ℤ) → LiesIn o a → (i : Bound × Bound) × (o ≡ Some i) × (i.0 ≼ Whole a) × (Whole a ≼ i.1)
there_is None a h = absurd h
there_is (Some i) a h = (i, refl, h.0, h.1)

module _ (g : Graph) (fits : WellFormed g) (y : List Bound) (hu : HoldsUp bounds (bound_book g) y) where
  -- the values of a run lie within the bounds of its point
  bounded : {p : ℕ} {x : List ℤ} → Run g p x → Bounded (variables_of g) y p x
  bounded (begins {x = x} e w) = record {
    long = e;
    up = λ v h. trans (Whole (of x v)) (Whole (range g v).high) _ (w v h).high (over_upper g fits y hu 0 v fits.first h (constant (Whole (range g v).high)) (contains_first _ []));
    down = λ v h. trans (Whole (neg_ℤ (of x v))) (Whole (neg_ℤ (range g v).low)) _ (negated (range g v).low (of x v) (w v h).low)
        (over_lower g fits y hu 0 v fits.first h (constant (Whole (neg_ℤ (range g v).low))) (contains_first _ []));
  }
  bounded (goes {x = x} {x' = x'} e r i d) =
      let s = bounded r in
      record {
        long = acts_long (variables_of g) y e.source x x' s e.action d;
        up = λ v h. trans (Whole (of x' v)) _ _ (acts_up (variables_of g) y e.source x x' s e.action (fits.edges e i).action d v h) (edge_upper g fits y hu e i v h);
        down = λ v h. trans (Whole (neg_ℤ (of x' v))) _ _ (acts_down (variables_of g) y e.source x x' s e.action (fits.edges e i).action d v h) (edge_lower g fits y hu e i v h);
      }

  pub inside : (p : ℕ) (x : List ℤ) → Run g p x → Inside g y p x
  inside p x r v h = let s = bounded r in lies (of x v) (at bounds y (upper (variables_of g) p v)) (at bounds y (lower (variables_of g) p v)) (s.up v h) (s.down v h)

  pub reads : (l : Lookup) (x : List ℤ) → OutsideRead g l x → (f : Finding) × FindingOf g y l f
  reads l x out =
      let h = (fits.lookups l out.among).index in
      let t = there_is (interval g y l.point l.index) (of x l.index) (inside l.point x out.run l.index h) in (
        finding_at g l t.0,
        record {
          among = out.among;
          i = t.0;
          reached = t.1;
          outside = λ s. out.outside (trans (Whole (pos 0)) t.0.0 (Whole (of x l.index)) s.0 t.2, trans (Whole (of x l.index)) t.0.1 (Whole (pos (size_of g l) -ℤ pos 1)) t.3 s.1);
          is = refl;
        },
      )

  pub sound : Sound g y
  sound = record { inside = inside; reads = reads }

-- a solution holds up
pub solution_holds : (g : Graph) (y : List Bound) → Solution bounds (bound_book g) y → HoldsUp bounds (bound_book g) y
solution_holds g y s = record { long = s.long; under = λ u h. le_of_eq bounds bounds_laws (sym (s.same u h)) }
