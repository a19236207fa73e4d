-- At the least solution a point is reached for all variables or for none: with the points taken out whose pairs do not all meet, the values still hold up.
use Rattle.std.proofs.Common.{◌≡◌, ℕ, ◌<◌, Bool, true, false, ◌⊎◌, List, [], Contains, pos, neg_ℤ, ℤ, Some, sym, refl, ap, ◌∙◌, subst, inl, inr, ⊎_elim, arith}
use Rattle.std.proofs.lemmas.Bool.{cases_Bool, false≢true}
use Rattle.std.proofs.lemmas.Int.{ints}
use Rattle.kinds.specs.Values.{added, reaches, bounds}
use Rattle.kinds.specs.Laws.{bounds_laws}
use Rattle.kinds.specs.declared.bound.Bound.{Bound}
use Rattle.kinds.specs.declared.bound.Bound.TheVariants.{Least, Whole, Greatest}
use Rattle.books.specs.Books.{at, worth, Solution, HoldsUp}
use Rattle.books.specs.Forms.{constant, WellAlternative}
use Rattle.books.specs.declared.Alternative.{Alternative}
use Rattle.strategy_theory.specs.Theory.{Below}
use Rattle.language_theory.specs.Graphs.{Graph, range}
use Rattle.language_theory.specs.declared.Edge.{Edge}
use Rattle.language_theory.specs.WellFormed.{EdgeFits, WellFormed}
use Rattle.script_equations_theory.specs.Bounds.{upper, lower, upper_of, lower_of, variables_of, bound_book}
use Rattle.script_equations_theory.proofs.Lists.{contains_first}
use Rattle.script_equations_theory.proofs.Places.{bound_count}
use Rattle.script_equations_theory.proofs.Forms.{upper_fine, lower_fine}
use Rattle.soundness_theory.specs.Intervals.{ends, Stands}
use Rattle.soundness_theory.specs.Questions.{all_below}
use Rattle.soundness_theory.specs.Kept.{Reached, Unreached, Paired}
use Rattle.soundness_theory.proofs.Settling.{all_out, all_in}
use Rattle.soundness_theory.proofs.Meeting.{Meets, meets_higher, range_meets}
use Rattle.soundness_theory.proofs.Passing.{Passes, Blocked, passes, blocked}
use Rattle.soundness_theory.proofs.Outside.{worth_rises, without, without_below, upper_not, lower_not, least_outside}
use Rattle.soundness_theory.proofs.Edges.{◌≼◌, over_upper, over_lower, edge_upper, edge_lower}
use Rattle.soundness_theory.proofs.Sound.{solution_holds}

-- what a pair that meets says of its interval
record Interval (x z : Bound) : Type 0 where
  pub i : Bound × Bound
  pub there : ends x z ≡ Some i
  pub stands : Stands i

interval_of : (x z : Bound) → Meets x z → Interval x z
interval_of Least z h = absurd (false≢true h)
interval_of (Whole a) Least h = absurd (false≢true h)
interval_of (Whole a) (Whole b) h = record { i = (Whole (neg_ℤ b), Whole a); there = refl; stands = record { rises = grind (arith, ints); low = λ e. cc; high = λ e. cc } }
interval_of (Whole a) Greatest h = record { i = (Least, Whole a); there = refl; stands = record { rises = refl; low = λ e. cc; high = λ e. cc } }
interval_of Greatest Least h = absurd (false≢true h)
interval_of Greatest (Whole b) h = record { i = (Whole (neg_ℤ b), Greatest); there = refl; stands = record { rises = refl; low = λ e. cc; high = λ e. cc } }
interval_of Greatest Greatest h = record { i = (Least, Greatest); there = refl; stands = record { rises = refl; low = λ e. cc; high = λ e. cc } }

sum_meets : (s : Bound) → reaches s (Whole (pos 0)) ≡ true → Whole (pos 0) ≼ s
sum_meets Least h = h
sum_meets (Whole a) h = h
sum_meets Greatest h = h

module _ (g : Graph) (y : List Bound) where
  abbrev meets : ℕ → ℕ → Bool
  meets p v = reaches (added (at bounds y (upper (variables_of g) p v)) (at bounds y (lower (variables_of g) p v))) (Whole (pos 0))

  -- whether all pairs at p meet
  abbrev good : ℕ → Bool
  good p = all_below (meets p) (variables_of g)

  reached_at : (p v : ℕ) → meets p v ≡ true → Reached g y p v
  reached_at p v h =
      let r = interval_of (at bounds y (upper (variables_of g) p v)) (at bounds y (lower (variables_of g) p v)) h in
      record { i = r.i; there = r.there; stands = r.stands; sum = sum_meets (added (at bounds y (upper (variables_of g) p v)) (at bounds y (lower (variables_of g) p v))) h }

  module _ (fits : WellFormed g) (sol : Solution bounds (bound_book g) y) where
    up : HoldsUp bounds (bound_book g) y
    up = solution_holds g y sol

    -- point 0 is good
    first_good : good 0 ≡ true
    first_good = all_in (meets 0) (variables_of g) (λ v h.
        meets_higher (Whole (range g v).high) (Whole (neg_ℤ (range g v).low)) _ _
        (over_upper g fits y up 0 v fits.first h (constant (Whole (range g v).high)) (contains_first (constant (Whole (range g v).high)) []))
        (over_lower g fits y up 0 v fits.first h (constant (Whole (neg_ℤ (range g v).low))) (contains_first (constant (Whole (neg_ℤ (range g v).low))) []))
        (range_meets (range g v).low (range g v).high (fits.ranges v h).rises))

    -- an edge to a point that is not good carries nothing
    module _ (e : Edge) (i : Contains g.edges e) (f : good e.target ≡ false) where
      fit : EdgeFits g e
      fit = fits.edges e i

      -- all pairs would meet at its target
      never : Passes (variables_of g) y e.source e.action → ⊥
      never h = false≢true (sym f ∙ all_in (meets e.target) (variables_of g) (λ v hv.
          meets_higher (worth bounds y (upper_of (variables_of g) e.source v e.action)) (worth bounds y (lower_of (variables_of g) e.source v e.action)) _ _
          (edge_upper g fits y up e i v hv) (edge_lower g fits y up e i v hv) (h v hv)))

      still : Blocked (variables_of g) y e.source e.action → Blocked (variables_of g) (without g good y) e.source e.action
      still h v hv = (
        low (upper_of (variables_of g) e.source v e.action) (upper_fine g e.source v fit.source hv e.action fit.action) (h v hv).0,
        low (lower_of (variables_of g) e.source v e.action) (lower_fine g e.source v fit.source hv e.action fit.action) (h v hv).1,
      )
        where
          low : (a : Alternative Bound ℤ) → WellAlternative bounds (bound_count g) a → worth bounds y a ≡ Least → worth bounds (without g good y) a ≡ Least
          low a w l = bounds_laws.antisymmetric (worth bounds (without g good y) a) Least
              (subst (λ (z : Bound). worth bounds (without g good y) a ≼ z) l (worth_rises (without g good y) y (without_below g good y) (bound_count g) a w)) refl

      carries : Blocked (variables_of g) (without g good y) e.source e.action
      carries = ⊎_elim
          (λ (h : good e.source ≡ true). ⊎_elim (λ p. absurd (never p)) still (passes (variables_of g) y e.source (λ v hv. all_out (meets e.source) (variables_of g) h v hv) e.action fit.action))
          (λ (h : good e.source ≡ false). blocked (variables_of g) (without g good y) e.source
          (λ v hv. upper_not g good y e.source v fit.source hv h) (λ v hv. lower_not g good y e.source v fit.source hv h) e.action fit.action)
          (cases_Bool (good e.source))

    module _ (least : (z : List Bound) → HoldsUp bounds (bound_book g) z → Below bounds y z) (p : ℕ) (hp : p < g.points) where
      unreached_at : good p ≡ false → (v : ℕ) → v < variables_of g → Unreached g y p v
      unreached_at f v h =
          let a = least_outside g good y fits first_good carries up least p v hp h f in
          record { absent = ap (λ (b : Bound). ends b (at bounds y (lower (variables_of g) p v))) a.0; high = a.0; low = a.1 }

      paired_at : ((v : ℕ) → v < variables_of g → Reached g y p v) ⊎ ((v : ℕ) → v < variables_of g → Unreached g y p v)
      paired_at = ⊎_elim
          (λ (e : good p ≡ true). inl (λ v h. reached_at p v (all_out (meets p) (variables_of g) e v h)))
          (λ (e : good p ≡ false). inr (unreached_at e)) (cases_Bool (good p))

pub paired : (g : Graph) → WellFormed g → (y : List Bound) → Solution bounds (bound_book g) y → ((z : List Bound) → HoldsUp bounds (bound_book g) z → Below bounds y z) → Paired g y
paired g fits y sol least p hp = paired_at g y fits sol least p hp
