-- Each table read of a script makes three points, so there are few reads.
use Rattle.std.proofs.Common.{◌≡◌, ℕ, ◌*◌, ◌<◌, List, ◌∷◌, [], length, refl, subst, arith, length-append}
use Rattle.base.specs.declared.Place.{Place}
use Rattle.language_theory.specs.Grammar.{Side, Statements}
use Rattle.language_theory.specs.Grammar.Side.{constant, shifted, negated, any, reading}
use Rattle.language_theory.specs.Grammar.Statements.{done, assign, choose, repeat}
use Rattle.language_theory.specs.Graphs.{Graph, Variable, Table, Drawing, variables, tables, blank_sheet, fresh, back, stand, holds, fails, var_number, table_number, draw_assign, draw, graph}
use Rattle.language_theory.specs.Names.{Outcome, Verdict}
use Rattle.language_theory.specs.Names.Outcome.{drawn}
use Rattle.language_theory.specs.Names.Verdict.{too_long, by_rule, too_many, fine}
use Rattle.language_theory.specs.declared.Action.TheVariants.{Skip}
use Rattle.language_theory.specs.declared.Lookup.{Lookup}

-- a drawing with three points for each read, and one
abbrev Paid : Drawing → Type 0
Paid d = 3 * length d.lookups < d.points

module _ (vs : List Variable) (ts : List Table) where
  assign_paid : (p : Place) (k : ℕ) (e : Side) (d : Drawing) → Paid d → Paid (draw_assign vs ts p k e d)
  assign_paid p k (constant c) d h = omega arith
  assign_paid p k (shifted i c) d h = omega arith
  assign_paid p k (negated i) d h = omega arith
  assign_paid p k (any s g) d h = omega arith
  assign_paid p k (reading t i q) d h =
      let l : Lookup = record { point = d.now; index = var_number vs ts i; table = table_number vs ts t; place = q } in
      let e = length-append d.lookups (l ∷ []) in
      omega arith

  draw_paid : (b : Statements) (d : Drawing) → Paid d → Paid (draw vs ts b d)
  draw_paid done d h = h
  draw_paid (assign p k e rest) d h = draw_paid rest (draw_assign vs ts p (var_number vs ts k) e d) (assign_paid p (var_number vs ts k) e d h)
  draw_paid (choose p c b b₂ rest) d h =
      let first = draw vs ts b (fresh (holds (var_number vs ts) c) p d) in
      let second = draw vs ts b₂ (fresh (fails (var_number vs ts) c) p (stand d.now first)) in
      let joined = fresh Skip p (stand first.now second) in
      let x : Paid first = draw_paid b (fresh (holds (var_number vs ts) c) p d) (omega arith) in
      let y : Paid second = draw_paid b₂ (fresh (fails (var_number vs ts) c) p (stand d.now first)) (omega arith) in
      draw_paid rest (stand joined.now (back Skip p joined.now (stand second.now joined))) (omega arith)
  draw_paid (repeat p c b rest) d h =
      let head = fresh Skip p d in
      let body = draw vs ts b (fresh (holds (var_number vs ts) c) p head) in
      let x : Paid body = draw_paid b (fresh (holds (var_number vs ts) c) p head) (omega arith) in
      draw_paid rest (fresh (fails (var_number vs ts) c) p (stand head.now (back Skip p head.now body))) (omega arith)

drawn_paid : {bs : List ℕ} {o : Outcome} → Verdict bs o → (g : Graph) → o ≡ drawn g → 3 * length g.lookups < g.points
drawn_paid (too_long h) g e = let z : ◌≡◌ {A = ℕ} 0 1 = cc in absurd (omega arith)
drawn_paid (by_rule l r f) g e = let z : ◌≡◌ {A = ℕ} 0 1 = cc in absurd (omega arith)
drawn_paid (too_many l r f k m) g e = let z : ◌≡◌ {A = ℕ} 0 1 = cc in absurd (omega arith)
drawn_paid (fine {tree = t} l r f k) g e =
    let s : graph t ≡ g = cc in
    subst (λ (x : Graph). 3 * length x.lookups < x.points) s (draw_paid (variables t.declarations) (tables t.declarations) t.statements blank_sheet (omega arith))

pub reads_few : (bs : List ℕ) (g : Graph) → Verdict bs (drawn g) → 3 * length g.lookups < g.points
reads_few bs g v = drawn_paid v g refl
