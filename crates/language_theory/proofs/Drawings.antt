-- Points are numbered as made, in the graph of any tree.
use Rattle.std.proofs.Common.{◌≡◌, ℕ, ◌<◌, ◌≤◌, Bool, true, false, cond, eqb, ◌⊎◌, List, [], ◌∷◌, ◌++◌, Some, refl, inl, inr, arith}
use Rattle.lexer.proofs.Told.{no_some}
use Rattle.std.proofs.lemmas.Bool.{cond-true, eq-eqb, cases_lt}
use Rattle.language_theory.specs.Grammar.{Side, Statements, Tree}
use Rattle.language_theory.specs.Grammar.Side.{constant, shifted, negated, any, reading}
use Rattle.language_theory.specs.Grammar.Statements.{done, assign, choose, repeat}
use Rattle.language_theory.specs.Graphs.{Variable, Table, variables, tables, var_number, Drawing, blank_sheet, fresh, back, stand, note, holds, fails, draw_assign, draw, graph, maker, Each}
use Rattle.language_theory.specs.WellFormed.{Made}
use Rattle.language_theory.specs.WellFormed.Made.{none, next, again}
use Rattle.base.specs.declared.Place.{Place}
use Rattle.language_theory.specs.declared.Action.{Action}
use Rattle.language_theory.specs.declared.Action.TheVariants.{Skip}
use Rattle.language_theory.specs.declared.Edge.{Edge}

pub each_snoc : {A : Type 0} (P : A → Type 0) (l : List A) (x : A) → Each P l → P x → Each P (l ++ (x ∷ []))
each_snoc P [] x h p = (p, tt)
each_snoc P (y ∷ l) x h p = (h.0, each_snoc P l x h.1 p)

pub each_map : {A : Type 0} (P Q : A → Type 0) → ((x : A) → P x → Q x) → (l : List A) → Each P l → Each Q l
each_map P Q f [] h = tt
each_map P Q f (y ∷ l) h = (f y h.0, each_map P Q f l h.1)

pub made_some : {es : List Edge} {n : ℕ} → Made es n → 0 < n
made_some none = omega arith
made_some (next e m s t) = omega arith
made_some (again e m s t u) = omega arith

-- a drawing in which points are numbered as made
pub record Plain (d : Drawing) : Type 0 where
  pub made : Made d.edges d.points
  pub stands : d.now < d.points

pub plain_fresh : (a : Action) (p : Place) (d : Drawing) → Plain d → Plain (fresh a p d)
plain_fresh a p d f = record { made = next (record { source = d.now; target = d.points; action = a; place = p }) f.made f.stands refl; stands = omega arith }

pub plain_back : (a : Action) (p : Place) (t : ℕ) (d : Drawing) → 0 < t → t < d.points → Plain d → Plain (back a p t d)
plain_back a p t d z h f = record { made = again (record { source = d.now; target = t; action = a; place = p }) f.made f.stands z h; stands = f.stands }

pub plain_stand : (q : ℕ) (d : Drawing) → q < d.points → Plain d → Plain (stand q d)
plain_stand q d h f = record { made = f.made; stands = h }

module _ (vs : List Variable) (ts : List Table) where
  plain_assign : (p : Place) (k : ℕ) (e : Side) (d : Drawing) → Plain d → Plain (draw_assign vs ts p k e d) × (d.points ≤ (draw_assign vs ts p k e d).points)
  plain_assign p k (constant c) d f = (plain_fresh _ p d f, omega arith)
  plain_assign p k (shifted i c) d f = (plain_fresh _ p d f, omega arith)
  plain_assign p k (negated i) d f = (plain_fresh _ p d f, omega arith)
  plain_assign p k (any s g) d f = (plain_fresh _ p d f, omega arith)
  plain_assign p k (reading t i q) d f = (plain_fresh _ p _ (plain_fresh _ p _ (plain_fresh _ p (note _ d) (record { made = f.made; stands = f.stands }))), omega arith)

  plain_draw : (ss : Statements) (d : Drawing) → Plain d → Plain (draw vs ts ss d) × (d.points ≤ (draw vs ts ss d).points)
  plain_draw done d f = (f, omega arith)
  plain_draw (assign p k e rest) d f =
      let a = plain_assign p (var_number vs ts k) e d f in
      let r = plain_draw rest (draw_assign vs ts p (var_number vs ts k) e d) a.0 in
      (r.0, omega arith)
  plain_draw (choose p c b b₂ rest) d f =
      let d₁ = fresh (holds (var_number vs ts) c) p d in
      let r₁ = plain_draw b d₁ (plain_fresh _ p d f) in
      let first = draw vs ts b d₁ in
      let d₂ = fresh (fails (var_number vs ts) c) p (stand d.now first) in
      let s₁ = f.stands in
      let r₂ = plain_draw b₂ d₂ (plain_fresh _ p _ (plain_stand d.now first (omega arith) r₁.0)) in
      let second = draw vs ts b₂ d₂ in
      let s₂ = r₁.0.stands in
      let s₃ = r₂.0.stands in
      let joined = fresh Skip p (stand first.now second) in
      let j = plain_fresh Skip p (stand first.now second) (plain_stand first.now second (omega arith) r₂.0) in
      let z = made_some r₂.0.made in
      let k = plain_stand joined.now _ (omega arith) (plain_back Skip p joined.now (stand second.now joined) z (omega arith) (plain_stand second.now joined (omega arith) j)) in
      let r = plain_draw rest _ k in
      (r.0, omega arith)
  plain_draw (repeat p c b rest) d f =
      let head = fresh Skip p d in
      let h = plain_fresh Skip p d f in
      let d₁ = fresh (holds (var_number vs ts) c) p head in
      let r₁ = plain_draw b d₁ (plain_fresh _ p head h) in
      let inner = draw vs ts b d₁ in
      let z = made_some f.made in
      let k = plain_fresh _ p _ (plain_stand head.now _ (omega arith) (plain_back Skip p head.now inner z (omega arith) r₁.0)) in
      let r = plain_draw rest _ k in
      (r.0, omega arith)

pub graph_made : (t : Tree) → Made (graph t).edges (graph t).points
graph_made t =
    (plain_draw (variables t.declarations) (tables t.declarations) t.statements blank_sheet (record { made = none; stands = omega arith })).0.made

-- each point but 0 has an edge that made it
maker_kept : (q : ℕ) (es : List Edge) (e : Edge) (p : Place) → maker q es ≡ Some p → maker q (es ++ (e ∷ [])) ≡ Some p
maker_kept q [] e p h = no_some h
maker_kept q (x ∷ es) e p h = go (eqb x.target q) h (maker_kept q es e p)
  where
    go : (b : Bool) → cond b (Some x.place) (maker q es) ≡ Some p → (maker q es ≡ Some p → maker q (es ++ (e ∷ [])) ≡ Some p) → cond b (Some x.place) (maker q (es ++ (e ∷ []))) ≡ Some p
    go true k ih = k
    go false k ih = ih k

maker_last : (q : ℕ) (es : List Edge) (e : Edge) → e.target ≡ q → (p : Place) × (maker q (es ++ (e ∷ [])) ≡ Some p)
maker_last q [] e h = (e.place, cond-true (eqb e.target q) _ _ (eq-eqb e.target q h))
maker_last q (x ∷ es) e h = go (eqb x.target q) (maker_last q es e h)
  where
    go : (b : Bool) → (p : Place) × (maker q (es ++ (e ∷ [])) ≡ Some p) → (p : Place) × (cond b (Some x.place) (maker q (es ++ (e ∷ []))) ≡ Some p)
    go true r = (x.place, refl)
    go false r = r

pub maker_some : {es : List Edge} {n : ℕ} → Made es n → (q : ℕ) → 0 < q → q < n → (p : Place) × (maker q es ≡ Some p)
maker_some none q z h = absurd (omega arith)
maker_some (next {es = es} {n = n} e m s t) q z h = go (cases_lt q n) (maker_some m q z)
  where
    go : (q < n) ⊎ (n ≤ q) → (q < n → (p : Place) × (maker q es ≡ Some p)) → (p : Place) × (maker q (es ++ (e ∷ [])) ≡ Some p)
    go (inl k) ih = let r = ih k in (r.0, maker_kept q es e r.0 r.1)
    go (inr k) ih = maker_last q es e (omega arith)
maker_some (again {es = es} e m s t u) q z h = let r = maker_some m q z h in (r.0, maker_kept q es e r.0 r.1)
