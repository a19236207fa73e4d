-- At most two edges lead to a point of a graph that is drawn.
use Rattle.std.proofs.Common.{◌≡◌, ℕ, ◌+◌, ◌<◌, ◌≤◌, eqb, ◌⊎◌, List, [], ◌∷◌, ◌++◌, length, inl, inr, refl, ap, ◌∙◌, arith, length-append}
use Rattle.std.proofs.lemmas.Bool.{cases_lt, cond-true, cond-false, eq-eqb, ne_eqb, cases_eq}
use Rattle.std.proofs.lemmas.List.Elements.{filter-append}
use Rattle.language_theory.specs.Grammar.{Side, Statements, Tree}
use Rattle.language_theory.specs.Grammar.Side.{constant, shifted, negated, any, reading}
use Rattle.language_theory.specs.Grammar.Statements.{done, assign, choose, repeat}
use Rattle.language_theory.specs.Graphs.{Variable, Table, variables, tables, var_number, Drawing, blank_sheet, fresh, back, stand, holds, fails, draw_assign, draw, graph, incoming}
use Rattle.base.specs.declared.Place.{Place}
use Rattle.language_theory.specs.declared.Action.{Action}
use Rattle.language_theory.specs.declared.Action.TheVariants.{Skip}
use Rattle.language_theory.specs.declared.Edge.{Edge}

-- how many edges lead to a point
abbrev count : ℕ → List Edge → ℕ
count p es = length (incoming p es)

count_append : (p : ℕ) (es : List Edge) (e : Edge) → count p (es ++ (e ∷ [])) ≡ count p es + count p (e ∷ [])
count_append p es e = ap length (filter-append (λ (x : Edge). eqb x.target p) es (e ∷ [])) ∙ length-append (incoming p es) (incoming p (e ∷ []))

-- with one more edge, to the point or to another
count_to : (p : ℕ) (es : List Edge) (e : Edge) → e.target ≡ p → count p (es ++ (e ∷ [])) ≡ count p es + 1
count_to p es e h = count_append p es e ∙ ap (λ (z : List Edge). count p es + length z) (cond-true (eqb e.target p) (e ∷ []) [] (eq-eqb e.target p h))

count_past : (p : ℕ) (es : List Edge) (e : Edge) → (e.target ≡ p → ⊥) → count p (es ++ (e ∷ [])) ≡ count p es
count_past p es e h =
    let k = count_append p es e ∙ ap (λ (z : List Edge). count p es + length z) (cond-false (eqb e.target p) (e ∷ []) [] (ne_eqb e.target p h)) in omega arith

-- no edge leads to a point that is not made
abbrev Unreached : Drawing → Type 0
Unreached d = (p : ℕ) → d.points ≤ p → count p d.edges ≡ 0

-- from a drawing to a later one: nothing new leads to the points that were there, at most two edges to each new one
record Grows (n : ℕ) (es : List Edge) (d : Drawing) : Type 0 where
  more : n ≤ d.points
  old : (p : ℕ) → p < n → count p d.edges ≡ count p es
  few : (p : ℕ) → n ≤ p → count p d.edges ≤ 2
  unreached : Unreached d

grows_none : (d : Drawing) → Unreached d → Grows d.points d.edges d
grows_none d u = record { more = omega arith; old = λ p h. refl; few = λ p h. let k = u p h in omega arith; unreached = u }

grows_on : {n : ℕ} {es : List Edge} {d d₂ : Drawing} → Grows n es d → Grows d.points d.edges d₂ → Grows n es d₂
grows_on {n} {es} {d} {d₂} a b =
    let more₁ = a.more in let more₂ = b.more in
    record {
      more = omega arith;
      old = λ p h. b.old p (omega arith) ∙ a.old p h;
      few = λ p h. go p h (cases_lt p d.points);
      unreached = b.unreached;
    }
  where
    go : (p : ℕ) → n ≤ p → (p < d.points) ⊎ (d.points ≤ p) → count p d₂.edges ≤ 2
    go p h (inl k) = let e = b.old p k in let f = a.few p h in omega arith
    go p h (inr k) = b.few p k

grows_stand : {n : ℕ} {es : List Edge} {d : Drawing} (q : ℕ) → Grows n es d → Grows n es (stand q d)
grows_stand q g = record { more = g.more; old = g.old; few = g.few; unreached = g.unreached }

grows_fresh : {n : ℕ} {es : List Edge} {d : Drawing} (a : Action) (p : Place) → Grows n es d → Grows n es (fresh a p d)
grows_fresh {n} {es} {d} a p g =
    let more = g.more in
    record {
      more = omega arith;
      old = λ q h. count_past q d.edges e (λ k. omega arith) ∙ g.old q h;
      few = λ q h. go q h (cases_eq d.points q);
      unreached = λ q h. let k = g.unreached q (omega arith) in count_past q d.edges e (λ f. omega arith) ∙ k;
    }
  where
    e : Edge
    e = record { source = d.now; target = d.points; action = a; place = p }

    go : (q : ℕ) → n ≤ q → (d.points ≡ q) ⊎ (d.points ≡ q → ⊥) → count q (d.edges ++ (e ∷ [])) ≤ 2
    go q h (inl k) = let u = g.unreached q (omega arith) in let c = count_to q d.edges e k in omega arith
    go q h (inr k) = let c = count_past q d.edges e k in let f = g.few q h in omega arith

-- one edge leads to a fresh point
fresh_one : (a : Action) (p : Place) (d : Drawing) → Unreached d → count d.points (fresh a p d).edges ≡ 1
fresh_one a p d u =
    let c = count_to d.points d.edges (record { source = d.now; target = d.points; action = a; place = p }) refl in
    let k = u d.points (omega arith) in omega arith

-- a second edge to a new point
grows_back : {n : ℕ} {es : List Edge} {d : Drawing} (a : Action) (p : Place) (t : ℕ) → n ≤ t → t < d.points → count t d.edges ≡ 1 → Grows n es d → Grows n es (back a p t d)
grows_back {n} {es} {d} a p t h k one g =
    record {
      more = g.more;
      old = λ q l. count_past q d.edges e (λ f. omega arith) ∙ g.old q l;
      few = λ q l. go q l (cases_eq t q);
      unreached = λ q l. count_past q d.edges e (λ f. omega arith) ∙ g.unreached q l;
    }
  where
    e : Edge
    e = record { source = d.now; target = t; action = a; place = p }

    go : (q : ℕ) → n ≤ q → (t ≡ q) ⊎ (t ≡ q → ⊥) → count q (d.edges ++ (e ∷ [])) ≤ 2
    go q l (inl f) = let c = count_to q d.edges e f in let o = ap (λ (z : ℕ). count z d.edges) f in omega arith
    go q l (inr f) = let c = count_past q d.edges e f in let o = g.few q l in omega arith

module _ (vs : List Variable) (ts : List Table) where
  grows_assign : {n : ℕ} {es : List Edge} (p : Place) (k : ℕ) (e : Side) (d : Drawing) → Grows n es d → Grows n es (draw_assign vs ts p k e d)
  grows_assign p k (constant c) d g = grows_fresh _ p g
  grows_assign p k (shifted i c) d g = grows_fresh _ p g
  grows_assign p k (negated i) d g = grows_fresh _ p g
  grows_assign p k (any s r) d g = grows_fresh _ p g
  grows_assign p k (reading t i q) d g = grows_fresh _ p (grows_fresh _ p (grows_fresh _ p (record { more = g.more; old = g.old; few = g.few; unreached = g.unreached })))

  grows_draw : (ss : Statements) {n : ℕ} {es : List Edge} (d : Drawing) → Grows n es d → Grows n es (draw vs ts ss d)
  grows_draw done d g = g
  grows_draw (assign p k e rest) d g = grows_draw rest (draw_assign vs ts p (var_number vs ts k) e d) (grows_assign p (var_number vs ts k) e d g)
  grows_draw (choose p c b b₂ rest) d g =
      let d₁ = fresh (holds (var_number vs ts) c) p d in
      let first = draw vs ts b d₁ in
      let d₂ = fresh (fails (var_number vs ts) c) p (stand d.now first) in
      let second = draw vs ts b₂ d₂ in
      let from = stand first.now second in
      let joined = fresh Skip p from in
      let g₁ = grows_draw b d₁ (grows_fresh _ p g) in
      let g₂ = grows_draw b₂ d₂ (grows_fresh _ p (grows_stand d.now g₁)) in
      let g₃ = grows_fresh Skip p (grows_stand first.now g₂) in
      let one = fresh_one Skip p from g₂.unreached in
      let last = stand joined.now (back Skip p joined.now (stand second.now joined)) in
      grows_draw rest last (grows_stand joined.now (grows_back Skip p joined.now g₂.more (omega arith) one (grows_stand second.now g₃)))
  grows_draw (repeat p c b rest) d g =
      let head = fresh Skip p d in
      let d₁ = fresh (holds (var_number vs ts) c) p head in
      let inner = draw vs ts b d₁ in
      let g₁ = grows_fresh Skip p g in
      let g₂ = grows_fresh (holds (var_number vs ts) c) p g₁ in
      let g₃ = grows_draw b d₁ (grows_none d₁ g₂.unreached) in
      let more = g₃.more in
      let one = fresh_one Skip p d g.unreached in
      let past = count_past head.now head.edges (record { source = head.now; target = head.points; action = holds (var_number vs ts) c; place = p }) (λ f. omega arith) in
      let same = g₃.old head.now (omega arith) in
      let back₁ = grows_back Skip p head.now g.more (omega arith) (same ∙ past ∙ one) (grows_on g₂ g₃) in
      let leave = fails (var_number vs ts) c in
      let last = fresh leave p (stand head.now (back Skip p head.now inner)) in
      grows_draw rest last (grows_fresh leave p (grows_stand head.now back₁))

pub few_joins : (t : Tree) (p : ℕ) → length (incoming p (graph t).edges) ≤ 2
few_joins t p = go (cases_lt p 1)
  where
    g : Grows 1 [] (draw (variables t.declarations) (tables t.declarations) t.statements blank_sheet)
    g = grows_draw (variables t.declarations) (tables t.declarations) t.statements blank_sheet (grows_none blank_sheet (λ q h. refl))

    go : (p < 1) ⊎ (1 ≤ p) → count p (graph t).edges ≤ 2
    go (inl h) = let e = g.old p h in omega arith
    go (inr h) = g.few p h
