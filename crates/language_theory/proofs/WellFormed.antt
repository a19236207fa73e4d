-- The graph of a tree with constants as they are written is in bounds where names are declared, and well formed where the tree
-- keeps the rules.
use Rattle.std.proofs.Common.{◌≡◌, ℕ, zero, suc, ◌+◌, ◌-◌, ◌<◌, ◌≤◌, true, false, ltb, List, [], ◌∷◌, ◌++◌, length, get_or, ℤ, pos, negsuc, ◌+ℤ◌, ◌-ℤ◌, sym, refl, subst, arith, length-append}
use lib.IntN.{sub_ℕ}
use Rattle.std.specs.Prelude.{int_lt, int_le}
use Rattle.std.specs.List.{Contains}
use Rattle.std.proofs.Math.Bridge.{le_prop}
use Rattle.std.proofs.lemmas.Bool.{false≢true, cond_both, ltb-true, ltb-false, le-leb, le-ltb}
use mathlib.Core.Bool.{Bool-set}
use Rattle.language_theory.specs.Grammar.{Declaration, Side, Order, Operand, Condition, Statements, Tree}
use Rattle.language_theory.specs.Grammar.Declaration.{variable, table}
use Rattle.language_theory.specs.Grammar.Side.{constant, shifted, negated, any, reading}
use Rattle.language_theory.specs.Grammar.Order.{below, at_most, above, at_least}
use Rattle.language_theory.specs.Grammar.Operand.{against, limit}
use Rattle.language_theory.specs.Grammar.Condition.{compares}
use Rattle.language_theory.specs.Grammar.Statements.{done, assign, choose, repeat}
use Rattle.language_theory.specs.Graphs.{Graph, Variable, Table, variables, tables, var_names, table_names, var_number, table_number, table_at, no_table, no_variable, range, only, Drawing, blank_sheet, fresh, back, stand, note, guard, opposite, holds, fails, draw_assign, draw, graph, Each, size, Within, Among, NamedOperand, NamedCondition, NamedSide, Named, Declared, SmallOperand, SmallCondition, SmallSide, Small, SmallHeads, SmallTree}
use Rattle.language_theory.specs.Rules.{Rises, HeadsKeep, SideKeeps, OperandKeeps, ConditionKeeps, BodyKeeps, Keeps}
use Rattle.language_theory.specs.WellFormed.{Made, ConstantFits, RangeFits, ValueFits, GuardFits, ActionFits, WellFormed, GuardInBounds, ActionInBounds, InBounds}
use Rattle.language_theory.specs.WellFormed.Made.{none, next, again}
use Rattle.language_theory.proofs.Drawings.{each_snoc, each_map, made_some, Plain, plain_fresh, plain_back, plain_stand}
use Rattle.language_theory.proofs.Names.{number_below, length_vars, length_tables, apart}
use Rattle.language_theory.proofs.Joins.{few_joins}
use Rattle.base.specs.declared.Place.{Place}
use Rattle.language_theory.specs.declared.Range.{Range}
use Rattle.language_theory.specs.declared.Source.TheVariants.{Written}
use Rattle.language_theory.specs.declared.Value.{Value}
use Rattle.language_theory.specs.declared.Value.TheVariants.{AnyOf, TableEntry, Sum, Negation}
use Rattle.language_theory.specs.declared.Guard.{Guard}
use Rattle.language_theory.specs.declared.Guard.TheVariants.{AtMost, AtLeast, Difference}
use Rattle.language_theory.specs.declared.Action.{Action}
use Rattle.language_theory.specs.declared.Action.TheVariants.{Skip, Assign, Assume}
use Rattle.language_theory.specs.declared.Edge.{Edge}
use Rattle.language_theory.specs.declared.Lookup.{Lookup}

-- Constants and ranges.
sub_size : (a b m : ℕ) → a ≤ m → b ≤ m → size (sub_ℕ a b) ≤ m
sub_size a b m h k = cond_both (ltb a b) (negsuc (b - suc a)) (pos (a - b)) (λ (z : ℤ). size z ≤ m) (λ e. let l = ltb-true a b e in omega arith) (λ e. omega arith)

less_size : (c : ℤ) → size c ≤ 2147483647 → ConstantFits (c -ℤ pos 1)
less_size (pos zero) h = omega arith
less_size (pos (suc n)) h = sub_size (suc n) 1 2147483648 (omega arith) (omega arith)
less_size (negsuc n) h = omega arith

more_size : (c : ℤ) → size c ≤ 2147483647 → ConstantFits (c +ℤ pos 1)
more_size (pos n) h = omega arith
more_size (negsuc n) h = sub_size 1 (suc n) 2147483648 (omega arith) (omega arith)

not_less : (a b : ℤ) → int_lt b a ≡ false → int_le a b ≡ true
not_less (pos a) (pos b) h = le-leb a b (ltb-false b a h)
not_less (pos a) (negsuc b) h = absurd (false≢true (sym h))
not_less (negsuc a) (pos b) h = refl
not_less (negsuc a) (negsuc b) h = le-leb b a (ltb-false a b h)

range_fits : (r : Range) → Within 2147483647 r → Rises r → RangeFits r
range_fits r w h = record { rises = not_less r.low r.high h; low = omega arith; high = omega arith }

wider : (r : Range) → Within 2147483647 r → Within 2147483648 r
wider r w = (omega arith, omega arith)

only_rises : (c : ℤ) → Rises (only c)
only_rises (pos n) = le-ltb n n (omega arith)
only_rises (negsuc n) = le-ltb n n (omega arith)

-- a drawing in which all is made and named, and P holds of each action
record Fair (V T : ℕ) (P : Action → Type 0) (d : Drawing) : Type 0 where
  plain : Plain d
  actions : Each (λ (e : Edge). P e.action) d.edges
  looks : Each (λ (l : Lookup). (l.point < d.points) × (l.index < V) × (l.table < T)) d.lookups

module _ (vs : List Variable) (ts : List Table) where
  abbrev num : List ℕ → ℕ
  num n = var_number vs ts n

  var_below : (n : List ℕ) → Among n (var_names vs) → num n < length vs
  var_below n h = let k = number_below n (var_names vs) h in let e = length_vars vs in omega arith

  table_below : (n : List ℕ) → Among n (table_names ts) → table_number vs ts n < length ts
  table_below n h = let k = number_below n (table_names ts) h in let e = length_tables ts in omega arith

  -- P holds of each action that is drawn of a right side, of a condition, of statements
  module _ (P : Action → Type 0) where
    abbrev Sets : List ℕ → Side → Type 0
    Sets k (constant c) = P (Assign (num k) (AnyOf (only c) Written))
    Sets k (shifted i c) = P (Assign (num k) (Sum (num i) c))
    Sets k (negated i) = P (Assign (num k) (Negation (num i)))
    Sets k (any s g) = P (Assign (num k) (AnyOf g s))
    Sets k (reading t i q) =
        (num i < length vs) × (table_number vs ts t < length ts) × P (Assume (AtLeast (num i) (pos 0))) × P (Assume (AtMost (num i) (pos (table_at vs ts t).size -ℤ pos 1))) ×
        P (Assign (num k) (TableEntry (num i) (table_at vs ts t).range))

    abbrev Tests : Condition → Type 0
    Tests c = P (holds num c) × P (fails num c)

    abbrev Draws : Statements → Type 0
    Draws done = Unit {0}
    Draws (assign p k e rest) = Sets k e × Draws rest
    Draws (choose p c b b₂ rest) = Tests c × Draws b × Draws b₂ × Draws rest
    Draws (repeat p c b rest) = Tests c × Draws b × Draws rest

    abbrev F : Drawing → Type 0
    F d = Fair (length vs) (length ts) P d

    fair_fresh : (a : Action) (p : Place) (d : Drawing) → P a → F d → F (fresh a p d)
    fair_fresh a p d b f = record {
      plain = plain_fresh a p d f.plain;
      actions = each_snoc (λ (e : Edge). P e.action) d.edges _ f.actions b;
      looks = each_map _ (λ (l : Lookup). (l.point < suc d.points) × (l.index < length vs) × (l.table < length ts)) (λ l h. (omega arith, h.1, h.2)) d.lookups f.looks;
    }

    fair_back : (p : Place) (t : ℕ) (d : Drawing) → P Skip → 0 < t → t < d.points → F d → F (back Skip p t d)
    fair_back p t d b z h f = record {
      plain = plain_back Skip p t d z h f.plain;
      actions = each_snoc (λ (e : Edge). P e.action) d.edges _ f.actions b;
      looks = f.looks;
    }

    fair_stand : (q : ℕ) (d : Drawing) → q < d.points → F d → F (stand q d)
    fair_stand q d h f = record { plain = plain_stand q d h f.plain; actions = f.actions; looks = f.looks }

    fair_note : (l : Lookup) (d : Drawing) → (l.point < d.points) × (l.index < length vs) × (l.table < length ts) → F d → F (note l d)
    fair_note l d h f = record {
      plain = record { made = f.plain.made; stands = f.plain.stands };
      actions = f.actions;
      looks = each_snoc (λ (x : Lookup). (x.point < d.points) × (x.index < length vs) × (x.table < length ts)) d.lookups l f.looks h;
    }

    fair_assign : (p : Place) (k : List ℕ) (e : Side) (d : Drawing) → Sets k e → F d → F (draw_assign vs ts p (num k) e d) × (d.points ≤ (draw_assign vs ts p (num k) e d).points)
    fair_assign p k (constant c) d s f = (fair_fresh _ p d s f, omega arith)
    fair_assign p k (shifted i c) d s f = (fair_fresh _ p d s f, omega arith)
    fair_assign p k (negated i) d s f = (fair_fresh _ p d s f, omega arith)
    fair_assign p k (any o g) d s f = (fair_fresh _ p d s f, omega arith)
    fair_assign p k (reading t i q) d s f = (fair_fresh _ p _ s.4 (fair_fresh _ p _ s.3 (fair_fresh _ p _ s.2 (fair_note _ d (f.plain.stands, s.0, s.1) f))), omega arith)

    fair_draw : P Skip → (ss : Statements) → Draws ss → (d : Drawing) → F d → F (draw vs ts ss d) × (d.points ≤ (draw vs ts ss d).points)
    fair_draw skip done s d f = (f, omega arith)
    fair_draw skip (assign p k e rest) s d f =
        let a = fair_assign p k e d s.0 f in
        let r = fair_draw skip rest s.1 (draw_assign vs ts p (num k) e d) a.0 in
        (r.0, omega arith)
    fair_draw skip (choose p c b b₂ rest) s d f =
        let g = s.0 in
        let d₁ = fresh (holds num c) p d in
        let r₁ = fair_draw skip b s.1 d₁ (fair_fresh _ p d g.0 f) in
        let first = draw vs ts b d₁ in
        let d₂ = fresh (fails num c) p (stand d.now first) in
        let s₁ = f.plain.stands in
        let r₂ = fair_draw skip b₂ s.2 d₂ (fair_fresh _ p _ g.1 (fair_stand d.now first (omega arith) r₁.0)) in
        let second = draw vs ts b₂ d₂ in
        let s₂ = r₁.0.plain.stands in
        let s₃ = r₂.0.plain.stands in
        let joined = fresh Skip p (stand first.now second) in
        let j = fair_fresh Skip p (stand first.now second) skip (fair_stand first.now second (omega arith) r₂.0) in
        let z = made_some r₂.0.plain.made in
        let k = fair_stand joined.now _ (omega arith) (fair_back p joined.now (stand second.now joined) skip z (omega arith) (fair_stand second.now joined (omega arith) j)) in
        let r = fair_draw skip rest s.3 _ k in
        (r.0, omega arith)
    fair_draw skip (repeat p c b rest) s d f =
        let g = s.0 in
        let head = fresh Skip p d in
        let h = fair_fresh Skip p d skip f in
        let d₁ = fresh (holds num c) p head in
        let r₁ = fair_draw skip b s.1 d₁ (fair_fresh _ p head g.0 h) in
        let inner = draw vs ts b d₁ in
        let z = made_some f.plain.made in
        let k = fair_fresh _ p _ g.1 (fair_stand head.now _ (omega arith) (fair_back p head.now inner skip z (omega arith) r₁.0)) in
        let r = fair_draw skip rest s.2 _ k in
        (r.0, omega arith)

    -- from the first point on
    fair_all : P Skip → (ss : Statements) → Draws ss → F (draw vs ts ss blank_sheet)
    fair_all skip ss s = (fair_draw skip ss s blank_sheet (record { plain = record { made = none; stands = omega arith }; actions = tt; looks = tt })).0

  -- the two names of a condition differ, so their numbers do
  guard_fits : (i : List ℕ) (o : Order) (v : Operand) → Among i (var_names vs) → OperandKeeps (var_names vs) i v → SmallOperand v → GuardFits (length vs) (guard (num i) o v num)
  guard_fits i below (limit c) a k s = (var_below i a, less_size c s)
  guard_fits i at_most (limit c) a k s = (var_below i a, omega arith)
  guard_fits i above (limit c) a k s = (var_below i a, more_size c s)
  guard_fits i at_least (limit c) a k s = (var_below i a, omega arith)
  guard_fits i below (against n) a k s = (var_below i a, var_below n k.0, λ e. apart (var_names vs) n i k.0 a k.1 (sym e), omega arith)
  guard_fits i at_most (against n) a k s = (var_below i a, var_below n k.0, λ e. apart (var_names vs) n i k.0 a k.1 (sym e), omega arith)
  guard_fits i above (against n) a k s = (var_below n k.0, var_below i a, apart (var_names vs) n i k.0 a k.1, omega arith)
  guard_fits i at_least (against n) a k s = (var_below n k.0, var_below i a, apart (var_names vs) n i k.0 a k.1, omega arith)

  cond_fits : (c : Condition) → ConditionKeeps (var_names vs) c → SmallCondition c → Tests (ActionFits (length vs)) c
  cond_fits (compares i o v) k s = (guard_fits i o v k.0 k.1 s, guard_fits i (opposite o) v k.0 k.1 s)

  module _ (tr : (t : List ℕ) → RangeFits (table_at vs ts t).range × ((table_at vs ts t).size ≤ 2147483647)) where
    side_fits : (k : List ℕ) (e : Side) → Among k (var_names vs) → SideKeeps (var_names vs) (table_names ts) e → SmallSide e → Sets (ActionFits (length vs)) k e
    side_fits k (constant c) h n s = (var_below k h, range_fits (only c) (s, s) (only_rises c))
    side_fits k (shifted i c) h n s = (var_below k h, (var_below i n, omega arith))
    side_fits k (negated i) h n s = (var_below k h, var_below i n)
    side_fits k (any o g) h n s = (var_below k h, range_fits g s n)
    side_fits k (reading t i q) h n s =
        let v = var_below i n.1 in
        (v, table_below t n.0, (v, omega arith), (v, less_size (pos (table_at vs ts t).size) (tr t).1), (var_below k h, (v, (tr t).0)))

    body_fits : (ss : Statements) (l : ℕ) → BodyKeeps (var_names vs) (table_names ts) l ss → Small ss → Draws (ActionFits (length vs)) ss
    body_fits done l n s = tt
    body_fits (assign p k e rest) l n s = (side_fits k e n.0 n.1 s.0, body_fits rest l n.2 s.1)
    body_fits (choose p c b b₂ rest) l n s = (cond_fits c n.0 s.0, body_fits b (suc l) n.2 s.1, body_fits b₂ (suc l) n.3 s.2, body_fits rest l n.4 s.3)
    body_fits (repeat p c b rest) l n s = (cond_fits c n.0 s.0, body_fits b (suc l) n.2 s.1, body_fits rest l n.3 s.2)

  -- the same of names that are only declared
  guard_bounded : (i : List ℕ) (o : Order) (v : Operand) → Among i (var_names vs) → NamedOperand (var_names vs) v → SmallOperand v → GuardInBounds (length vs) (guard (num i) o v num)
  guard_bounded i below (limit c) a k s = (var_below i a, less_size c s)
  guard_bounded i at_most (limit c) a k s = (var_below i a, omega arith)
  guard_bounded i above (limit c) a k s = (var_below i a, more_size c s)
  guard_bounded i at_least (limit c) a k s = (var_below i a, omega arith)
  guard_bounded i below (against n) a k s = (var_below i a, var_below n k, omega arith)
  guard_bounded i at_most (against n) a k s = (var_below i a, var_below n k, omega arith)
  guard_bounded i above (against n) a k s = (var_below n k, var_below i a, omega arith)
  guard_bounded i at_least (against n) a k s = (var_below n k, var_below i a, omega arith)

  cond_bounded : (c : Condition) → NamedCondition (var_names vs) c → SmallCondition c → Tests (ActionInBounds (length vs)) c
  cond_bounded (compares i o v) k s = (guard_bounded i o v k.0 k.1 s, guard_bounded i (opposite o) v k.0 k.1 s)

  module _ (tr : (t : List ℕ) → Within 2147483647 (table_at vs ts t).range × ((table_at vs ts t).size ≤ 2147483647)) where
    side_bounded : (k : List ℕ) (e : Side) → Among k (var_names vs) → NamedSide (var_names vs) (table_names ts) e → SmallSide e → Sets (ActionInBounds (length vs)) k e
    side_bounded k (constant c) h n s = (var_below k h, wider (only c) (s, s))
    side_bounded k (shifted i c) h n s = (var_below k h, (var_below i n, omega arith))
    side_bounded k (negated i) h n s = (var_below k h, var_below i n)
    side_bounded k (any o g) h n s = (var_below k h, wider g s)
    side_bounded k (reading t i q) h n s =
        let v = var_below i n.1 in
        (v, table_below t n.0, (v, omega arith), (v, less_size (pos (table_at vs ts t).size) (tr t).1), (var_below k h, (v, wider (table_at vs ts t).range (tr t).0)))

    body_bounded : (ss : Statements) → Named (var_names vs) (table_names ts) ss → Small ss → Draws (ActionInBounds (length vs)) ss
    body_bounded done n s = tt
    body_bounded (assign p k e rest) n s = (side_bounded k e n.0 n.1 s.0, body_bounded rest n.2 s.1)
    body_bounded (choose p c b b₂ rest) n s = (cond_bounded c n.0 s.0, body_bounded b n.1 s.1, body_bounded b₂ n.2 s.2, body_bounded rest n.3 s.3)
    body_bounded (repeat p c b rest) n s = (cond_bounded c n.0 s.0, body_bounded b n.1 s.1, body_bounded rest n.2 s.2)

-- Declarations: there are few, and their ranges fit.
few : (vs ts : List (List ℕ)) (ds : List Declaration) → HeadsKeep vs ts ds → length vs ≤ 8 → length ts ≤ 8 →
    (length vs + length (variables ds) ≤ 8) × (length ts + length (tables ds) ≤ 8)
few vs ts [] h a b = (omega arith, omega arith)
few vs ts (variable n g ∷ ds) h a b =
    let e = length-append vs (n ∷ []) in
    let k = h.2 in
    let r = few (vs ++ (n ∷ [])) ts ds h.4 (omega arith) b in (omega arith, r.1)
few vs ts (table n c g ∷ ds) h a b =
    let e = length-append ts (n ∷ []) in
    let k = h.2 in
    let r = few vs (ts ++ (n ∷ [])) ds h.6 a (omega arith) in (r.0, omega arith)

variable_fits : (vs ts : List (List ℕ)) (ds : List Declaration) → HeadsKeep vs ts ds → SmallHeads ds → (i : ℕ) → RangeFits (get_or (variables ds) i no_variable).range
variable_fits vs ts [] k s i = range_fits (only (pos 0)) (omega arith, omega arith) (only_rises (pos 0))
variable_fits vs ts (variable n g ∷ ds) k s zero = range_fits g s.0 k.3
variable_fits vs ts (variable n g ∷ ds) k s (suc i) = variable_fits (vs ++ (n ∷ [])) ts ds k.4 s.1 i
variable_fits vs ts (table n c g ∷ ds) k s i = variable_fits vs (ts ++ (n ∷ [])) ds k.6 s.2 i

table_fits : (vs ts : List (List ℕ)) (ds : List Declaration) → HeadsKeep vs ts ds → SmallHeads ds → (i : ℕ) → RangeFits (get_or (tables ds) i no_table).range × ((get_or (tables ds) i no_table).size ≤ 2147483647)
table_fits vs ts [] k s i = (range_fits (only (pos 0)) (omega arith, omega arith) (only_rises (pos 0)), omega arith)
table_fits vs ts (variable n g ∷ ds) k s i = table_fits (vs ++ (n ∷ [])) ts ds k.4 s.1 i
table_fits vs ts (table n c g ∷ ds) k s zero = (range_fits g s.1 k.5, s.0)
table_fits vs ts (table n c g ∷ ds) k s (suc i) = table_fits vs (ts ++ (n ∷ [])) ds k.6 s.2 i

variable_small : (ds : List Declaration) → SmallHeads ds → (i : ℕ) → Within 2147483647 (get_or (variables ds) i no_variable).range
variable_small [] s i = (omega arith, omega arith)
variable_small (variable n g ∷ ds) s zero = s.0
variable_small (variable n g ∷ ds) s (suc i) = variable_small ds s.1 i
variable_small (table n c g ∷ ds) s i = variable_small ds s.2 i

table_small : (ds : List Declaration) → SmallHeads ds → (i : ℕ) → Within 2147483647 (get_or (tables ds) i no_table).range × ((get_or (tables ds) i no_table).size ≤ 2147483647)
table_small [] s i = ((omega arith, omega arith), omega arith)
table_small (variable n g ∷ ds) s i = table_small ds s.1 i
table_small (table n c g ∷ ds) s zero = (s.1, s.0)
table_small (table n c g ∷ ds) s (suc i) = table_small ds s.2 i

-- an edge between points that are made, not to the first one
abbrev Leads : ℕ → Edge → Type 0
Leads n e = (e.source < n) × (e.target < n) × (0 < e.target)

made_leads : {es : List Edge} {n : ℕ} → Made es n → Each (Leads n) es
made_leads none = tt
made_leads (next {es = es} {n = n} e m s t) =
    let z = made_some m in
    each_snoc (Leads (suc n)) es e (each_map (Leads n) (Leads (suc n)) (λ x h. (omega arith, omega arith, h.2)) es (made_leads m)) (omega arith, omega arith, omega arith)
made_leads (again {es = es} {n = n} e m s t u) = each_snoc (Leads n) es e (made_leads m) (s, u, t)

-- what holds of each, at a place
each_get : {A : Type 0} (P : A → Type 0) (l : List A) (k : ℕ) (d : A) → k < length l → Each P l → P (get_or l k d)
each_get P [] k d b h = absurd (omega arith)
each_get P (x ∷ l) zero d b h = h.0
each_get P (x ∷ l) (suc k) d b h = each_get P l k d (omega arith) h.1

each_at : {A : Type 0} (P : A → Type 0) (l : List A) (x : A) → Contains l x → Each P l → P x
each_at P l x c h = subst P c.2 (each_get P l c.0 x c.1 h)

pub in_bounds : (t : Tree) → Declared t → SmallTree t → InBounds (graph t)
in_bounds t n s =
    let ds = t.declarations in
    let vs = variables ds in
    let ts = tables ds in
    let b = body_bounded vs ts (λ m. table_small ds s.0 (table_number vs ts m)) t.statements n s.1 in
    let f = fair_all vs ts (ActionInBounds (length vs)) tt t.statements b in
    record {
      ranges = λ v h. wider (range (graph t) v) (variable_small ds s.0 v);
      tables = λ i h. wider (get_or ts i no_table).range (table_small ds s.0 i).0;
      actions = λ e c. each_at _ (graph t).edges e c f.actions;
      lookups = λ l c. let h = each_at _ (graph t).lookups l c f.looks in record { point = h.0; index = h.1; table = h.2 };
    }

pub well_formed : (t : Tree) → Keeps t → SmallTree t → (graph t).points ≤ 96 → WellFormed (graph t)
well_formed t k s p =
    let ds = t.declarations in
    let vs = variables ds in
    let ts = tables ds in
    let b = body_fits vs ts (λ m. table_fits [] [] ds k.heads s.0 (table_number vs ts m)) t.statements 0 k.body s.1 in
    let f = fair_all vs ts (ActionFits (length vs)) tt t.statements b in
    let n = few [] [] ds k.heads (omega arith) (omega arith) in
    record {
      few_points = p;
      few_variables = omega arith;
      few_tables = omega arith;
      first = made_some f.plain.made;
      ranges = λ v h. variable_fits [] [] ds k.heads s.0 v;
      tables = λ i h. (table_fits [] [] ds k.heads s.0 i).0;
      edges = λ e c. let leads = each_at (Leads (graph t).points) (graph t).edges e c (made_leads f.plain.made) in
          record { source = leads.0; target = leads.1; not_first = leads.2; action = each_at _ (graph t).edges e c f.actions };
      joins = few_joins t;
      lookups = λ l c. let h = each_at _ (graph t).lookups l c f.looks in record { point = h.0; index = h.1; table = h.2 };
    }

-- There is at most one proof of it.
range_prop : (r : Range) → IsProp (RangeFits r)
range_prop r = hlevel (le_prop, Bool-set)

value_prop : (n : ℕ) (x : Value) → IsProp (ValueFits n x)
value_prop n (AnyOf r s) = hlevel (range_prop, le_prop, Bool-set)
value_prop n (TableEntry i r) = hlevel (range_prop, le_prop, Bool-set)
value_prop n (Sum i c) = hlevel (le_prop, Bool-set)
value_prop n (Negation i) = hlevel (le_prop, Bool-set)

guard_prop : (n : ℕ) (g : Guard) → IsProp (GuardFits n g)
guard_prop n (AtMost i c) = hlevel (le_prop, Bool-set)
guard_prop n (AtLeast i c) = hlevel (le_prop, Bool-set)
guard_prop n (Difference i k d) = hlevel (le_prop, Bool-set)

action_prop : (n : ℕ) (a : Action) → IsProp (ActionFits n a)
action_prop n Skip = hlevel (le_prop, Bool-set)
action_prop n (Assign k x) = hlevel (value_prop, le_prop, Bool-set)
action_prop n (Assume g) = guard_prop n g

pub well_formed_prop : (g : Graph) → IsProp (WellFormed g)
well_formed_prop g = hlevel (action_prop, range_prop, le_prop, Bool-set)
