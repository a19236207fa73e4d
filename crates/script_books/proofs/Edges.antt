-- How many unknowns and alternatives there are, and the alternatives that the edges to a point give.
use Rattle.std.proofs.Common.{◌≡◌, ℕ, zero, suc, ◌*◌, ◌/◌, ◌%◌, ◌<◌, ◌≤◌, get_or, not-suc-le-zero, Bool, true, false, cond, List, [], ◌∷◌, map, length, Ok, Err, Result, vec_items, slice_index_or, sym, refl, ap, ◌∙◌, subst, eqb, arith, ℤ}
use Rattle.std.proofs.lemmas.Bool.{ne_eqb}
use Rattle.std.proofs.lemmas.List.{length-map, get_or-map}
use Rattle.kinds.specs.declared.bound.Bound.{Bound}
use Rattle.kinds.specs.declared.grade.Grade.{Grade}
use Rattle.kinds.specs.declared.grade.NoWeight.{NoWeight}
use Rattle.books.specs.declared.Alternative.{Alternative}
use Rattle.base.specs.Reasons.{nowhere}
use Rattle.base.specs.declared.Refusal.{Refusal}
use Rattle.base.specs.declared.Reason.TheVariants.{NotThere}
use Rattle.books.specs.Books.{nth}
use Rattle.books.specs.Questions.{found, counted}
use Rattle.books.proofs.Rows.{rows_long, counted_inside}
use Rattle.language_theory.specs.Graphs as graphs
use Rattle.language_theory.specs.declared.Edge.{Edge}
use Rattle.language_theory.specs.Graphs.{incoming, no_variable, range}
use Rattle.language_theory.specs.WellFormed.{EdgeFits}
use Rattle.script_equations_theory.specs.Bounds.{variables_of, upper_of, lower_of, uppers, lowers, bound_unknown, bound_book}
use Rattle.script_equations_theory.specs.Grades.{grade_of, grades_at, grade_unknown, grade_book}
use Rattle.script_equations_theory.proofs.Lists.{filter_contains}
use Rattle.script_graph.specs.Variable.{Variable}
use Rattle.script_graph.specs.Models.{variable_of}
use Rattle.script_graph.specs.Meaning.{meaning}
use Rattle.script_graph.specs.declared.graph.Graph.{Graph}
use Rattle.script_books.specs.Fitted.{graph_fits}

-- an edge among those to a point fits
pub fits_at : (g : Graph) (p k : ℕ) (e : Edge) → k < length (incoming p (vec_items g.edges)) → get_or (incoming p (vec_items g.edges)) k e ≡ e → EdgeFits (meaning g) e
fits_at g p k e h q = (graph_fits g).edges e (filter_contains _ (vec_items g.edges) e (k, h, q)).0

-- what is found at a place, and behind the last
pub found_at : {A : Type 0} (l : List A) (k : ℕ) (a : A) → k < length l → get_or l k a ≡ a → Ok a ≡ found (nth l k)
found_at [] k a h e = absurd (not-suc-le-zero h)
found_at (b ∷ l) zero a h e = ap (λ (x : _). Ok x) (sym e)
found_at (b ∷ l) (suc k) a h e = found_at l k a (omega arith) e

pub found_past : {A : Type 0} (l : List A) (k : ℕ) → length l ≤ k → Err (nowhere NotThere) ≡ found (nth l k)
found_past [] k h = refl
found_past (b ∷ l) zero h = absurd (not-suc-le-zero h)
found_past (b ∷ l) (suc k) h = found_past l k (omega arith)

-- how many variables there are
variables_are : (g : Graph) (vs : List Variable) → vs ≡ vec_items g.variables → length vs ≡ variables_of (meaning g)
variables_are g vs e = ap length e ∙ sym (length-map (vec_items g.variables) variable_of)

-- how many unknowns
pub bound_count_is : (g : Graph) (vs : List Variable) (n : ℕ) → vs ≡ vec_items g.variables → n ≡ g.points → 2 * (length vs * n) ≡ length (bound_book (meaning g))
bound_count_is g vs n e f =
    ap (λ (k : ℕ). 2 * (k * n)) (variables_are g vs e) ∙ ap (λ (k : ℕ). 2 * (variables_of (meaning g) * k)) f ∙
    sym (rows_long (bound_unknown (meaning g)) (2 * (variables_of (meaning g) * g.points)))

pub grade_count_is : (g : Graph) (vs : List Variable) (n : ℕ) → vs ≡ vec_items g.variables → n ≡ g.points → length vs * n ≡ length (grade_book (meaning g))
grade_count_is g vs n e f =
    ap (λ (k : ℕ). k * n) (variables_are g vs e) ∙ ap (λ (k : ℕ). variables_of (meaning g) * k) f ∙
    sym (rows_long (grade_unknown (meaning g)) (variables_of (meaning g) * g.points))

-- an alternative that is made of an edge, by the number of the edge
IsOkay : Result Edge Refusal → Type 0
IsOkay (Ok x) = Unit {0}
IsOkay (Err x) = ⊥

okay : (e : Edge) (r : Result Edge Refusal) → Ok e ≡ r → IsOkay r
unfolding IsOkay
okay e r h = subst IsOkay h tt

edge_in : (e d : Edge) → ◌≡◌ {A = Result Edge Refusal} (Ok e) (Ok d) → e ≡ d
edge_in e d h = cc

found_made : {A : Type 0} (f : Edge → A) (l : List Edge) (k : ℕ) (e : Edge) → Ok e ≡ found (nth l k) → ◌≡◌ {A = Result A Refusal} (Ok (f e)) (found (nth (map f l) k))
unfolding IsOkay
found_made f [] k e h = absurd (okay e _ h)
found_made f (d ∷ l) zero e h = ap (λ (x : Edge). Ok (f x)) (edge_in e d h)
found_made f (d ∷ l) (suc k) e h = found_made f l k e h

-- where there is no such edge, there is no alternative either
found_refused : {A : Type 0} (f : Edge → A) (l : List Edge) (k : ℕ) (e : Refusal) → ◌≡◌ {A = Result Edge Refusal} (Err e) (found (nth l k)) → ◌≡◌ {A = Result A Refusal} (Err e) (found (nth (map f l) k))
found_refused f [] k e h = let q : e ≡ nowhere NotThere = cc in ap Err q
found_refused f (d ∷ l) zero e h = cc
found_refused f (d ∷ l) (suc k) e h = found_refused f l k e h

not_first : {A : Type 0} (t : Bool) (a b : A) → t ≡ false → cond t a b ≡ b
not_first t a b e = ap (λ (s : Bool). cond s a b) e

module _ (g : graphs.Graph) (p : ℕ) (later : eqb p 0 ≡ false) where
  -- behind point 0 there is one alternative for each edge
  uppers_are : (v : ℕ) → uppers g p v ≡ map (λ (e : Edge). upper_of (variables_of g) e.source v e.action) (incoming p g.edges)
  uppers_are v = not_first (eqb p 0) _ _ later

  lowers_are : (v : ℕ) → lowers g p v ≡ map (λ (e : Edge). lower_of (variables_of g) e.source v e.action) (incoming p g.edges)
  lowers_are v = not_first (eqb p 0) _ _ later

  grades_are : (v : ℕ) → grades_at g p v ≡ map (λ (e : Edge). grade_of (variables_of g) e.source v e.action) (incoming p g.edges)
  grades_are v = not_first (eqb p 0) _ _ later

  pub upper_found : (v k : ℕ) (e : Edge) → Ok e ≡ found (nth (incoming p g.edges) k) → Ok (upper_of (variables_of g) e.source v e.action) ≡ found (nth (uppers g p v) k)
  upper_found v k e h = found_made (λ (d : Edge). upper_of (variables_of g) d.source v d.action) (incoming p g.edges) k e h ∙ ap (λ (l : List _). found (nth l k)) (sym (uppers_are v))

  pub lower_found : (v k : ℕ) (e : Edge) → Ok e ≡ found (nth (incoming p g.edges) k) → Ok (lower_of (variables_of g) e.source v e.action) ≡ found (nth (lowers g p v) k)
  lower_found v k e h = found_made (λ (d : Edge). lower_of (variables_of g) d.source v d.action) (incoming p g.edges) k e h ∙ ap (λ (l : List _). found (nth l k)) (sym (lowers_are v))

  pub grade_found : (v k : ℕ) (e : Edge) → Ok e ≡ found (nth (incoming p g.edges) k) → Ok (grade_of (variables_of g) e.source v e.action) ≡ found (nth (grades_at g p v) k)
  grade_found v k e h = found_made (λ (d : Edge). grade_of (variables_of g) d.source v d.action) (incoming p g.edges) k e h ∙ ap (λ (l : List _). found (nth l k)) (sym (grades_are v))

  pub lower_refused : (v k : ℕ) (e : Refusal) → ◌≡◌ {A = Result Edge Refusal} (Err e) (found (nth (incoming p g.edges) k)) → Err e ≡ found (nth (lowers g p v) k)
  lower_refused v k e h = found_refused (λ (d : Edge). lower_of (variables_of g) d.source v d.action) (incoming p g.edges) k e h ∙ ap (λ (l : List _). found (nth l k)) (sym (lowers_are v))

  uppers_long : (v : ℕ) → length (uppers g p v) ≡ length (incoming p g.edges)
  uppers_long v = ap length (uppers_are v) ∙ length-map (incoming p g.edges) (λ (e : Edge). upper_of (variables_of g) e.source v e.action)

  lowers_long : (v : ℕ) → length (lowers g p v) ≡ length (incoming p g.edges)
  lowers_long v = ap length (lowers_are v) ∙ length-map (incoming p g.edges) (λ (e : Edge). lower_of (variables_of g) e.source v e.action)

  grades_long : (v : ℕ) → length (grades_at g p v) ≡ length (incoming p g.edges)
  grades_long v = ap length (grades_are v) ∙ length-map (incoming p g.edges) (λ (e : Edge). grade_of (variables_of g) e.source v e.action)

-- how many alternatives an unknown has that is not one of point 0
pub bound_width : (g : graphs.Graph) (u : ℕ) → u / 2 < variables_of g * g.points → eqb (u / 2 / variables_of g) 0 ≡ false → Ok (length (incoming (u / 2 / variables_of g) g.edges)) ≡ counted (bound_book g) u
bound_width g u h later =
    ap (λ (k : ℕ). Ok k) (sym (long (eqb (u % 2) 0))) ∙ counted_inside (bound_unknown g) (2 * (variables_of g * g.points)) u (omega arith)
  where
    long : (b : Bool) → length (cond b (uppers g (u / 2 / variables_of g) (u / 2 % variables_of g)) (lowers g (u / 2 / variables_of g) (u / 2 % variables_of g))) ≡ length (incoming (u / 2 / variables_of g) g.edges)
    long true = uppers_long g (u / 2 / variables_of g) later (u / 2 % variables_of g)
    long false = lowers_long g (u / 2 / variables_of g) later (u / 2 % variables_of g)

pub grade_width : (g : graphs.Graph) (u : ℕ) → u < variables_of g * g.points → eqb (u / variables_of g) 0 ≡ false → Ok (length (incoming (u / variables_of g) g.edges)) ≡ counted (grade_book g) u
grade_width g u h later =
    ap (λ (k : ℕ). Ok k) (sym (grades_long g (u / variables_of g) later (u % variables_of g))) ∙ counted_inside (grade_unknown g) (variables_of g * g.points) u h

-- what an edge gives for a variable, n being the number of variables and q the point where it starts
module _ (g : Graph) (p v k : ℕ) (e : Edge) (n q : ℕ) (later : 0 < p) (h : Ok e ≡ found (nth (incoming p (vec_items g.edges)) k)) (start : (n ≡ variables_of (meaning g)) × (q ≡ e.source)) where
  not_zero : eqb p 0 ≡ false
  not_zero = ne_eqb p 0 (λ e. not-suc-le-zero (subst (λ (i : ℕ). 0 < i) e later))

  pub upper_behind : (a : Alternative Bound ℤ) → a ≡ upper_of n q v e.action → Ok a ≡ found (nth (uppers (meaning g) p v) k)
  upper_behind a is = ap (λ (x : _). Ok x) (is ∙ ap (λ (i : ℕ). upper_of i q v e.action) start.0 ∙ ap (λ (i : ℕ). upper_of (variables_of (meaning g)) i v e.action) start.1) ∙ upper_found (meaning g) p not_zero v k e h

  pub lower_behind : (a : Alternative Bound ℤ) → a ≡ lower_of n q v e.action → Ok a ≡ found (nth (lowers (meaning g) p v) k)
  lower_behind a is = ap (λ (x : _). Ok x) (is ∙ ap (λ (i : ℕ). lower_of i q v e.action) start.0 ∙ ap (λ (i : ℕ). lower_of (variables_of (meaning g)) i v e.action) start.1) ∙ lower_found (meaning g) p not_zero v k e h

  pub grade_behind : (a : Alternative Grade NoWeight) → a ≡ grade_of n q v e.action → Ok a ≡ found (nth (grades_at (meaning g) p v) k)
  grade_behind a is = ap (λ (x : _). Ok x) (is ∙ ap (λ (i : ℕ). grade_of i q v e.action) start.0 ∙ ap (λ (i : ℕ). grade_of (variables_of (meaning g)) i v e.action) start.1) ∙ grade_found (meaning g) p not_zero v k e h

-- the declared range of a variable
pub range_is : (g : Graph) (v : ℕ) (d : Variable) → v < variables_of (meaning g) → (slice_index_or (vec_items g.variables) v d).range ≡ range (meaning g) v
range_is g v d h = ap (λ (x : graphs.Variable). x.range) (sym (get_or-map variable_of (vec_items g.variables) v d no_variable inside))
  where
    inside : v < length (vec_items g.variables)
    inside = subst (λ (i : ℕ). v < i) (length-map (vec_items g.variables) variable_of) h

-- the alternatives of an unknown that is not of point 0, l being the edges to its point
pub bound_width_is : (g : Graph) (u p : ℕ) (l : List Edge) → u / 2 < variables_of (meaning g) * g.points → p ≡ u / 2 / variables_of (meaning g) → eqb p 0 ≡ false → l ≡ incoming p (vec_items g.edges) → Ok (length l) ≡ counted (bound_book (meaning g)) u
bound_width_is g u p l h e later is =
    ap (λ (k : List Edge). Ok (length k)) (is ∙ ap (λ (i : ℕ). incoming i (vec_items g.edges)) e) ∙ bound_width (meaning g) u h (ap (λ (i : ℕ). eqb i 0) (sym e) ∙ later)

pub grade_width_is : (g : Graph) (u p : ℕ) (l : List Edge) → u < variables_of (meaning g) * g.points → p ≡ u / variables_of (meaning g) → eqb p 0 ≡ false → l ≡ incoming p (vec_items g.edges) → Ok (length l) ≡ counted (grade_book (meaning g)) u
grade_width_is g u p l h e later is =
    ap (λ (k : List Edge). Ok (length k)) (is ∙ ap (λ (i : ℕ). incoming i (vec_items g.edges)) e) ∙ grade_width (meaning g) u h (ap (λ (i : ℕ). eqb i 0) (sym e) ∙ later)
