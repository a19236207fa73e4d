-- Along an edge: where the values lie within the bounds before it, they lie within them behind it.
use Rattle.std.proofs.Common.{◌≡◌, ℕ, ◌<◌, Bool, true, false, cond, eqb, ◌==◌, List, [], ◌∷◌, length, set, map, Contains, ℤ, pos, neg_ℤ, ◌+ℤ◌, int_le, sym, refl, ap, ◌∙◌, subst, ne_eqb, arith}
use Rattle.std.proofs.lemmas.Bool.{false≢true}
use Rattle.std.proofs.lemmas.Int.{ints}
use Rattle.std.proofs.lemmas.List.{length-set, get_or-set_same, get_or-set_other}
use Rattle.kinds.specs.Values.{under, moved, bounds}
use Rattle.kinds.specs.Laws.{bounds_laws}
use Rattle.kinds.specs.declared.bound.Bound.{Bound}
use Rattle.kinds.specs.declared.bound.Bound.TheVariants.{Least, Whole, Greatest}
use Rattle.books.specs.Books.{at, holds, term, terms, worth, best, right, HoldsUp}
use Rattle.books.specs.Forms.{constant}
use Rattle.books.specs.declared.Term.{Term}
use Rattle.books.specs.declared.Term.TheVariants.{Constant, Shifted}
use Rattle.books.specs.declared.Test.{Test}
use Rattle.books.specs.declared.Terms.{Terms}
use Rattle.books.specs.declared.Terms.TheVariants.{One, Two}
use Rattle.books.specs.declared.Alternative.{Alternative}
use Rattle.books.proofs.Bests.{smaller_over}
use Rattle.strategy_theory.proofs.Walks.{shift_zero}
use Rattle.language_theory.specs.Graphs.{Graph, range, incoming}
use Rattle.language_theory.specs.WellFormed.{ValueFits, GuardFits, ActionFits, WellFormed}
use Rattle.language_theory.specs.declared.Action.{Action}
use Rattle.language_theory.specs.declared.Action.TheVariants.{Skip, Assign, Assume}
use Rattle.language_theory.specs.declared.Guard.{Guard}
use Rattle.language_theory.specs.declared.Guard.TheVariants.{AtMost, AtLeast, Difference}
use Rattle.language_theory.specs.declared.Value.{Value}
use Rattle.language_theory.specs.declared.Value.TheVariants.{AnyOf, TableEntry, Sum, Negation}
use Rattle.language_theory.specs.declared.Edge.{Edge}
use Rattle.script_equations_theory.specs.Bounds.{under_test, as_is, upper, lower, reached, given, limited, can_hold, upper_assigned, upper_assumed, upper_of, lower_assigned, lower_assumed, lower_of, variables_of, uppers, lowers, bound_book}
use Rattle.script_equations_theory.proofs.Lists.{by_eq, in_incoming, in_best}
use Rattle.script_equations_theory.proofs.Places.{book_long, upper_below, lower_below, upper_at, lower_at}
use Rattle.soundness_theory.specs.Runs.{of, Gives, guard_holds, Acts}

-- the order of bounds
infix 40 ◌≼◌
abbrev pub ◌≼◌ : Bound → Bound → Type 0
x ≼ y = under x y ≡ true

pub trans : (x y z : Bound) → x ≼ y → y ≼ z → x ≼ z
trans x y z p q = bounds_laws.transitive x y z p q

pub le_moved : (a c : ℤ) (b : Bound) → Whole a ≼ b → Whole (a +ℤ c) ≼ moved b c
le_moved a c Least p = absurd (false≢true p)
le_moved a c (Whole b) p = grind (arith, ints)
le_moved a c Greatest p = refl

pub le_same : (x b : Bound) → x ≼ b → x ≼ moved b (pos 0)
le_same x b p = subst (λ (z : Bound). x ≼ z) (sym (shift_zero bounds bounds_laws b)) p

-- where numbers below two bounds pass a joint test, the bounds pass it
pub joint_by : (a b c : ℤ) (x y : Bound) → Whole a ≼ x → Whole b ≼ y → int_le c (a +ℤ b) ≡ true → bounds.joint x y (Whole c) ≡ true
joint_by a b c x y p q h = bounds_laws.joint_rises (Whole a) (Whole b) x y (Whole c) p q h

pub le_worth : (y : List Bound) (z : Bound) (t : Test Bound) (ts : Terms Bound ℤ) → holds bounds y t ≡ true → z ≼ terms bounds y ts → z ≼ worth bounds y (under_test t ts)
le_worth y z t ts h p = subst (λ (b : Bool). z ≼ cond b (terms bounds y ts) Least) (sym h) p

-- an unknown, and where v is the variable that a guard limits the term r
under_limit : (y : List Bound) (z : Bound) (v k u : ℕ) (r : Term Bound ℤ) → z ≼ term bounds y (as_is u) → (v ≡ k → z ≼ term bounds y r) → z ≼ terms bounds y (limited (eqb v k) u r)
under_limit y z v k u r p q =
    by_eq (λ (ts : Terms Bound ℤ). z ≼ terms bounds y ts) v k (Two (as_is u) r) (One (as_is u)) (λ e. smaller_over bounds bounds_laws {x = term bounds y (as_is u)} {y = term bounds y r} {z = z} p (q e)) (λ e. p)

-- whole numbers
pub negated : (a b : ℤ) → int_le a b ≡ true → int_le (neg_ℤ b) (neg_ℤ a) ≡ true
negated a b h = grind (arith, ints)

minus_sum : (a c : ℤ) → neg_ℤ (a +ℤ c) ≡ neg_ℤ a +ℤ neg_ℤ c
minus_sum a c = grind (arith, ints)

minus_minus : (a : ℤ) → neg_ℤ (neg_ℤ a) ≡ a
minus_minus a = grind (arith, ints)

none_left : (a : ℤ) → int_le (pos 0) (a +ℤ neg_ℤ a) ≡ true
none_left a = grind (arith, ints)

apart_by : (a b d : ℤ) → int_le a (b +ℤ d) ≡ true → int_le (neg_ℤ d) (neg_ℤ a +ℤ b) ≡ true
apart_by a b d h = grind (arith, ints)

before_low : (a b d : ℤ) → int_le a (b +ℤ d) ≡ true → int_le (neg_ℤ b) (neg_ℤ a +ℤ d) ≡ true
before_low a b d h = grind (arith, ints)

-- the values x, of n variables, lie within the bounds y of the point p
pub record Bounded (n : ℕ) (y : List Bound) (p : ℕ) (x : List ℤ) : Type 0 where
  pub long : length x ≡ n
  pub up : (v : ℕ) → v < n → Whole (of x v) ≼ at bounds y (upper n p v)
  pub down : (v : ℕ) → v < n → Whole (neg_ℤ (of x v)) ≼ at bounds y (lower n p v)

module _ (n : ℕ) (y : List Bound) (p : ℕ) (x x' : List ℤ) (w : Bounded n y p x) where
  same_at : (v : ℕ) → x' ≡ x → of x' v ≡ of x v
  same_at v e = ap (λ (l : List ℤ). of l v) e

  set_here : (k : ℕ) (z : ℤ) → k < n → x' ≡ set x k z → (v : ℕ) → v ≡ k → of x' v ≡ z
  set_here k z h e v f = ap (λ (l : List ℤ). of l v) e ∙ ap (λ (j : ℕ). of (set x k z) j) f ∙ get_or-set_same x k z (pos 0) (subst (λ (j : ℕ). k < j) (sym w.long) h)

  set_else : (k : ℕ) (z : ℤ) → x' ≡ set x k z → (v : ℕ) → (v ≡ k → ⊥) → of x' v ≡ of x v
  set_else k z e v f = ap (λ (l : List ℤ). of l v) e ∙ get_or-set_other x k v z (pos 0) f

  to_up : (v : ℕ) (z : ℤ) (b : Bound) → of x' v ≡ z → Whole z ≼ b → Whole (of x' v) ≼ b
  to_up v z b e h = subst (λ (a : ℤ). Whole a ≼ b) (sym e) h

  to_down : (v : ℕ) (z : ℤ) (b : Bound) → of x' v ≡ z → Whole (neg_ℤ z) ≼ b → Whole (neg_ℤ (of x' v)) ≼ b
  to_down v z b e h = subst (λ (a : ℤ). Whole (neg_ℤ a) ≼ b) (sym e) h

  -- a variable that keeps its value
  up_same : (v : ℕ) → v < n → of x' v ≡ of x v → Whole (of x' v) ≼ term bounds y (as_is (upper n p v))
  up_same v h e = to_up v (of x v) _ e (le_same (Whole (of x v)) (at bounds y (upper n p v)) (w.up v h))

  down_same : (v : ℕ) → v < n → of x' v ≡ of x v → Whole (neg_ℤ (of x' v)) ≼ term bounds y (as_is (lower n p v))
  down_same v h e = to_down v (of x v) _ e (le_same (Whole (neg_ℤ (of x v))) (at bounds y (lower n p v)) (w.down v h))

  -- a variable that is given a value of a range
  reached_holds : (k : ℕ) → k < n → holds bounds y (reached n p k) ≡ true
  reached_holds k h = joint_by (of x k) (neg_ℤ (of x k)) (pos 0) _ _ (w.up k h) (w.down k h) (none_left (of x k))

  given_up : (k : ℕ) (b z : ℤ) → k < n → int_le z b ≡ true → Whole z ≼ worth bounds y (given n p k b)
  given_up k b z hk h = le_worth y (Whole z) (reached n p k) (One (Constant (Whole b))) (reached_holds k hk) h

  given_down : (k : ℕ) (b z : ℤ) → k < n → int_le b z ≡ true → Whole (neg_ℤ z) ≼ worth bounds y (given n p k (neg_ℤ b))
  given_down k b z hk h = le_worth y (Whole (neg_ℤ z)) (reached n p k) (One (Constant (Whole (neg_ℤ b)))) (reached_holds k hk) (negated b z h)

  -- what a variable can be set to
  gives_up : (k : ℕ) → k < n → (a : Value) → ValueFits n a → (z : ℤ) → Gives a x z → Whole z ≼ worth bounds y (upper_assigned n p k a)
  gives_up k h (AnyOf r s) f z d = given_up k r.high z h d.high
  gives_up k h (TableEntry i r) f z d = given_up k r.high z h d.high
  gives_up k h (Sum i c) f z d = subst (λ (a : ℤ). Whole a ≼ moved (at bounds y (upper n p i)) c) (sym d) (le_moved (of x i) c (at bounds y (upper n p i)) (w.up i f.0))
  gives_up k h (Negation i) f z d = subst (λ (a : ℤ). Whole a ≼ moved (at bounds y (lower n p i)) (pos 0)) (sym d) (le_same (Whole (neg_ℤ (of x i))) (at bounds y (lower n p i)) (w.down i f))

  gives_down : (k : ℕ) → k < n → (a : Value) → ValueFits n a → (z : ℤ) → Gives a x z → Whole (neg_ℤ z) ≼ worth bounds y (lower_assigned n p k a)
  gives_down k h (AnyOf r s) f z d = given_down k r.low z h d.low
  gives_down k h (TableEntry i r) f z d = given_down k r.low z h d.low
  gives_down k h (Sum i c) f z d = subst (λ (a : ℤ). Whole a ≼ moved (at bounds y (lower n p i)) (neg_ℤ c)) (sym (ap neg_ℤ d ∙ minus_sum (of x i) c))
      (le_moved (neg_ℤ (of x i)) (neg_ℤ c) (at bounds y (lower n p i)) (w.down i f.0))
  gives_down k h (Negation i) f z d = subst (λ (a : ℤ). Whole a ≼ moved (at bounds y (upper n p i)) (pos 0)) (sym (ap neg_ℤ d ∙ minus_minus (of x i)))
      (le_same (Whole (of x i)) (at bounds y (upper n p i)) (w.up i f))

  -- a guard that holds, as its test
  guard_test : (g : Guard) → GuardFits n g → guard_holds g x ≡ true → holds bounds y (can_hold n p g) ≡ true
  guard_test (AtMost i c) f d = trans (Whole (neg_ℤ c)) (Whole (neg_ℤ (of x i))) _ (negated (of x i) c d) (w.down i f.0)
  guard_test (AtLeast i c) f d = trans (Whole c) (Whole (of x i)) _ d (w.up i f.0)
  guard_test (Difference i k c) f d = joint_by (neg_ℤ (of x i)) (of x k) (neg_ℤ c) _ _ (w.down i f.0) (w.up k f.1) (apart_by (of x i) (of x k) c d)

  -- and what it leaves of a variable
  module _ (e : x' ≡ x) (v : ℕ) (hv : v < n) where
    as_at : (i : ℕ) → v ≡ i → of x' v ≡ of x i
    as_at i h = same_at v e ∙ ap (λ (j : ℕ). of x j) h

    keeps_up : (g : Guard) → GuardFits n g → guard_holds g x ≡ true → Whole (of x' v) ≼ terms bounds y (upper_assumed n p v g)
    keeps_up (AtMost i c) f d = under_limit y (Whole (of x' v)) v i (upper n p v) (Constant (Whole c)) (up_same v hv (same_at v e)) (λ h. to_up v (of x i) (Whole c) (as_at i h) d)
    keeps_up (AtLeast i c) f d = up_same v hv (same_at v e)
    keeps_up (Difference i k c) f d = under_limit y (Whole (of x' v)) v i (upper n p v) (Shifted (upper n p k) c) (up_same v hv (same_at v e))
        (λ h. to_up v (of x i) _ (as_at i h) (trans (Whole (of x i)) (Whole (of x k +ℤ c)) _ d (le_moved (of x k) c (at bounds y (upper n p k)) (w.up k f.1))))

    keeps_down : (g : Guard) → GuardFits n g → guard_holds g x ≡ true → Whole (neg_ℤ (of x' v)) ≼ terms bounds y (lower_assumed n p v g)
    keeps_down (AtMost i c) f d = down_same v hv (same_at v e)
    keeps_down (AtLeast i c) f d = under_limit y (Whole (neg_ℤ (of x' v))) v i (lower n p v) (Constant (Whole (neg_ℤ c))) (down_same v hv (same_at v e))
        (λ h. to_down v (of x i) (Whole (neg_ℤ c)) (as_at i h) (negated c (of x i) d))
    keeps_down (Difference i k c) f d = under_limit y (Whole (neg_ℤ (of x' v))) v k (lower n p v) (Shifted (lower n p i) c) (down_same v hv (same_at v e))
        (λ h. to_down v (of x k) _ (as_at k h)
        (trans (Whole (neg_ℤ (of x k))) (Whole (neg_ℤ (of x i) +ℤ c)) _ (before_low (of x i) (of x k) c d) (le_moved (neg_ℤ (of x i)) c (at bounds y (lower n p i)) (w.down i f.0))))

  pub acts_up : (a : Action) → ActionFits n a → Acts a x x' → (v : ℕ) → v < n → Whole (of x' v) ≼ worth bounds y (upper_of n p v a)
  acts_up Skip f d v hv = up_same v hv (same_at v d)
  acts_up (Assign k a) f d v hv = by_eq (λ (b : Alternative Bound ℤ). Whole (of x' v) ≼ worth bounds y b) v k _ _
      (λ e. to_up v d.0 _ (set_here k d.0 f.0 d.2 v e) (gives_up k f.0 a f.1 d.0 d.1)) (λ e. up_same v hv (set_else k d.0 d.2 v e))
  acts_up (Assume g) f d v hv = le_worth y (Whole (of x' v)) (can_hold n p g) (upper_assumed n p v g) (guard_test g f d.0) (keeps_up d.1 v hv g f d.0)

  pub acts_down : (a : Action) → ActionFits n a → Acts a x x' → (v : ℕ) → v < n → Whole (neg_ℤ (of x' v)) ≼ worth bounds y (lower_of n p v a)
  acts_down Skip f d v hv = down_same v hv (same_at v d)
  acts_down (Assign k a) f d v hv = by_eq (λ (b : Alternative Bound ℤ). Whole (neg_ℤ (of x' v)) ≼ worth bounds y b) v k _ _
      (λ e. to_down v d.0 _ (set_here k d.0 f.0 d.2 v e) (gives_down k f.0 a f.1 d.0 d.1)) (λ e. down_same v hv (set_else k d.0 d.2 v e))
  acts_down (Assume g) f d v hv = le_worth y (Whole (neg_ℤ (of x' v))) (can_hold n p g) (lower_assumed n p v g) (guard_test g f d.0) (keeps_down d.1 v hv g f d.0)

  pub acts_long : (a : Action) → Acts a x x' → length x' ≡ n
  acts_long Skip d = ap length d ∙ w.long
  acts_long (Assign k a) d = ap length d.2 ∙ length-set x k d.0 ∙ w.long
  acts_long (Assume g) d = ap length d.1 ∙ w.long

-- what holds up lies at or above the alternatives, so above those of each edge
module _ (g : Graph) (fits : WellFormed g) (y : List Bound) (hu : HoldsUp bounds (bound_book g) y) where
  module _ (p v : ℕ) (hp : p < g.points) (hv : v < variables_of g) (a : Alternative Bound ℤ) where
    pub over_upper : Contains (uppers g p v) a → worth bounds y a ≼ at bounds y (upper (variables_of g) p v)
    over_upper i = trans (worth bounds y a) (right bounds (bound_book g) y (upper (variables_of g) p v)) _
        (subst (λ (l : List (Alternative Bound ℤ)). worth bounds y a ≼ best bounds y l) (sym (upper_at g p v hp hv)) (in_best bounds bounds_laws y a (uppers g p v) i))
        (hu.under (upper (variables_of g) p v) (subst (λ (j : ℕ). upper (variables_of g) p v < j) (sym (book_long g)) (upper_below g p v hp hv)))

    pub over_lower : Contains (lowers g p v) a → worth bounds y a ≼ at bounds y (lower (variables_of g) p v)
    over_lower i = trans (worth bounds y a) (right bounds (bound_book g) y (lower (variables_of g) p v)) _
        (subst (λ (l : List (Alternative Bound ℤ)). worth bounds y a ≼ best bounds y l) (sym (lower_at g p v hp hv)) (in_best bounds bounds_laws y a (lowers g p v) i))
        (hu.under (lower (variables_of g) p v) (subst (λ (j : ℕ). lower (variables_of g) p v < j) (sym (book_long g)) (lower_below g p v hp hv)))

  module _ (e : Edge) (i : Contains g.edges e) (v : ℕ) (hv : v < variables_of g) where
    later : (e.target == 0) ≡ false
    later = let h = (fits.edges e i).not_first in ne_eqb e.target 0 (λ (z : e.target ≡ 0). omega arith)

    pub edge_upper : worth bounds y (upper_of (variables_of g) e.source v e.action) ≼ at bounds y (upper (variables_of g) e.target v)
    edge_upper = over_upper e.target v (fits.edges e i).target hv (upper_of (variables_of g) e.source v e.action)
        (subst (λ (b : Bool). Contains (cond b (constant (Whole (range g v).high) ∷ []) (map (λ (d : Edge). upper_of (variables_of g) d.source v d.action) (incoming e.target g.edges))) (upper_of (variables_of g) e.source v e.action))
        (sym later) (in_incoming (λ (d : Edge). upper_of (variables_of g) d.source v d.action) e g.edges i))

    pub edge_lower : worth bounds y (lower_of (variables_of g) e.source v e.action) ≼ at bounds y (lower (variables_of g) e.target v)
    edge_lower = over_lower e.target v (fits.edges e i).target hv (lower_of (variables_of g) e.source v e.action)
        (subst (λ (b : Bool). Contains (cond b (constant (Whole (neg_ℤ (range g v).low)) ∷ []) (map (λ (d : Edge). lower_of (variables_of g) d.source v d.action) (incoming e.target g.edges))) (lower_of (variables_of g) e.source v e.action))
        (sym later) (in_incoming (λ (d : Edge). lower_of (variables_of g) d.source v d.action) e g.edges i))
