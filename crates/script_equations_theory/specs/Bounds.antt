-- The bound book of a graph: how far each variable can go at each point, edge by edge.
-- A variable at a point has two unknowns, its upper bound U and the next one, L, its lower bound negated. Values on the right are those at the edge's start.
use Rattle.std.specs.Prelude.{ℕ, suc, ◌+◌, ◌*◌, ◌/◌, ◌%◌, Bool, cond, ◌&&◌, nat_lt, List, [], ◌∷◌, map, length, ℤ, pos, neg_ℤ, ◌==◌}
use Rattle.std.specs.List.{range_with_len}
use Rattle.kinds.specs.declared.bound.Bound.{Bound}
use Rattle.kinds.specs.declared.bound.Bound.TheVariants.{Whole}
use Rattle.books.specs.Forms.{constant, shifted}
use Rattle.books.specs.declared.Term.{Term}
use Rattle.books.specs.declared.Term.TheVariants.{Constant, Shifted}
use Rattle.books.specs.declared.Test.{Test}
use Rattle.books.specs.declared.Test.TheVariants.{Single, Joint}
use Rattle.books.specs.declared.Terms.{Terms}
use Rattle.books.specs.declared.Terms.TheVariants.{One, Two}
use Rattle.books.specs.declared.Alternative.{Alternative}
use Rattle.language_theory.specs.Graphs.{Graph, range, incoming}
use Rattle.language_theory.specs.declared.Action.{Action}
use Rattle.language_theory.specs.declared.Action.TheVariants.{Skip, Assign, Assume}
use Rattle.language_theory.specs.declared.Guard.{Guard}
use Rattle.language_theory.specs.declared.Guard.TheVariants.{AtMost, AtLeast, Difference}
use Rattle.language_theory.specs.declared.Value.{Value}
use Rattle.language_theory.specs.declared.Value.TheVariants.{AnyOf, TableEntry, Sum, Negation}
use Rattle.language_theory.specs.declared.Edge.{Edge}

-- an alternative of bounds: a test, and the terms that count where it holds
abbrev pub under_test : Test Bound → Terms Bound ℤ → Alternative Bound ℤ
under_test t ts = record { test = t; terms = ts }

-- an unknown as it is
abbrev pub as_is : ℕ → Term Bound ℤ
as_is u = Shifted u (pos 0)

-- the alternative that is always this unknown
abbrev pub copied : ℕ → Alternative Bound ℤ
copied u = shifted u (pos 0)

-- an unknown as it is, and where a guard limits it the smaller of that and the limit
abbrev pub limited : Bool → ℕ → Term Bound ℤ → Terms Bound ℤ
limited b u t = cond b (Two (as_is u) t) (One (as_is u))

-- n is the number of variables, p a point, v a variable
-- the number of the unknown U of v at p, and of L
abbrev pub upper : ℕ → ℕ → ℕ → ℕ
upper n p v = 2 * (n * p + v)

abbrev pub lower : ℕ → ℕ → ℕ → ℕ
lower n p v = suc (upper n p v)

-- p is reached, as v shows there: U + L is at least 0
abbrev pub reached : ℕ → ℕ → ℕ → Test Bound
reached n p v = Joint (upper n p v) (lower n p v) (Whole (pos 0))

-- the constant c for v, where p is reached
abbrev pub given : ℕ → ℕ → ℕ → ℤ → Alternative Bound ℤ
given n p v c = under_test (reached n p v) (One (Constant (Whole c)))

-- a guard can hold at p
abbrev pub can_hold : ℕ → ℕ → Guard → Test Bound
can_hold n p (AtMost i c) = Single (lower n p i) (Whole (neg_ℤ c))
can_hold n p (AtLeast i c) = Single (upper n p i) (Whole c)
can_hold n p (Difference i k d) = Joint (lower n p i) (upper n p k) (Whole (neg_ℤ d))

-- the alternative of U of k for k := x from p
abbrev pub upper_assigned : ℕ → ℕ → ℕ → Value → Alternative Bound ℤ
upper_assigned n p k (AnyOf r s) = given n p k r.high
upper_assigned n p k (TableEntry i r) = given n p k r.high
upper_assigned n p k (Sum i c) = shifted (upper n p i) c
upper_assigned n p k (Negation i) = copied (lower n p i)

-- the terms of U of v where a guard holds at p
abbrev pub upper_assumed : ℕ → ℕ → ℕ → Guard → Terms Bound ℤ
upper_assumed n p v (AtMost i c) = limited (v == i) (upper n p v) (Constant (Whole c))
upper_assumed n p v (AtLeast i c) = One (as_is (upper n p v))
upper_assumed n p v (Difference i k d) = limited (v == i) (upper n p v) (Shifted (upper n p k) d)

-- the alternative of U of v for an edge from p
abbrev pub upper_of : ℕ → ℕ → ℕ → Action → Alternative Bound ℤ
upper_of n p v Skip = copied (upper n p v)
upper_of n p v (Assign k x) = cond (v == k) (upper_assigned n p k x) (copied (upper n p v))
upper_of n p v (Assume g) = under_test (can_hold n p g) (upper_assumed n p v g)

-- the same of L
abbrev pub lower_assigned : ℕ → ℕ → ℕ → Value → Alternative Bound ℤ
lower_assigned n p k (AnyOf r s) = given n p k (neg_ℤ r.low)
lower_assigned n p k (TableEntry i r) = given n p k (neg_ℤ r.low)
lower_assigned n p k (Sum i c) = shifted (lower n p i) (neg_ℤ c)
lower_assigned n p k (Negation i) = copied (upper n p i)

abbrev pub lower_assumed : ℕ → ℕ → ℕ → Guard → Terms Bound ℤ
lower_assumed n p v (AtMost i c) = One (as_is (lower n p v))
lower_assumed n p v (AtLeast i c) = limited (v == i) (lower n p v) (Constant (Whole (neg_ℤ c)))
lower_assumed n p v (Difference i k d) = limited (v == k) (lower n p v) (Shifted (lower n p i) d)

abbrev pub lower_of : ℕ → ℕ → ℕ → Action → Alternative Bound ℤ
lower_of n p v Skip = copied (lower n p v)
lower_of n p v (Assign k x) = cond (v == k) (lower_assigned n p k x) (copied (lower n p v))
lower_of n p v (Assume g) = under_test (can_hold n p g) (lower_assumed n p v g)

module _ (g : Graph) where
  -- how many variables there are
  abbrev pub variables_of : ℕ
  variables_of = length g.variables

  -- whether the point p and the variable v are there
  abbrev pub is_there : ℕ → ℕ → Bool
  is_there p v = nat_lt p g.points && nat_lt v variables_of

  -- the alternatives of U of v at p, in the order of the edges to p: point 0 has the declared range
  abbrev pub uppers : ℕ → ℕ → List (Alternative Bound ℤ)
  uppers p v = cond (p == 0) (constant (Whole (range g v).high) ∷ []) (map (λ (e : Edge). upper_of variables_of e.source v e.action) (incoming p g.edges))

  -- the same of L
  abbrev pub lowers : ℕ → ℕ → List (Alternative Bound ℤ)
  lowers p v = cond (p == 0) (constant (Whole (neg_ℤ (range g v).low)) ∷ []) (map (λ (e : Edge). lower_of variables_of e.source v e.action) (incoming p g.edges))

  -- the alternatives of an unknown: an even one is a U, the odd one behind it the L of the same variable
  abbrev pub bound_unknown : ℕ → List (Alternative Bound ℤ)
  bound_unknown u = cond (u % 2 == 0) (uppers (u / 2 / variables_of) (u / 2 % variables_of)) (lowers (u / 2 / variables_of) (u / 2 % variables_of))

  -- the book
  abbrev pub bound_book : List (List (Alternative Bound ℤ))
  bound_book = map bound_unknown (range_with_len 0 (2 * (variables_of * g.points)))
