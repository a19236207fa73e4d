-- What a book of equations says: the value of an alternative and of a right side, and what solves it.
use Rattle.std.specs.Prelude.{◌≡◌, ℕ, zero, suc, ◌<◌, Bool, true, cond, List, [], ◌∷◌, ◌++◌, length, Some, None, Option, slice_index_or}
use Rattle.kinds.specs.Kinds.{Ops, Made}
use Rattle.kinds.specs.Limits.{most_items}
use Rattle.books.specs.declared.Term.{Term}
use Rattle.books.specs.declared.Term.TheVariants.{Constant, Shifted}
use Rattle.books.specs.declared.Test.{Test}
use Rattle.books.specs.declared.Test.TheVariants.{Always, Single, Joint}
use Rattle.books.specs.declared.Terms.{Terms}
use Rattle.books.specs.declared.Terms.TheVariants.{One, Two}
use Rattle.books.specs.declared.Alternative.{Alternative}
use Rattle.books.specs.declared.evaluation.RightSide.{RightSide}

-- what stands at a place of a list, if anything does
abbrev pub nth : {A : Type 0} → List A → ℕ → Option A
nth [] k = None
nth (a ∷ rest) zero = Some a
nth (a ∷ rest) (suc k) = nth rest k

-- one place further
abbrev pub next : Option ℕ → Option ℕ
next None = None
next (Some k) = Some (suc k)

module _ {V W : Type 0} (o : Ops V W) where
  -- the value of an unknown; least where there is no such unknown
  abbrev pub at : List V → ℕ → V
  at x u = slice_index_or x u o.least

  abbrev pub smaller : V → V → V
  smaller a b = cond (o.at_most a b) a b

  abbrev pub greater : V → V → V
  greater a b = cond (o.at_most b a) a b

  -- whether a test holds at the values x
  abbrev pub holds : List V → Test V → Bool
  holds x Always = true
  holds x (Single u t) = o.at_most t (at x u)
  holds x (Joint u v t) = o.joint (at x u) (at x v) t

  -- the value of a term: its constant, or the unknown shifted by the weight
  abbrev pub term : List V → Term V W → V
  term x (Constant c) = c
  term x (Shifted u w) = o.shift (at x u) w

  -- the smaller of the terms
  abbrev pub terms : List V → Terms V W → V
  terms x (One t) = term x t
  terms x (Two t s) = smaller (term x t) (term x s)

  -- the value of an alternative: least if its test fails, otherwise the smaller of its terms
  abbrev pub worth : List V → Alternative V W → V
  worth x a = cond (holds x a.test) (terms x a.terms) o.least

  -- the largest value of the alternatives, least if there is none
  abbrev pub best : List V → List (Alternative V W) → V
  best x [] = o.least
  best x (a ∷ rest) = greater (worth x a) (best x rest)

  -- the right side of an unknown
  abbrev pub right : List (List (Alternative V W)) → List V → ℕ → V
  right m x u = best x (slice_index_or m u [])

  -- the first alternative that is worth r or more
  abbrev pub reach : List V → V → List (Alternative V W) → Option ℕ
  reach x r [] = None
  reach x r (a ∷ rest) = cond (o.at_most r (worth x a)) (Some zero) (next (reach x r rest))

  -- each unknown has its right side
  pub record Solution (m : List (List (Alternative V W))) (x : List V) : Type 0 where
    pub long : length x ≡ length m
    pub same : (u : ℕ) → u < length m → at x u ≡ right m x u

  -- no right side is greater than the value
  pub record HoldsUp (m : List (List (Alternative V W))) (x : List V) : Type 0 where
    pub long : length x ≡ length m
    pub under : (u : ℕ) → u < length m → o.at_most (right m x u) (at x u) ≡ true

-- what is computed of a right side: the largest value of the alternatives bs at the values x, and the first of them that reaches it
pub record Largest {V W : Type 0} (o : Ops V W) (x : List V) (bs : List (Alternative V W)) (r : RightSide V) : Type 0 where
  pub value : r.value ≡ best o x bs
  pub first : r.first ≡ reach o x (best o x bs) bs

-- one alternative more, of the number k and the value v: r is then the largest and first of all
pub record Betters {V W : Type 0} (o : Ops V W) (known : RightSide V) (k : ℕ) (v : V) (r : RightSide V) : Type 0 where
  pub more : (x : List V) (bs : List (Alternative V W)) (a : Alternative V W) → Largest o x bs known → k ≡ length bs → v ≡ worth o x a →
      Made o most_items v → Made o most_items known.value → Largest o x (bs ++ a ∷ []) r
