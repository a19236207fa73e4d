-- Families of books of bounds: the alternatives of each unknown, by its number.
use Rattle.std.specs.Prelude.{ℕ, ◌+◌, ◌-◌, ◌*◌, ◌/◌, ◌%◌, cond, List, [], ◌∷◌, map, Some, None, Option, ℤ, pos, ◌==◌, nat_lt}
use Rattle.std.specs.List.{range_with_len}
use Rattle.kinds.specs.declared.bound.Bound.{Bound}
use Rattle.kinds.specs.declared.bound.Bound.TheVariants.{Whole}
use Rattle.books.specs.Forms.{constant, shifted}
use Rattle.books.specs.declared.Term.TheVariants.{Constant, Shifted}
use Rattle.books.specs.declared.Test.TheVariants.{Always}
use Rattle.books.specs.declared.Terms.TheVariants.{Two}
use Rattle.books.specs.declared.Alternative.{Alternative}
use Rattle.bench.specs.declared.shaped.Shape.{Shape}
use Rattle.bench.specs.declared.shaped.Shape.TheVariants.{Chain, Reverse, Ring, Grid}

-- zero
abbrev pub ground_of : Alternative Bound ℤ
ground_of = constant (Whole (pos 0))

-- the unknown v and one more
abbrev pub over : ℕ → Alternative Bound ℤ
over v = shifted v (pos 1)

-- what follows another unknown, if it follows any: that unknown and one more, or zero
abbrev pub link : Option ℕ → Alternative Bound ℤ
link None = ground_of
link (Some v) = over v

-- the unknown v and one more, c at most
abbrev pub capped : ℕ → ℕ → Alternative Bound ℤ
capped v c = record { test = Always; terms = Two (Shifted v (pos 1)) (Constant (Whole (pos c))) }

-- a chain in order: u0 = 0, u(k) = u(k-1) + 1
abbrev pub chain : ℕ → List (Alternative Bound ℤ)
chain k = cond (k == 0) ground_of (over (k - 1)) ∷ []

-- a chain of n in reverse order: u(n-1) = 0, u(k) = u(k+1) + 1
abbrev pub backward : ℕ → ℕ → List (Alternative Bound ℤ)
backward n k = cond (k + 1 == n) ground_of (over (k + 1)) ∷ []

-- a ring of n with a cap: u0 = max(0, min(u(n-1) + 1, 1000000)), u(k) = u(k-1) + 1
abbrev pub ring : ℕ → ℕ → List (Alternative Bound ℤ)
ring n k = cond (k == 0) (ground_of ∷ capped (n - 1) 1000000 ∷ []) (over (k - 1) ∷ [])

-- how high the loop of the unknown k of a grid goes: 100 in the corner, and 100 more with each step down or to the right
abbrev pub height : ℕ → ℕ
height k = 100 * (k / 8 + k % 8 + 1)

-- what comes into the unknown k of a grid besides from the left: 0 in the corner, in the first row what stands to the left, in the others what stands above
abbrev pub entry_to : ℕ → Alternative Bound ℤ
entry_to k = cond (k == 0) ground_of (over (cond (nat_lt k 8) (k - 1) (k - 8)))

-- a grid of loops with eight columns, row by row: in row r and column c the largest of min(u(r,c) + 1, 100 × (r + c + 1)), of 0 where r = c = 0, of u(r-1,c) + 1 where r > 0, and of u(r,c-1) + 1 where c > 0
abbrev pub grid : ℕ → List (Alternative Bound ℤ)
grid k = capped k (height k) ∷ entry_to k ∷ cond (nat_lt k 8) [] (cond (k % 8 == 0) [] (over (k - 1) ∷ []))

-- the alternatives of the unknown k in a book of n unknowns of a shape
abbrev pub row : Shape → ℕ → ℕ → List (Alternative Bound ℤ)
row Chain n k = chain k
row Reverse n k = backward n k
row Ring n k = ring n k
row Grid n k = grid k

-- the book of n unknowns of a shape
abbrev pub family_equations : Shape → ℕ → List (List (Alternative Bound ℤ))
family_equations s n = map (row s n) (range_with_len 0 n)
