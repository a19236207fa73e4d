-- Rounds of strategy improvement: what switches, which values follow, when it is settled, and how many rounds there can be.
use Rattle.std.specs.Prelude.{◌≡◌, ℕ, suc, ◌*◌, ◌<◌, true, cond, ◌⊎◌, List, [], ◌∷◌, map, length, Some, None, Option, slice_index_or}
use Rattle.std.specs.List.{range_with_len}
use Rattle.kinds.specs.Kinds.{Ops, Less}
use Rattle.books.specs.Books.{at, right, reach}
use Rattle.strategy_theory.specs.Strategies.{chosen, IsValue, Feasible}
use Rattle.books.specs.declared.Alternative.{Alternative}

module _ {V W : Type 0} (o : Ops V W) where
  -- what is chosen for u after the round at x: where the right side is greater, the first alternative that reaches it
  abbrev pub switched : List (List (Alternative V W)) → List V → List (Option ℕ) → ℕ → Option ℕ
  switched m x s u = cond (o.at_most (right o m x u) (at o x u)) (slice_index_or s u None) (reach o x (right o m x u) (slice_index_or m u []))

  -- the strategy after the round
  abbrev pub improved : List (List (Alternative V W)) → List V → List (Option ℕ) → List (Option ℕ)
  improved m x s = map (switched m x s) (range_with_len 0 (length m))

  -- x are the values of the strategy s
  pub record Values (m : List (List (Alternative V W))) (s : List (Option ℕ)) (x : List V) : Type 0 where
    pub long : length x ≡ length m
    pub value : (u : ℕ) → u < length m → IsValue o (chosen m s) u (at o x u)

  -- what each round keeps of a strategy s and its values x: one choice and one value for each unknown, choices that are there, and the above
  pub record Stage (m : List (List (Alternative V W))) (s : List (Option ℕ)) (x : List V) : Type 0 where
    pub s_long : length s ≡ length m
    pub x_long : length x ≡ length m
    pub range : (u k : ℕ) → slice_index_or s u None ≡ Some k → k < length (slice_index_or m u [])
    pub feasible : Feasible o (chosen m s) x

  -- no right side is greater
  abbrev pub Settled : List (List (Alternative V W)) → List V → Type 0
  Settled m x = (u : ℕ) → u < length m → o.at_most (right o m x u) (at o x u) ≡ true

  -- some right side is greater
  abbrev pub Unsettled : List (List (Alternative V W)) → List V → Type 0
  Unsettled m x = (u : ℕ) × (u < length m) × Less o (at o x u) (right o m x u)

  -- counted rounds from the strategy s₀ with the values x₀ on: the strategies before the last, the latest first; the last strategy, and its values
  pub data Rounds (m : List (List (Alternative V W))) (s₀ : List (Option ℕ)) (x₀ : List V) : List (List (Option ℕ)) → List (Option ℕ) → List V → Type 0 where
    start : Rounds m s₀ x₀ [] s₀ x₀
    round : {ss : List (List (Option ℕ))} {s : List (Option ℕ)} {x x' : List V} → Rounds m s₀ x₀ ss s x → Unsettled m x → Values m (improved m x s) x' → Rounds m s₀ x₀ (s ∷ ss) (improved m x s) x'

-- t is one of the strategies
abbrev pub Held : List (Option ℕ) → List (List (Option ℕ)) → Type 0
Held t [] = ⊥
Held t (s ∷ ss) = (t ≡ s) ⊎ Held t ss

-- the strategies all differ
abbrev pub Differ : List (List (Option ℕ)) → Type 0
Differ [] = Unit {0}
Differ (s ∷ ss) = (Held s ss → ⊥) × Differ ss

-- how many strategies there are: the ways to choose one alternative or none for each unknown
abbrev pub count : {A : Type 0} → List (List A) → ℕ
count [] = 1
count (l ∷ m) = suc (length l) * count m
