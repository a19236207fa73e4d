-- What is proved of strategy improvement, for each kind of value and each well-formed book.
use Rattle.std.specs.Prelude.{◌≡◌, ℕ, suc, ◌+◌, ◌*◌, ◌<◌, ◌≤◌, true, false, ◌↔◌, List, ◌∷◌, length, replicate, Some, None, Option}
use Rattle.kinds.specs.Limits.{most_items, most_unknowns}
use Rattle.kinds.specs.Kinds.{Ops, Less, Made}
use Rattle.books.specs.Books.{at, right, worth, holds, terms, Solution, HoldsUp}
use Rattle.books.specs.Forms.{Well}
use Rattle.strategy_theory.specs.Strategies.{chosen, Unchosen, Leads, Walk}
use Rattle.strategy_theory.specs.Solving.{improved, Values, Stage, Settled, Rounds, Differ, count}
use Rattle.strategy_theory.specs.Sweeping.{swept, sweeps, opening, Replaced}
use Rattle.books.specs.declared.Term.TheVariants.{Shifted}
use Rattle.books.specs.declared.Alternative.{Alternative}

-- the strategy at set-up
abbrev pub none_chosen : ℕ → List (Option ℕ)
none_chosen n = replicate n None

module _ {V W : Type 0} (o : Ops V W) where
  -- x lies at or below y at each unknown
  abbrev pub Below : List V → List V → Type 0
  Below x y = (u : ℕ) → o.at_most (at o x u) (at o y u) ≡ true

  -- the values at set-up
  abbrev pub all_least : ℕ → List V
  all_least n = replicate n o.least

  -- the alternative a, chosen for u after the round at x
  pub record Reaches (x : List V) (u : ℕ) (a : Alternative V W) : Type 0 where
    pub over : o.at_most (at o x u) (worth o x a) ≡ true
    pub above : worth o x a ≡ o.least → ⊥
    pub true_test : holds o x a.test ≡ true

  -- one round from the strategy s with the values x
  pub record Round (m : List (List (Alternative V W))) (s : List (Option ℕ)) (x : List V) : Type 0 where
    pub reaches : (u : ℕ) (a : Alternative V W) → chosen m (improved o m x s) u ≡ Some a → Reaches x u a
    pub switches : (u : ℕ) → u < length m → Less o (at o x u) (right o m x u) → (a : Alternative V W) × (chosen m (improved o m x s) u ≡ Some a) × Less o (at o x u) (worth o x a)
    pub stays : (u : ℕ) → u < length m → o.at_most (right o m x u) (at o x u) ≡ true → chosen m (improved o m x s) u ≡ chosen m s u
    pub closed : (u v : ℕ) (w : W) → Leads o (chosen m (improved o m x s)) u (Shifted v w) → Unchosen o (chosen m (improved o m x s)) v → ⊥
    pub rings : (u k : ℕ) (w : W) → Walk o (chosen m (improved o m x s)) u u (suc k) w → suc k ≤ most_items → o.lighter w o.zero ≡ false
    pub smaller : (x' : List V) → Values o m (improved o m x s) x' → (u : ℕ) (a : Alternative V W) → chosen m (improved o m x s) u ≡ Some a → at o x' u ≡ terms o x' a.terms
    pub rises : (x' : List V) → Values o m (improved o m x s) x' → Below x x'
    pub rises_strictly : (x' : List V) → Values o m (improved o m x s) x' → (u : ℕ) → u < length m → Less o (at o x u) (right o m x u) → Less o (at o x u) (at o x' u)
    pub stage : (x' : List V) → Values o m (improved o m x s) x' → Stage o m (improved o m x s) x'
    pub under : (x' : List V) → Values o m (improved o m x s) x' → (y : List V) → HoldsUp o m y → Below x y → Below x' y
    pub under_right : (u : ℕ) → o.at_most (at o x u) (right o m x u) ≡ true
    pub rests : Settled o m x ↔ Solution o m x
    pub above : (x' z : List V) → Values o m (improved o m x s) x' → Replaced o (chosen m (improved o m x s)) (length m) z → Below x' z
    pub fixed : (z : List V) → Replaced o (chosen m (improved o m x s)) (length m) z →
        ((u : ℕ) → at o (swept o (chosen m (improved o m x s)) z (length m)) u ≡ at o z u) → Values o m (improved o m x s) z
    pub swept_values : Values o m (improved o m x s) (sweeps o (chosen m (improved o m x s)) (length m) (opening o (chosen m (improved o m x s)) (length m)) (length m))

  -- of how many items values are made: at each step of each sweep, and those of a strategy
  pub record Sizes (m : List (List (Alternative V W))) : Type 0 where
    pub at_step : (s : List (Option ℕ)) (k i : ℕ) → k ≤ length m → i ≤ length m → (u : ℕ) →
        Made o (most_unknowns * most_unknowns + most_unknowns) (at o (swept o (chosen m s) (sweeps o (chosen m s) (length m) (opening o (chosen m s) (length m)) k) i) u)
    pub of_value : (s : List (Option ℕ)) (x : List V) → Values o m s x → (u : ℕ) → ∥ Made o (length m) (at o x u) ∥₁

  -- what is proved of a book
  pub record Facts (m : List (List (Alternative V W))) : Type 0 where
    pub begins : Stage o m (none_chosen (length m)) (all_least (length m))
    pub begins_below : (y : List V) → Below (all_least (length m)) y
    pub rounds : (s : List (Option ℕ)) (x : List V) → Stage o m s x → Round m s x
    pub one_value : (s : List (Option ℕ)) (x y : List V) → Values o m s x → Values o m s y → x ≡ y
    pub differ : (s₀ : List (Option ℕ)) (x₀ : List V) → Stage o m s₀ x₀ → (ss : List (List (Option ℕ))) (s : List (Option ℕ)) (x : List V) → Rounds o m s₀ x₀ ss s x → Differ (s ∷ ss)
    pub few : (s₀ : List (Option ℕ)) (x₀ : List V) → Stage o m s₀ x₀ → (ss : List (List (Option ℕ))) (s : List (Option ℕ)) (x : List V) → Rounds o m s₀ x₀ ss s x → length ss < count m
    pub rest : (ss : List (List (Option ℕ))) (s : List (Option ℕ)) (x : List V) → Rounds o m (none_chosen (length m)) (all_least (length m)) ss s x → Settled o m x →
        Solution o m x × ((y : List V) → HoldsUp o m y → Below x y)
    pub sizes : Sizes m
    pub least : (x : List V) × Solution o m x × ((y : List V) → HoldsUp o m y → Below x y)

  -- all of it holds of every well-formed book
  abbrev pub Stands : Type 0
  Stands = (m : List (List (Alternative V W))) → Well o m → Facts m
