-- The systems come to rest, and the values of bounds stay in size.
use Rattle.std.specs.Prelude.{◌≡◌, ℕ, length, refl}
use Rattle.std.proofs.Common.{subst}
use Rattle.std.proofs.Math.Logic.{∥∥₁_elim}
use Rattle.kinds.specs.Values.{bounds, grades}
use Rattle.kinds.specs.Laws.{bounds_laws, grades_laws}
use Rattle.kinds.proofs.Sizes.{made_sized, sized_prop}
use Rattle.books.specs.Books.{at}
use Rattle.strategy_theory.proofs.Keeping.{promised}
use Rattle.examples.specs.Systems.{ComesTo, system_equations, rest_of, copying_grades, resting_grades, SystemsStand, BoundedLives}
use Rattle.examples.specs.declared.systems.System.{System}
use Rattle.examples.specs.declared.systems.System.TheVariants.{Nothing, Copying, Capped, Growing, Groundless, Falling}
use Rattle.examples.specs.Play.{comes_to}

-- the rounds of a system
abbrev pub rounds_of : System → ℕ
rounds_of Nothing = 0
rounds_of Copying = 2
rounds_of Capped = 2
rounds_of Growing = 2
rounds_of Groundless = 0
rounds_of Falling = 1

rests : (t : System) → ComesTo bounds (system_equations t) (rounds_of t) (rest_of t)
rests Nothing = comes_to bounds bounds_laws (system_equations Nothing) refl 0 (rest_of Nothing) refl refl refl
rests Copying = comes_to bounds bounds_laws (system_equations Copying) refl 2 (rest_of Copying) refl refl refl
rests Capped = comes_to bounds bounds_laws (system_equations Capped) refl 2 (rest_of Capped) refl refl refl
rests Growing = comes_to bounds bounds_laws (system_equations Growing) refl 2 (rest_of Growing) refl refl refl
rests Groundless = comes_to bounds bounds_laws (system_equations Groundless) refl 0 (rest_of Groundless) refl refl refl
rests Falling = comes_to bounds bounds_laws (system_equations Falling) refl 1 (rest_of Falling) refl refl refl

pub rests_after : (t : System) {k : ℕ} → rounds_of t ≡ k → ComesTo bounds (system_equations t) k (rest_of t)
rests_after t e = subst (λ (n : ℕ). ComesTo bounds (system_equations t) n (rest_of t)) e (rests t)

pub grades_rest : ComesTo grades copying_grades 2 resting_grades
grades_rest = comes_to grades grades_laws copying_grades refl 2 resting_grades refl refl refl

pub systems : SystemsStand
systems = record {
  no_unknowns = rests Nothing;
  copied = rests Copying;
  capped_at_9 = rests Capped;
  grown = rests Growing;
  ungrounded = rests Groundless;
  stays = rests Falling;
  graded = grades_rest;
}

pub bounded : BoundedLives
bounded m well h ss s life u =
    ∥∥₁_elim ((promised bounds m (λ s q. q) bounds_laws well life).sized u) (sized_prop (length m) (at bounds s.values u)) made_sized
