-- What a list that is filled from the front looks like.
use Rattle.std.specs.Prelude.{◌≡◌, ℕ, List, ◌++◌, length, drop}

-- the entries xs, n of them, stand at the front of the list es', which was es before; what lies behind them stays
pub record Front {T : Type 0} (xs es es' : List T) (n : ℕ) : Type 0 where
  pub count : n ≡ length xs
  pub list : es' ≡ xs ++ drop n es
