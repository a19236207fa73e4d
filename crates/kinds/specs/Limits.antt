-- The limits of kinds, books and analyses, in one place. Definitions and proofs speak of them by these names.
use Rattle.std.specs.Prelude.{ℕ}

-- how many constants, weights and thresholds may go into one sum: so far a kind owes its laws, and its functions are exact
abbrev pub most_items : ℕ
most_items = 4194304

-- how many unknowns a book may have
abbrev pub most_unknowns : ℕ
most_unknowns = 1536

-- how many alternatives an unknown may have
abbrev pub most_alternatives : ℕ
most_alternatives = 16

-- the largest budget of a run, and the largest count of rounds that is shown
abbrev pub most_rounds : ℕ
most_rounds = 65535
