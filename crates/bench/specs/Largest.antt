-- What is shown of the values of an analysis.
use Rattle.std.specs.Prelude.{ℕ, ◌<◌, List, ℤ, pos, ◌≤ℤ◌, unwrap_or}
use Rattle.kinds.specs.Values.{bounds, whole_of}
use Rattle.kinds.specs.declared.bound.Bound.{Bound}
use Rattle.books.specs.Books.{at}
use Rattle.books.specs.Entries.{values}
use Rattle.books.specs.declared.Entry.{Entry}

-- the whole number that the unknown u shows, 0 if it shows none
abbrev pub shown_at : List (Entry Bound) → ℕ → ℤ
shown_at es u = unwrap_or (whole_of (at bounds (values es) u)) (pos 0)

-- no whole number among the first n values is greater than b
abbrev pub Tops : List (Entry Bound) → ℕ → ℤ → Type 0
Tops es n b = (k : ℕ) → k < n → shown_at es k ≤ℤ b
