-- The list that an analysis works in: for each unknown a value and a choice.
use Rattle.std.specs.Prelude.{ℕ, ◌-◌, List, map, Option}
use Rattle.kinds.specs.Limits.{most_items}
use Rattle.kinds.specs.Kinds.{Ops, Made}
use Rattle.books.specs.Books.{at}
use Rattle.books.specs.declared.Entry.{Entry}

-- the values in a list of entries
abbrev pub values : {V : Type 0} → List (Entry V) → List V
values l = map (λ (e : Entry _). e.value) l

-- the choices in a list of entries
abbrev pub choices : {V : Type 0} → List (Entry V) → List (Option ℕ)
choices l = map (λ (e : Entry _). e.choice) l

-- each value is made of so few items that one more may join it
abbrev pub Short : {V W : Type 0} → Ops V W → List V → Type 0
Short o x = (u : ℕ) → Made o (most_items - 1) (at o x u)
