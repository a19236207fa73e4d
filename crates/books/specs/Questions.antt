-- What a book answers: by its meaning, or a refusal of what is not there.
use Rattle.std.specs.Prelude.{ℕ, cond, List, [], length, Some, None, Ok, Err, Option, Result, nat_lt, slice_index_or}
use Rattle.base.specs.Reasons.{nowhere}
use Rattle.base.specs.declared.Refusal.{Refusal}
use Rattle.base.specs.declared.Reason.TheVariants.{NotThere}
use Rattle.books.specs.Books.{nth}

-- what is found, or the refusal of what is not there
abbrev pub found : {A : Type 0} → Option A → Result A Refusal
found None = Err (nowhere NotThere)
found (Some a) = Ok a

-- how many alternatives the unknown u of the book m has
abbrev pub counted : {A : Type 0} → List (List A) → ℕ → Result ℕ Refusal
counted m u = cond (nat_lt u (length m)) (Ok (length (slice_index_or m u []))) (Err (nowhere NotThere))

-- the alternative k of the unknown u of the book m
abbrev pub alternative : {A : Type 0} → List (List A) → ℕ → ℕ → Result A Refusal
alternative m u k = found (nth (slice_index_or m u []) k)
