-- That a book is well formed, as a test that computes.
use Rattle.std.specs.Prelude.{ℕ, Bool, true, not, ◌&&◌, List, [], ◌∷◌, length, nat_le, nat_lt}
use Rattle.kinds.specs.Limits.{most_unknowns, most_alternatives}
use Rattle.kinds.specs.Kinds.{Ops}
use Rattle.books.specs.declared.Term.{Term}
use Rattle.books.specs.declared.Term.TheVariants.{Constant, Shifted}
use Rattle.books.specs.declared.Test.{Test}
use Rattle.books.specs.declared.Test.TheVariants.{Always, Single, Joint}
use Rattle.books.specs.declared.Terms.{Terms}
use Rattle.books.specs.declared.Terms.TheVariants.{One, Two}
use Rattle.books.specs.declared.Alternative.{Alternative}

-- f holds of each item
abbrev pub each : {A : Type 0} → (A → Bool) → List A → Bool
each f [] = true
each f (a ∷ l) = f a && each f l

module _ {V W : Type 0} (o : Ops V W) where
  -- a value that may be a constant or a threshold: of allowed size, and not least
  abbrev pub threshold_fits : V → Bool
  threshold_fits c = o.sized c && not (o.at_most c o.least)

  -- a test, a term, the terms, an alternative and a right side of a book of n unknowns
  abbrev pub test_fits : ℕ → Test V → Bool
  test_fits n Always = true
  test_fits n (Single u t) = nat_lt u n && threshold_fits t
  test_fits n (Joint u v t) = nat_lt u n && (nat_lt v n && threshold_fits t)

  abbrev pub term_fits : ℕ → Term V W → Bool
  term_fits n (Constant c) = threshold_fits c
  term_fits n (Shifted v w) = nat_lt v n && o.light w

  abbrev pub terms_fit : ℕ → Terms V W → Bool
  terms_fit n (One t) = term_fits n t
  terms_fit n (Two t s) = term_fits n t && term_fits n s

  abbrev pub alternative_fits : ℕ → Alternative V W → Bool
  alternative_fits n a = test_fits n a.test && terms_fit n a.terms

  abbrev pub right_fits : ℕ → List (Alternative V W) → Bool
  right_fits n bs = nat_le (length bs) most_alternatives && each (alternative_fits n) bs

  -- a book passes the test: Well of it is proved in proofs/Fits
  abbrev pub book_fits : List (List (Alternative V W)) → Bool
  book_fits m = nat_le (length m) most_unknowns && each (right_fits (length m)) m
