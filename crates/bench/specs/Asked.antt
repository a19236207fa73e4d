-- How many alternatives and terms a book has.
use Rattle.std.specs.Prelude.{ℕ, List, length}
use Rattle.std.specs.List.{sum_by}
use Rattle.books.specs.declared.Terms.TheVariants.{One, Two}
use Rattle.books.specs.declared.Terms.{Terms}
use Rattle.books.specs.declared.Alternative.{Alternative}

module _ {V W : Type 0} where
  abbrev pub term_count : Terms V W → ℕ
  term_count (One t) = 1
  term_count (Two t s) = 2

  -- of one unknown
  abbrev pub terms_in : List (Alternative V W) → ℕ
  terms_in row = sum_by (λ (a : Alternative V W). term_count a.terms) row

  -- of a book
  abbrev pub all_alternatives : List (List (Alternative V W)) → ℕ
  all_alternatives m = sum_by length m

  abbrev pub all_terms : List (List (Alternative V W)) → ℕ
  all_terms m = sum_by terms_in m
