-- Terms counted one alternative after another.
use Rattle.std.proofs.Common.{◌≡◌, ℕ, ◌+◌, List, take, Some, ap, ◌∙◌}
use Rattle.std.proofs.lemmas.List.Sums.{sum_by_push}
use Rattle.books.specs.Books.{nth}
use Rattle.books.proofs.Asked.{take_nth}
use Rattle.books.specs.declared.Alternative.{Alternative}
use Rattle.bench.specs.Asked.{term_count, terms_in}

pub terms_more : {V W : Type 0} (row : List (Alternative V W)) (k : ℕ) (a : Alternative V W) → nth row k ≡ Some a → terms_in (take (k + 1) row) ≡ terms_in (take k row) + term_count a.terms
terms_more {V} {W} row k a e = ap terms_in (take_nth row k a e) ∙ sum_by_push (λ (b : Alternative V W). term_count b.terms) (take k row) a
