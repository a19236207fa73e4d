use Rattle.std.proofs.Common.{◌≡◌, ℕ, ◌<◌, [], get_or, Some}
use Rattle.kinds.specs.Limits.{most_items}
use Rattle.kinds.specs.Kinds.{Made}
use Rattle.books.specs.Books.{nth, worth}
use Rattle.books.specs.Entries.{values, Short}
use Rattle.books.specs.declared.Alternative.{Alternative}
use Rattle.books.proofs.Order.{Le}
use Rattle.books.proofs.evaluation.rises.Given as goal

abbrev pub invariant-loop-number : goal.invariant-loop-number
invariant-loop-number g l = Short g.K.Kind.ops (values l.list) → Made g.K.Kind.ops most_items l.value →
    (k : ℕ) (a : Alternative g.row.K.Denot g.row.K-Weight.Denot) → k < l.number → nth (get_or (g.B.Book.equations l.book) l.unknown []) k ≡ Some a → Le g.K.Kind.ops (worth g.K.Kind.ops (values l.list) a) l.value
