use Rattle.std.proofs.Common.{[], get_or, take}
use Rattle.books.specs.Books.{Largest}
use Rattle.books.specs.Entries.{values, Short}
use Rattle.books.proofs.evaluation.right_side.Given as goal

abbrev pub invariant-loop-number : goal.invariant-loop-number
invariant-loop-number g l = Short g.K.Kind.ops (values l.list) → Largest g.K.Kind.ops (values l.list) (take l.number (get_or (g.B.Book.equations l.book) l.unknown [])) l.best
