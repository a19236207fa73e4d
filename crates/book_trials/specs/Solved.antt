-- What it says that the reference and an analysis agree.
use Rattle.std.specs.Prelude.{◌≡◌, List, map}
use Rattle.kinds.specs.Kinds.{Ops}
use Rattle.books.specs.declared.Alternative.{Alternative}
use Rattle.solver.specs.Promises.{Least}
use Rattle.reference.specs.declared.extended.Extended.{Extended}

-- the numbers are the least solution of the book m, read as extended numbers
pub record IsLeastSolution {V W : Type 0} (o : Ops V W) (reading : V → Extended) (m : List (List (Alternative V W))) (numbers : List Extended) : Type 0 where
  pub values : List V
  pub least : Least o m values
  pub read : map reading values ≡ numbers
