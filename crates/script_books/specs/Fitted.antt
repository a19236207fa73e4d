-- The graph of a script is well formed, so both of its books are. Proofs, not definitions: a ghost member cites them.
use Rattle.std.proofs.Math.Logic.{∥∥₁_elim}
use Rattle.kinds.specs.Values.{bounds, grades}
use Rattle.books.specs.Forms.{Well}
use Rattle.language_theory.specs.WellFormed.{WellFormed}
use Rattle.language_theory.proofs.WellFormed.{well_formed_prop}
use Rattle.language_theory.proofs.Verdicts.{drawn_well}
use Rattle.script_equations_theory.specs.Bounds.{bound_book}
use Rattle.script_equations_theory.specs.Grades.{grade_book}
use Rattle.script_equations_theory.proofs.Forms.{bound_well, grade_well}
use Rattle.script_graph.specs.Meaning.{meaning}
use Rattle.script_graph.specs.declared.graph.Graph.{Graph}

pub graph_fits : (g : Graph) → WellFormed (meaning g)
graph_fits g = ∥∥₁_elim g.drawn (well_formed_prop (meaning g)) (λ s. (drawn_well s.script (meaning g) s.read).1)

pub bounds_well : (g : Graph) → Well bounds (bound_book (meaning g))
bounds_well g = bound_well (meaning g) (graph_fits g)

pub grades_well : (g : Graph) → Well grades (grade_book (meaning g))
grades_well g = grade_well (meaning g) (graph_fits g)
