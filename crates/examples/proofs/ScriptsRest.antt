-- Where the bounds and the grades of the scripts rest, by playing the rounds.
use Rattle.std.proofs.Common.{◌≡◌, ℕ, [], ◌∷◌, refl, subst}
use Rattle.kinds.specs.Values.{bounds, grades}
use Rattle.kinds.specs.Laws.{bounds_laws, grades_laws}
use Rattle.kinds.specs.declared.grade.Grade.TheVariants.{Written}
use Rattle.language_theory.specs.Examples.{looking_up_graph}
use Rattle.soundness_theory.specs.Bounds.{bound_book}
use Rattle.soundness_theory.specs.Grades.{grade_book}
use Rattle.examples.specs.Systems.{ComesTo}
use Rattle.examples.specs.Play.{comes_to}
use Rattle.examples.specs.Shown.{graph_of, rest_of}
use Rattle.examples.specs.declared.scripts.WorkedScript.{WorkedScript}
use Rattle.examples.specs.declared.scripts.WorkedScript.TheVariants.{CountingToTen, CountingToN, ReadingATable}

-- the rounds of a script's bounds
abbrev pub rounds_of : WorkedScript → ℕ
rounds_of CountingToTen = 6
rounds_of CountingToN = 6
rounds_of ReadingATable = 4

pub rests : (t : WorkedScript) → ComesTo bounds (bound_book (graph_of t)) (rounds_of t) (rest_of t)
rests CountingToTen = comes_to bounds bounds_laws (bound_book (graph_of CountingToTen)) refl 6 (rest_of CountingToTen) refl refl refl
rests CountingToN = comes_to bounds bounds_laws (bound_book (graph_of CountingToN)) refl 6 (rest_of CountingToN) refl refl refl
rests ReadingATable = comes_to bounds bounds_laws (bound_book (graph_of ReadingATable)) refl 4 (rest_of ReadingATable) refl refl refl

pub rests_after : (t : WorkedScript) {k : ℕ} → rounds_of t ≡ k → ComesTo bounds (bound_book (graph_of t)) k (rest_of t)
rests_after t e = subst (λ (n : ℕ). ComesTo bounds (bound_book (graph_of t)) n (rest_of t)) e (rests t)

pub grades_rest : ComesTo grades (grade_book looking_up_graph) 4 (Written ∷ Written ∷ Written ∷ Written ∷ [])
grades_rest = comes_to grades grades_laws (grade_book looking_up_graph) refl 4 (Written ∷ Written ∷ Written ∷ Written ∷ []) refl refl refl
