-- The laws of reports hold.
use Rattle.std.proofs.Common.{ℕ, List, arith}
use Rattle.kinds.specs.Values.{bounds, grades}
use Rattle.kinds.specs.Laws.{bounds_laws, grades_laws}
use Rattle.language_theory.specs.Graphs.{Graph}
use Rattle.language_theory.specs.Names.{Verdict}
use Rattle.language_theory.specs.Names.Outcome.{drawn}
use Rattle.language_theory.specs.WellFormed.{WellFormed}
use Rattle.language_theory.proofs.Verdicts.{drawn_well}
use Rattle.script_equations_theory.specs.Bounds.{bound_book}
use Rattle.script_equations_theory.specs.Grades.{grade_book}
use Rattle.script_equations_theory.proofs.Forms.{bound_well, grade_well}
use Rattle.soundness_theory.proofs.Sound.{sound, solution_holds}
use Rattle.soundness_theory.proofs.Pairs.{paired}
use Rattle.soundness_theory.proofs.Listing.{listed}
use Rattle.soundness_theory.proofs.Sources.{grades_tell}
use Rattle.report_theory.specs.Laws.{ReadBack}
use Rattle.report_theory.specs.Standing.{ReportStands, ReportsStand}
use Rattle.report_theory.proofs.Ends.{settled_least, one_end}
use Rattle.report_theory.proofs.Grading.{graded}
use Rattle.report_theory.proofs.Room.{has_room}
use Rattle.report_theory.proofs.Scripts.{reached_read_back}
use Rattle.report_theory.proofs.Values.{settled_known}
use Rattle.report_theory.proofs.Results.{same_results}

settled_read_back : ReadBack
settled_read_back bs bs' g g' k k' y y' z z' s s' e =
    let f = (drawn_well bs g s.script).1 in
    let f' = (drawn_well bs' g' s'.script).1 in
    let h = s.within in
    let h' = s'.within in
    let r = reached_read_back bs bs' g g' s.script s'.script k k' (omega arith) (omega arith) y y' s.settles.reaches s'.settles.reaches z z' e in
    same_results g g' y y' z z' k k' r f.first (settled_known g f k y s.settles) (settled_known g' f' k' y' s'.settles)

report_stands : (bs : List ℕ) (g : Graph) → Verdict bs (drawn g) → ReportStands g
report_stands bs g v = record {
  bounds_end = one_end bounds bounds_laws (bound_book g) (bound_well g fits);
  grades_end = one_end grades grades_laws (grade_book g) (grade_well g fits);
  bounds_tell = λ k y s.
      let least = settled_least bounds bounds_laws (bound_book g) (bound_well g fits) k y s in
      (sound g fits y (solution_holds g y least.solves), paired g fits y least.solves least.below, listed g y);
  graded = graded bs g v;
  grades_tell = grades_tell g fits;
}
  where
    fits : WellFormed g
    fits = (drawn_well bs g v).1

pub reports_stand : ReportsStand
reports_stand = record { each = report_stands; room = has_room; read_back = settled_read_back }
