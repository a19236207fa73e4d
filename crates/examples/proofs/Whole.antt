-- All that is known of the scripts.
use Rattle.examples.specs.Resting.{systems}
use Rattle.std.proofs.Common.{refl}
use Rattle.language_theory.proofs.Shown.{examples}
use Rattle.examples.specs.Shown.{CountingStands, CountingToNStands, LookingUpStands, ScriptsStand}
use Rattle.examples.specs.declared.scripts.WorkedScript.TheVariants.{CountingToTen, CountingToN, ReadingATable}
use Rattle.examples.proofs.Drawings.{counting_to_n_drawn}
use Rattle.examples.proofs.ScriptsRest.{rests, grades_rest}
use Rattle.examples.proofs.Running.{runs}

counting_stands : CountingStands
counting_stands = record {
  draws = examples.counts;
  rests = rests CountingToTen;
  first = refl;
  head = refl;
  block_start = refl;
  block_end = refl;
  exit = refl;
  nothing_found = refl;
}

counting_to_n_stands : CountingToNStands
counting_to_n_stands = record {
  draws = counting_to_n_drawn;
  rests = rests CountingToN;
  head = refl;
  exit = refl;
  nothing_found = refl;
}

looking_up_stands : LookingUpStands
looking_up_stands = record {
  draws = examples.looks_up;
  rests = rests ReadingATable;
  graded = grades_rest;
  first = refl;
  not_below = refl;
  inside = refl;
  read = refl;
  found = refl;
}

pub scripts_stand : ScriptsStand
scripts_stand = record { systems_stand = systems; counting_stands = counting_stands; counting_to_n_stands = counting_to_n_stands; looking_up_stands = looking_up_stands; runs_stand = runs }
