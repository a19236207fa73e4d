-- What is promised of a script's bounds holds in each state of each analysis.
use Rattle.std.proofs.Common.{ℕ, List, Option}
use Rattle.kinds.specs.Values.{bounds}
use Rattle.kinds.specs.Laws.{bounds_laws}
use Rattle.kinds.specs.declared.bound.Bound.{Bound}
use Rattle.strategy_theory.specs.Lives.{State, Event, Life}
use Rattle.strategy_theory.specs.Lives.Life.{set_up, after}
use Rattle.strategy_theory.specs.Promises.{Promises}
use Rattle.strategy_theory.proofs.Keeping.{promised}
use Rattle.language_theory.specs.Graphs.{Graph}
use Rattle.language_theory.specs.WellFormed.{WellFormed}
use Rattle.script_equations_theory.specs.Bounds.{bound_book}
use Rattle.script_equations_theory.proofs.Forms.{bound_well}
use Rattle.soundness_theory.specs.Kept.{ScriptPromises, EachState}
use Rattle.soundness_theory.proofs.Sound.{sound, solution_holds}
use Rattle.soundness_theory.proofs.Pairs.{paired}
use Rattle.soundness_theory.proofs.Listing.{listed}
use Rattle.soundness_theory.proofs.Sizes.{sized}

module _ (g : Graph) (fits : WellFormed g) {Q A : Type 0} (ask : State Bound → Q → A) where
  pub script_promises : {h : List (Event Q Bound A)} {ss : List (List (Option ℕ))} {s : State Bound} → Life bounds (bound_book g) ask h ss s → ScriptPromises g s
  script_promises {h} {ss} {s} life = record {
    sound = λ q. sound g fits s.values (solution_holds g s.values (p.least q).solves);
    paired = λ q. let r = p.least q in paired g fits s.values r.solves r.below;
    listed = listed g s.values;
    sized = sized (bound_book g) (bound_well g fits) ask life;
  }
    where
      p : Promises bounds (bound_book g) h ss s
      p = promised bounds (bound_book g) ask bounds_laws (bound_well g fits) life

  pub each_state : {h : List (Event Q Bound A)} {ss : List (List (Option ℕ))} {s : State Bound} (life : Life bounds (bound_book g) ask h ss s) → EachState (ScriptPromises g) life
  each_state set_up = script_promises set_up
  each_state (after c a l d) = (each_state l, script_promises (after c a l d))
