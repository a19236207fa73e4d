use Rattle.std.proofs.Common.{◌≡◌, true, List, [], Some, None, Option, refl, subst}
use Rattle.std.proofs.lemmas.Bool.{false≢true}
use Rattle.lexer.specs.Words.{Word}
use Rattle.language_theory.specs.Grammar.{Tree, Script}
use Rattle.language_theory.specs.Expected.{Expect, steps, accepted, at_first}
use Rattle.language_theory.specs.Laws.{GrammarStands, VerdictsStand, GraphsStand}
use Rattle.language_theory.proofs.Machine.{steps_begins, complete_script, begins_steps, script_accepted}
use Rattle.language_theory.proofs.Unique.{one_tree}
use Rattle.language_theory.proofs.Verdicts.{Says, says, some_verdict, one_verdict, passes_all, keeps_passes, drawn_well}
use Rattle.language_theory.proofs.Drawings.{graph_made}
use Rattle.language_theory.proofs.WellFormed.{in_bounds, well_formed}

accepted_script : (ws : List Word) → accepted (steps (Some at_first) ws) ≡ true → (t : Tree) × Script ws t
accepted_script ws h = go (steps (Some at_first) ws) refl h
  where
    go : (o : Option (List Expect)) → steps (Some at_first) ws ≡ o → accepted o ≡ true → (t : Tree) × Script ws t
    go None e k = absurd (false≢true k)
    go (Some x) e k = complete_script ws x e k

pub grammar_stands : GrammarStands
grammar_stands = record {
  one = λ ws t t₂ s s₂. one_tree s s₂;
  expected = begins_steps;
  begins = steps_begins;
  finished = λ ws t s. script_accepted s;
  script = accepted_script;
}

pub verdicts_stand : VerdictsStand
verdicts_stand = record {
  some = some_verdict;
  one = λ bs o o₂ v v₂. one_verdict v v₂;
  refused = λ t r e. subst (Says [] t) e (says t at_first [] refl);
  passes = λ t e. subst (Says [] t) e (says t at_first [] refl);
  keeps = passes_all;
  kept = keeps_passes;
}

pub graphs_stand : GraphsStand
graphs_stand = record { made = graph_made; in_bounds = in_bounds; well_formed = well_formed; drawn = drawn_well }
