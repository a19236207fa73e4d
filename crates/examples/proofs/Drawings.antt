-- The graphs of the scripts, from their texts.
use Rattle.std.proofs.Common.{◌≡◌, ℕ, List, refl, subst, lit≤}
use Rattle.lexer.specs.Words.{text}
use Rattle.lexer.proofs.Reading.{reads_text}
use Rattle.language_theory.specs.Grammar.{Tree, Script}
use Rattle.language_theory.specs.Grammar.Const.{plain, signed}
use Rattle.language_theory.specs.Grammar.Span.{span}
use Rattle.language_theory.specs.Grammar.Heads.{no_decl, var_decl}
use Rattle.language_theory.specs.Grammar.Compare.{less}
use Rattle.language_theory.specs.Grammar.Compared.{named}
use Rattle.language_theory.specs.Grammar.Cond.{condition}
use Rattle.language_theory.specs.Grammar.Right.{a_const, a_sum, a_hear}
use Rattle.language_theory.specs.Grammar.Body.{no_stmt, assignment, while_stmt}
use Rattle.language_theory.specs.Grammar.Script.{script}
use Rattle.language_theory.specs.Names.{Verdict}
use Rattle.language_theory.specs.Names.Outcome.{drawn}
use Rattle.language_theory.specs.Names.Verdict.{fine}
use Rattle.language_theory.specs.Rules.{words}
use Rattle.language_theory.proofs.Verdicts.{passes_with}
use Rattle.language_theory.proofs.Shown.{examples}
use Rattle.examples.specs.Scripts.{counting_to_n, counting_to_n_graph, hearing, hearing_graph}
use Rattle.examples.specs.Shown.{text_of, graph_of}
use Rattle.examples.specs.declared.scripts.WorkedScript.{WorkedScript}
use Rattle.examples.specs.declared.scripts.WorkedScript.TheVariants.{CountingToTen, CountingToN, ReadingATable}

counting_to_n_script : (t : Tree) × Script (words (text counting_to_n)) t
counting_to_n_script = (
  _,
  script (var_decl (span plain plain) (var_decl (span plain plain) no_decl)) (while_stmt (condition less named) (assignment a_sum no_stmt) no_stmt),
)

pub counting_to_n_drawn : Verdict counting_to_n (drawn counting_to_n_graph)
unfolding counting_to_n_script
counting_to_n_drawn = fine (lit≤ tt) (reads_text counting_to_n) (passes_with (text counting_to_n) counting_to_n_script.0 counting_to_n_script.1 refl) (lit≤ tt)

hearing_script : (t : Tree) × Script (words (text hearing)) t
hearing_script = (_, script (var_decl (span plain plain) no_decl) (assignment (a_const plain) (assignment (a_hear (span signed plain)) no_stmt)))

pub hearing_drawn : Verdict hearing (drawn hearing_graph)
unfolding hearing_script
hearing_drawn = fine (lit≤ tt) (reads_text hearing) (passes_with (text hearing) hearing_script.0 hearing_script.1 refl) (lit≤ tt)

graph_drawn : (t : WorkedScript) → Verdict (text_of t) (drawn (graph_of t))
graph_drawn CountingToTen = examples.counts
graph_drawn CountingToN = counting_to_n_drawn
graph_drawn ReadingATable = examples.looks_up

pub text_drawn : (t : WorkedScript) {bs : List ℕ} → text_of t ≡ bs → Verdict bs (drawn (graph_of t))
text_drawn t e = subst (λ (cs : List ℕ). Verdict cs (drawn (graph_of t))) e (graph_drawn t)
