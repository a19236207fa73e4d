-- The examples, by computation.
use Rattle.std.proofs.Common.{codes, refl, lit≤}
use Rattle.lexer.specs.Words.{text}
use Rattle.language_theory.specs.Grammar.{Tree, Script}
use Rattle.language_theory.specs.Grammar.Const.{plain}
use Rattle.language_theory.specs.Grammar.Span.{span}
use Rattle.language_theory.specs.Grammar.Heads.{no_decl, var_decl, table_decl}
use Rattle.language_theory.specs.Grammar.Compare.{less, greater_equal}
use Rattle.language_theory.specs.Grammar.Compared.{named, fixed}
use Rattle.language_theory.specs.Grammar.Cond.{condition}
use Rattle.language_theory.specs.Grammar.Right.{a_sum, a_difference, a_negation, a_sense, a_lookup}
use Rattle.language_theory.specs.Grammar.Body.{no_stmt, assignment, if_else_stmt, while_stmt}
use Rattle.language_theory.specs.Grammar.Script.{script}
use Rattle.language_theory.specs.Names.{Verdict}
use Rattle.language_theory.specs.Names.Outcome.{drawn}
use Rattle.language_theory.specs.Names.Verdict.{fine}
use Rattle.language_theory.specs.Examples.{Examples, at, counting, counting_graph, looking_up, looking_up_graph, choosing, choosing_graph}
use Rattle.lexer.proofs.Reading.{reads_text}
use Rattle.language_theory.specs.Rules.{words}
use Rattle.language_theory.proofs.Verdicts.{passes_with, refused_at}

counting_script : (t : Tree) × Script (words (text counting)) t
counting_script = (_, script (var_decl (span plain plain) no_decl) (while_stmt (condition less (fixed plain)) (assignment a_sum no_stmt) no_stmt))

counting_drawn : Verdict counting (drawn counting_graph)
unfolding counting_script
counting_drawn = fine (lit≤ tt) (reads_text counting) (passes_with (text counting) counting_script.0 counting_script.1 refl) (lit≤ tt)

looking_up_script : (t : Tree) × Script (words (text looking_up)) t
looking_up_script = (_, script (var_decl (span plain plain) (table_decl (span plain plain) no_decl)) (assignment a_lookup no_stmt))

looking_up_drawn : Verdict looking_up (drawn looking_up_graph)
unfolding looking_up_script
looking_up_drawn = fine (lit≤ tt) (reads_text looking_up) (passes_with (text looking_up) looking_up_script.0 looking_up_script.1 refl) (lit≤ tt)

choosing_script : (t : Tree) × Script (words (text choosing)) t
choosing_script = (
  _,
  script (var_decl (span plain plain) (var_decl (span plain plain) no_decl))
      (if_else_stmt (condition greater_equal named) (assignment (a_sense (span plain plain)) no_stmt) (assignment a_negation no_stmt) (assignment a_difference no_stmt)),
)

choosing_drawn : Verdict choosing (drawn choosing_graph)
unfolding choosing_script
choosing_drawn = fine (lit≤ tt) (reads_text choosing) (passes_with (text choosing) choosing_script.0 choosing_script.1 refl) (lit≤ tt)

pub examples : Examples
examples = record {
  counts = counting_drawn;
  looks_up = looking_up_drawn;
  chooses = choosing_drawn;
  no_word = refused_at (codes "var i = 0..3;\ni := i $ 1;") 2 (at 2 8) (lit≤ tt) refl;
  large_number = refused_at (codes "var i = 0..2147483648;") 3 (at 1 12) (lit≤ tt) refl;
  long_name = refused_at (codes "var i = 0..1;\nabcdefghijklmnopq := 1;") 4 (at 2 1) (lit≤ tt) refl;
  unfit_word = refused_at (codes "var i = 0..3;\ni = 3;") 5 (at 2 3) (lit≤ tt) refl;
  early_end = refused_at (codes "var i = 0..3;\nif i < 1 {\n  i := 2;") 5 (at 3 10) (lit≤ tt) refl;
  end_after_line = refused_at (codes "var i = 0..3\n") 5 (at 2 1) (lit≤ tt) refl;
  ninth_level = refused_at (codes "var i = 0..3;\nwhile i<1{while i<1{while i<1{while i<1{while i<1{while i<1{while i<1{while i<1{\nwhile i<1{") 6 (at 3 10) (lit≤ tt) refl;
  declared_before = refused_at (codes "var i = 0..3;\ntable i[4] = 0..1;") 7 (at 2 7) (lit≤ tt) refl;
  undeclared = refused_at (codes "var i = 0..3;\ni := cal[i];") 8 (at 2 6) (lit≤ tt) refl;
  wrong_sort = refused_at (codes "table t[2] = 0..1;\nvar i = 0..3;\ni := t $") 8 (at 3 6) (lit≤ tt) refl;
  falling_range = refused_at (codes "var i = 3..-5;") 9 (at 1 13) (lit≤ tt) refl;
  size_zero = refused_at (codes "table t[0] = 0..1;") 10 (at 1 9) (lit≤ tt) refl;
  large_size = refused_at (codes "table t[65537] = 0..1;") 10 (at 1 9) (lit≤ tt) refl;
  name_twice = refused_at (codes "var i = 0..3;\nif i < i { }") 11 (at 2 8) (lit≤ tt) refl;
  ninth_variable = refused_at (codes "var a=0..0;var b=0..0;var c=0..0;var d=0..0;var e=0..0;var f=0..0;var g=0..0;var h=0..0;\nvar i=0..0;") 12 (at 2 5) (lit≤ tt) refl;
}
