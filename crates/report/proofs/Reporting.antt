-- From two settled sessions, and the lines gathered of them, to the report.
use Rattle.std.proofs.Common.{◌≡◌, ℕ, ◌<◌, Bool, true, List, ◌++◌, length, map, drop, Ok, Err, Result, MatchResult, refl, sym, ap, ◌∙◌, subst, inr, arith, length-append, length-drop}
use Rattle.std.specs.List.{flat_map}
use Rattle.std.specs.Global.{Vec}
use Rattle.std.proofs.lemmas.List.Folds.{flat_map-map}
use Rattle.base.specs.Reasons.{nowhere}
use Rattle.base.specs.declared.Refusal.{Refusal}
use Rattle.base.specs.declared.Reason.TheVariants.{BufferTooShort}
use Rattle.kinds.specs.Kinds.{Ops}
use Rattle.kinds.specs.Values.{bounds, grades}
use Rattle.kinds.specs.declared.bound.Bound.{Bound}
use Rattle.kinds.specs.declared.grade.Grade.{Grade}
use Rattle.books.specs.declared.Alternative.{Alternative}
use Rattle.sessions.specs.Lives.{State, begun}
use Rattle.sessions.specs.Graphs.{Graph}
use Rattle.sessions.specs.Bounds.{bound_book}
use Rattle.sessions.specs.Grades.{grade_book}
use Rattle.base.specs.Fronts.{Front}
use Rattle.report_theory.specs.Texts.{Report, lines, line_of, report_text}
use Rattle.report_theory.specs.Reports.{report_of}
use Rattle.report.specs.Settles.{SettlesWithin}
use Rattle.report.specs.Reported.{Gathered, Written, NotWritten}
use Rattle.report.specs.Lines.{field_text, lines_text, texts}
use Rattle.report.specs.declared.lines.Field.{Field}

-- what is known of a run of a session, told of the book itself: the session has the book of h, which is that of g
pub of_book : {G V W : Type 0} (o : Ops V W) (book : G → List (List (Alternative V W))) (budget k : ℕ) (t : Bool) (x : List V) (s : State V) (h h' g : G) → h ≡ g → h' ≡ h →
    s ≡ begun o (book h) → (s ≡ begun o (book h') → (t ≡ true) × SettlesWithin o (book h') budget k x) → (t ≡ true) × SettlesWithin o (book g) budget k x
of_book {G} o book budget k t x s h h' g e f b p =
    subst (λ (i : G). (t ≡ true) × SettlesWithin o (book i) budget k x) (f ∙ e) (p (b ∙ ap (λ (i : G). begun o (book i)) (sym f)))

pub gathered_of : (g : Graph) (budget k j : ℕ) (y : List Bound) (z : List Grade) (ls : List (List (List ℕ))) → SettlesWithin bounds (bound_book g) budget k y → SettlesWithin grades (grade_book g) budget j z →
    ls ≡ lines (report_of g y z k) → Gathered g budget ls
gathered_of g budget k j y z ls p q e = record {
  report = report_of g y z k;
  reports = record { rounds = k; values = y; bounds_settle = p; grade_rounds = j; grade_values = z; grades_settle = q; is = refl };
  lines = e;
}

-- lines one behind the other are the text
pub text_of : (r : Report) (ls : List (Vec Field)) → texts ls ≡ lines r → lines_text ls ≡ report_text r
text_of r ls e = sym (flat_map-map line_of (λ (l : Vec Field). map field_text l.items) ls) ∙ ap (flat_map line_of) e

module _ (g : Graph) (budget : ℕ) (ls : List (Vec Field)) (r : Gathered g budget (texts ls)) (old now : List ℕ) where
  written_of : (n : ℕ) → Front (lines_text ls) old now n → length now ≡ length old → Written g budget old now n
  written_of n f long =
      let e = text_of r.report ls r.lines in
      record {
        report = r.report;
        reports = r.reports;
        count = f.count ∙ ap length e;
        room = omega (arith, f.count, ap length f.list, length-append (lines_text ls) (drop n old), length-drop n old);
        text = f.list ∙ ap (λ (xs : List ℕ). xs ++ drop n old) e;
      }

  not_written_of : (e : Refusal) → (length old < length (lines_text ls)) × (now ≡ old) × (e ≡ nowhere BufferTooShort) → NotWritten g budget old now e
  not_written_of e h = record {
    why = inr (r.report, r.reports, subst (λ (n : ℕ). length old < n) (ap length (text_of r.report ls r.lines)) h.0, h.2);
    same = h.1;
  }

  pub answer_of : (a : Result ℕ Refusal) → MatchResult a (λ n. Front (lines_text ls) old now n) (λ e. (length old < length (lines_text ls)) × (now ≡ old) × (e ≡ nowhere BufferTooShort)) → length now ≡ length old →
      MatchResult a (λ n. Written g budget old now n) (λ e. NotWritten g budget old now e)
  answer_of (Ok n) f long = written_of n f long
  answer_of (Err e) h long = not_written_of e h
