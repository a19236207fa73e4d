-- How long the lines of a report are at most.
use Rattle.std.proofs.Common.{◌≡◌, ℕ, suc, ◌+◌, ◌<◌, ◌≤◌, List, [], ◌∷◌, length, pos, negsuc, arith, length-append}
use Rattle.std.proofs.lemmas.Fmt.{length-decimal-le}
use Rattle.std.specs.Prelude.{decimal}
use Rattle.kinds.specs.Texts.{bound_text}
use Rattle.kinds.specs.Values.{rank_of, SizedBy}
use Rattle.kinds.specs.declared.bound.Bound.{Bound}
use Rattle.kinds.specs.declared.bound.Bound.TheVariants.{Least, Whole, Greatest}
use Rattle.kinds.specs.declared.grade.Grade.{Grade}
use Rattle.kinds.specs.declared.grade.Grade.TheVariants.{Unreached, Written, Sensed, Heard}
use Rattle.report_theory.specs.Texts.{line_of}

-- no line is longer
abbrev pub most_width : ℕ
most_width = 71

-- a line, by its fields, is no longer
abbrev pub Narrow : List (List ℕ) → Type 0
Narrow fs = length (line_of fs) ≤ most_width

-- the fields of a line, with a byte behind each
abbrev pub widths : List (List ℕ) → ℕ
widths [] = 0
widths (f ∷ fs) = suc (length f) + widths fs

pub line_width : (fs : List (List ℕ)) → 0 < length fs → length (line_of fs) ≡ widths fs
line_width [] h = absurd (omega arith)
line_width (f ∷ []) h = let e = length-append f (10 ∷ []) in omega arith
line_width (f ∷ g ∷ fs) h = let e = length-append f (32 ∷ line_of (g ∷ fs)) in let r = line_width (g ∷ fs) (omega arith) in omega arith

-- the texts of bounds and of grades
pub bound_width : (n : ℕ) (x : Bound) → n ≤ 1536 → SizedBy n x → length (bound_text x) ≤ 14
bound_width n Least h s = omega arith
bound_width n (Whole (pos a)) h s = let w = length-decimal-le 13 a (omega arith) (omega arith) (omega arith) in omega arith
bound_width n (Whole (negsuc a)) h s = let w = length-decimal-le 13 (suc a) (omega arith) (omega arith) (omega arith) in omega arith
bound_width n Greatest h s = omega arith

pub rank_width : (x : Grade) → length (decimal (rank_of x)) ≤ 1
rank_width x = length-decimal-le 1 (rank_of x) (omega arith) (small x) (omega (arith, small x))
  where
    small : (x : Grade) → rank_of x < 10
    small Unreached = omega arith
    small Written = omega arith
    small Sensed = omega arith
    small Heard = omega arith
