-- The line of an edge: the points that it leads from and to, and what it does.
use Rattle.std.specs.Prelude.{ℕ, zero, suc, List, ◌++◌, ℤ, pos, negsuc, codes, decimal}
use Rattle.std.proofs.Math.Utf8.{encodes}
use Rattle.std.specs.Fmt.{signed_decimal}
use Rattle.language_theory.specs.declared.Action.{Action}
use Rattle.language_theory.specs.declared.Action.TheVariants.{Skip, Assign, Assume}
use Rattle.language_theory.specs.declared.Edge.{Edge}
use Rattle.language_theory.specs.declared.Guard.{Guard}
use Rattle.language_theory.specs.declared.Guard.TheVariants.{AtMost, AtLeast, Difference}
use Rattle.language_theory.specs.declared.Range.{Range}
use Rattle.language_theory.specs.declared.Source.{Source}
use Rattle.language_theory.specs.declared.Source.TheVariants.{Written, Sensed, Heard}
use Rattle.language_theory.specs.declared.Value.{Value}
use Rattle.language_theory.specs.declared.Value.TheVariants.{AnyOf, TableEntry, Sum, Negation}
use Rattle.listing.specs.Names.{named}

-- low..high
abbrev pub span_text : Range → List ℕ
span_text r = signed_decimal r.low ++ (codes ".." ++ signed_decimal r.high)

-- a written number alone, or where the number comes from and its range
abbrev pub chosen_text : Source → Range → List ℕ
chosen_text Written r = signed_decimal r.low
chosen_text Sensed r = codes "sense " ++ span_text r
chosen_text Heard r = codes "hear " ++ span_text r

-- i + c, i - c, or i alone where nothing is added
abbrev pub sum_text : List ℕ → ℤ → List ℕ
sum_text i (pos zero) = i
sum_text i (pos (suc c)) = i ++ (codes " + " ++ decimal (suc c))
sum_text i (negsuc c) = i ++ (codes " - " ++ decimal (suc c))

-- i <= k + d, and i < k where d is -1
abbrev pub difference_text : List ℕ → List ℕ → ℤ → List ℕ
difference_text i k (pos d) = i ++ (codes " <= " ++ sum_text k (pos d))
difference_text i k (negsuc zero) = i ++ (codes " < " ++ k)
difference_text i k (negsuc (suc d)) = i ++ (codes " <= " ++ sum_text k (negsuc (suc d)))

-- the name of a variable, a byte a letter
abbrev pub called : List (List ℕ) → ℕ → List ℕ
called names v = encodes (named names v)

-- what a variable of these names is set to
abbrev pub value_text : List (List ℕ) → Value → List ℕ
value_text names (AnyOf r s) = chosen_text s r
value_text names (TableEntry i r) =
    codes "any of " ++ (span_text r ++ (codes " (read by " ++ (called names i ++ codes ")")))
value_text names (Sum i c) = sum_text (called names i) c
value_text names (Negation i) = codes "-" ++ called names i

-- what has to hold of the variables of these names
abbrev pub guard_text : List (List ℕ) → Guard → List ℕ
guard_text names (AtMost i c) = called names i ++ (codes " <= " ++ signed_decimal c)
guard_text names (AtLeast i c) = called names i ++ (codes " >= " ++ signed_decimal c)
guard_text names (Difference i k d) = difference_text (called names i) (called names k) d

-- what an action does to the variables of these names
abbrev pub effect_text : List (List ℕ) → Action → List ℕ
effect_text names Skip = codes "skip"
effect_text names (Assign k v) = called names k ++ (codes " := " ++ value_text names v)
effect_text names (Assume g) = guard_text names g

abbrev pub edge_line : List (List ℕ) → Edge → List ℕ
edge_line names e =
    decimal e.source ++ (codes " -> " ++ (decimal e.target ++ (codes "  " ++ effect_text names e.action)))
