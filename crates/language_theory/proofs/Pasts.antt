-- What the rules say of a word behind each past, and which names are declared then.
use Rattle.std.proofs.Common.{◌≡◌, ℕ, Bool, true, false, cond, not, ◌&&◌, List, [], ◌∷◌, pos, neg_ℤ, sym, refl, ap}
use Rattle.std.proofs.lemmas.Bool.{false≢true}
use Rattle.base.specs.declared.Place.{Place}
use Rattle.lexer.specs.Words.{Word, same}
use Rattle.lexer.specs.Words.Word.{name, number, mark}
use Rattle.lexer.specs.declared.Mark.{Mark}
use Rattle.lexer.specs.declared.Mark.TheVariants.{Dots, Minus, OpenBrace, CloseBrace, OpenBracket, Semicolon, If, While}
use Rattle.language_theory.specs.Grammar.{Order}
use Rattle.language_theory.specs.Names.{rule, before, follows, falls_behind, is_variable}
use Rattle.language_theory.specs.Readings.{Alike, Quiet, Orders, Compares, Asks, Boundary}
use Rattle.language_theory.specs.Readings.Orders.{less_than, at_most_than, greater_than, at_least_than}
use Rattle.language_theory.specs.Readings.Compares.{comparing}
use Rattle.language_theory.specs.Readings.Asks.{behind_if, behind_while}
use Rattle.language_theory.specs.Readings.Boundary.{at_start, behind_semicolon, behind_open, behind_close}
use Rattle.language_theory.proofs.Steps.{alike_name}

-- a number where no rule looks at the past
quiet_tests : (m d o x y z : Bool) → m ≡ false → d ≡ false → o ≡ false → ◌≡◌ {A = ℕ} (cond (cond m x (d && y)) 9 (cond (o && z) 10 0)) 0
quiet_tests false false false x y z e f g = refl
quiet_tests true d o x y z e f g = absurd (false≢true (sym e))
quiet_tests false true o x y z e f g = absurd (false≢true (sym f))
quiet_tests false false true x y z e f g = absurd (false≢true (sym g))

pub quiet_rule : (past : List Word) (n : ℕ) (p : Place) (b : Bool) → Quiet past → rule past (number n p) b ≡ 0
quiet_rule past n p b q = quiet_tests (follows Minus past) (follows Dots past) (follows OpenBracket past) _ _ _ q.minus q.dots q.bracket

-- and behind a sign
pub quiet_signed : (past : List Word) (s : Place) (n : ℕ) (p : Place) (b : Bool) → Quiet past → rule (mark Minus s ∷ past) (number n p) b ≡ 0
quiet_signed past s n p b q = ap (λ (d : Bool). cond (d && falls_behind (before past) (neg_ℤ (pos n))) 9 0) q.dots

-- comparisons
pub order_rule : {m : Mark} {o : Order} → Orders m o → (past : List Word) (p : Place) (b : Bool) → rule past (mark m p) b ≡ 0
order_rule less_than past p b = refl
order_rule at_most_than past p b = refl
order_rule greater_than past p b = refl
order_rule at_least_than past p b = refl

pub order_alike : {m : Mark} {o : Order} → Orders m o → (past : List Word) (p : Place) → Alike (mark m p ∷ past) past
order_alike less_than past p = record { vars = refl; tabs = refl; lev = refl }
order_alike at_most_than past p = record { vars = refl; tabs = refl; lev = refl }
order_alike greater_than past p = record { vars = refl; tabs = refl; lev = refl }
order_alike at_least_than past p = record { vars = refl; tabs = refl; lev = refl }

-- the second name of a condition: a variable, and not the first name
pub compares_rule : {n₀ : List ℕ} {past : List Word} → Compares n₀ past → (n : List ℕ) (p : Place) (b : Bool) → rule past (name n p) b ≡ cond (not (is_variable n past)) 8 (cond (same n n₀) 11 0)
compares_rule (comparing less_than) n p b = refl
compares_rule (comparing at_most_than) n p b = refl
compares_rule (comparing greater_than) n p b = refl
compares_rule (comparing at_least_than) n p b = refl

pub compares_alike : {n₀ : List ℕ} {past : List Word} → Compares n₀ past → (n : List ℕ) (p : Place) → Alike (name n p ∷ past) past
compares_alike (comparing less_than) n p = alike_name n p _ refl refl
compares_alike (comparing at_most_than) n p = alike_name n p _ refl refl
compares_alike (comparing greater_than) n p = alike_name n p _ refl refl
compares_alike (comparing at_least_than) n p = alike_name n p _ refl refl

pub compares_quiet : {n₀ : List ℕ} {past : List Word} → Compares n₀ past → Quiet past
compares_quiet (comparing less_than) = record { minus = refl; dots = refl; bracket = refl }
compares_quiet (comparing at_most_than) = record { minus = refl; dots = refl; bracket = refl }
compares_quiet (comparing greater_than) = record { minus = refl; dots = refl; bracket = refl }
compares_quiet (comparing at_least_than) = record { minus = refl; dots = refl; bracket = refl }

-- the first name of a condition
pub asks_rule : {past : List Word} → Asks past → (n : List ℕ) (p : Place) (b : Bool) → rule past (name n p) b ≡ cond (not (is_variable n past)) 8 0
asks_rule behind_if n p b = refl
asks_rule behind_while n p b = refl

pub asks_alike : {past : List Word} → Asks past → (n : List ℕ) (p : Place) → Alike (name n p ∷ past) past
asks_alike (behind_if {p = a} {past = past}) n p = alike_name n p (mark If a ∷ past) refl refl
asks_alike (behind_while {p = a} {past = past}) n p = alike_name n p (mark While a ∷ past) refl refl

-- the name that a value is assigned to
pub boundary_rule : {past : List Word} → Boundary past → (n : List ℕ) (p : Place) (b : Bool) → rule past (name n p) b ≡ cond (not (is_variable n past)) 8 0
boundary_rule at_start n p b = refl
boundary_rule behind_semicolon n p b = refl
boundary_rule behind_open n p b = refl
boundary_rule behind_close n p b = refl

pub boundary_alike : {past : List Word} → Boundary past → (n : List ℕ) (p : Place) → Alike (name n p ∷ past) past
boundary_alike at_start n p = alike_name n p [] refl refl
boundary_alike (behind_semicolon {p = a} {past = past}) n p = alike_name n p (mark Semicolon a ∷ past) refl refl
boundary_alike (behind_open {p = a} {past = past}) n p = alike_name n p (mark OpenBrace a ∷ past) refl refl
boundary_alike (behind_close {p = a} {past = past}) n p = alike_name n p (mark CloseBrace a ∷ past) refl refl
