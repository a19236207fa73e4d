-- What was done at the same names was done at these.
use Rattle.std.proofs.Common.{◌≡◌, ℕ, List, subst}
use Rattle.base.specs.declared.Refusal.{Refusal}
use Rattle.lexer.specs.Words.{Text}
use Rattle.language_theory.specs.Graphs.{Variable, Table, Drawing}
use Rattle.language_theory.specs.Expected.{Expect}
use Rattle.language_theory.specs.Readings.{TurnsBack}
use Rattle.parser.specs.Models.{vars_of, tabs_of}
use Rattle.parser.specs.Scripts.{Past}
use Rattle.parser.specs.declared.names.Names.{Names}

module _ {m n : Names} (e : m ≡ n) where
  pub at_names : (R : List Variable → List Table → ℕ → Text → Text → Drawing → Drawing → Type 0) {l : ℕ} {t t₂ : Text} {d d₂ : Drawing} {k : Names} →
      R (vars_of m) (tabs_of m) l t t₂ d d₂ × (k ≡ m) → R (vars_of n) (tabs_of n) l t t₂ d d₂ × (k ≡ n)
  at_names R {l} {t} {t₂} {d} {d₂} {k} h = subst (λ (x : Names). R (vars_of x) (tabs_of x) l t t₂ d d₂ × (k ≡ x)) e h

  pub halts_at : (C : Past) {es : List Expect} {t : Text} {r : Refusal} → TurnsBack es (C (vars_of m) (tabs_of m)) t r → TurnsBack es (C (vars_of n) (tabs_of n)) t r
  halts_at C {es} {t} {r} h = subst (λ (x : Names). TurnsBack es (C (vars_of x) (tabs_of x)) t r) e h
