-- Answers that hang on two tests: whether the point and the variable are there, and whether the analysis is settled.
use Rattle.std.proofs.Common.{◌≡◌, ℕ, ◌<◌, Bool, true, false, cond, nat_lt, Ok, Err, Result, IfOk, refl, sym, ap, ◌∙◌, subst, arith}
use Rattle.std.proofs.lemmas.Bool.{cond_both, and_parts, and_from}
use Rattle.std.proofs.lemmas.Bool.Decides.{nat_tests}
use Rattle.base.specs.Reasons.{nowhere}
use Rattle.base.specs.declared.Refusal.{Refusal}
use Rattle.base.specs.declared.Reason.TheVariants.{NotThere, NotSettled}
use Rattle.language_theory.specs.Graphs.{Graph}
use Rattle.script_equations_theory.specs.Bounds.{variables_of, is_there}
use Rattle.soundness_theory.specs.Questions.{Told}
use Rattle.soundness_theory.specs.Questions.Told.{turned_back}
use Rattle.sessions.specs.Answers.{told_by}

-- x where both tests hold, else the refusal of the first that fails
abbrev pub asked : {X : Type 0} → Bool → Bool → X → Result X Refusal
asked there settled x = cond there (cond settled (Ok x) (Err (nowhere NotSettled))) (Err (nowhere NotThere))

-- what is told of that
pub told_asked : {X : Type 0} (f : X → Told) (there settled : Bool) (x : X) → cond there (cond settled (f x) (turned_back 31)) (turned_back 30) ≡ told_by f (asked there settled x)
told_asked f true true x = refl
told_asked f true false x = refl
told_asked f false settled x = refl

-- where both hold, it is x
pub asked_is : {X : Type 0} (there settled : Bool) (x : X) → there ≡ true → settled ≡ true → asked there settled x ≡ Ok x
asked_is there settled x h s = ap (λ (b : Bool). asked b settled x) h ∙ ap (λ (b : Bool). asked true b x) s

-- what holds of x where both hold, holds of every answer that is not refused
pub if_asked : {X : Type 0} (there settled : Bool) (x : X) (P : X → Type 0) → (there ≡ true → settled ≡ true → P x) → (r : Result X Refusal) → r ≡ asked there settled x → IfOk r P
if_asked {X} there settled x P h r e = subst (λ (z : Result X Refusal). IfOk z P) (sym e)
    (cond_both there _ _ (λ (z : Result X Refusal). IfOk z P) (λ t. cond_both settled _ _ (λ (z : Result X Refusal). IfOk z P) (h t) (λ _. tt)) (λ _. tt))

-- a point and a variable are there if they are below the counts
pub there_of : (g : Graph) (p v : ℕ) → p < g.points → v < variables_of g → is_there g p v ≡ true
there_of g p v h k = and_from (nat_lt p g.points) (nat_lt v (variables_of g)) (grind (arith, nat_tests)) (grind (arith, nat_tests))

pub below_of : (g : Graph) (p v : ℕ) → is_there g p v ≡ true → (p < g.points) × (v < variables_of g)
below_of g p v e =
    let q = and_parts (nat_lt p g.points) (nat_lt v (variables_of g)) e in
    let a = q.0 in
    let b = q.1 in
    (grind (arith, nat_tests), grind (arith, nat_tests))

-- an unknown that is found is that of a point and a variable that are there
pub unknown_of : (g : Graph) (p v x u : ℕ) → ◌≡◌ {A = Result ℕ Refusal} (Ok u) (cond (is_there g p v) (Ok x) (Err (nowhere NotThere))) → (p < g.points) × (v < variables_of g) × (u ≡ x)
unknown_of g p v x u e = go (is_there g p v) refl e
  where
    go : (b : Bool) → is_there g p v ≡ b → ◌≡◌ {A = Result ℕ Refusal} (Ok u) (cond b (Ok x) (Err (nowhere NotThere))) → (p < g.points) × (v < variables_of g) × (u ≡ x)
    go true t h = let q = below_of g p v t in (q.0, q.1, cc)
    go false t h = absurd (cc)
