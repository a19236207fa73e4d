use Rattle.std.proofs.Common.{◌≡◌, ℕ, List, [], ◌∷◌, length, replicate, refl, ap, ap₂, ◌∙◌, rules}
use Rattle.std.specs.List.{FoldsTo}
use Rattle.strategy_theory.specs.Calls.{fresh_entry}
use Rattle.solver.proofs.analysis.clear.Goals as goal

-- a list each item of which is d
all_same : {P A : Type 0} (R : P → A → P → Type 0) (d : A) → (p q : P) (xs : List A) → FoldsTo R p xs q → ((p : P) (x : A) (q : P) → R p x q → x ≡ d) → xs ≡ replicate (length xs) d
all_same R d p q [] h f = refl
all_same R d p q (x ∷ xs) h f = ap₂ (λ (y : _) (ys : List _). y ∷ ys) (f p x h.0 h.1) (all_same R d h.0 q xs h.2 f)

pub returns : goal.returns
returns g c =
    let ran = c.fill_with.ensures.ran in
    all_same _ (fresh_entry g.K.Kind.ops) _ ran.0 c.fill_with.new.self ran.1 (λ p x q k. search rules)
    ∙ ap (λ (n : ℕ). replicate n (fresh_entry g.K.Kind.ops)) c.fill_with.ensures.len
