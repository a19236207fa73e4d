-- Edges grouped by target.
use Rattle.std.proofs.Common.{◌≡◌, List, [], ◌++◌, All, sym, ap, ◌∙◌, subst}
use Rattle.std.specs.List.{AppendsResults}
use Rattle.std.proofs.lemmas.Fn.{chained_keeps}
use Rattle.std.proofs.lemmas.List.Elements.{All-nil, All-push}

-- what calls of a closure append has what each call gives
pub each_made : {F X : Type 0} (R : F → X → F → Type 0) (P : X → Type 0) (old new : List X) (f : F) → AppendsResults R old new f → old ≡ [] → ((g h : F) (x : X) → R g x h → P x) → All P new
each_made {X = X} R P old new f made e gives =
    let ys : List X = made.0 in
    subst (All P) (sym (made.2 ∙ ap (λ (xs : List X). xs ++ ys) e))
    (chained_keeps R (λ xs g. All P xs) (λ xs g x h all call. All-push P xs x all (gives g h x call)) ys f made.1 (All-nil P) made.3)
