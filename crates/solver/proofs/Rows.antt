-- the history of calls made in a row, one call after another
use Rattle.std.proofs.Common.{◌≡◌, ℕ, ◌+◌, ◌<◌, List, [], ◌∷◌, ◌++◌, reverse, length, get_or, take, set, sym, refl, ap, ◌∙◌, ap₂, arith, Result}
use Rattle.base.specs.declared.Refusal.{Refusal}
use Rattle.std.proofs.lemmas.List.{take_more, take_more_set, length-take-le, reverse-append}
use Rattle.strategy_theory.specs.Lives as lives
use Rattle.solver.specs.Answers.{call_of, answer_of, paired, history}
use Rattle.solver.specs.declared.calls.Call.{Call}
use Rattle.solver.specs.declared.calls.Answer.{Answer}

paired_push : {V : Type 0} (cs : List Call) (bs : List (Result (Answer V) Refusal)) (c : Call) (a : Result (Answer V) Refusal) → length cs ≡ length bs → paired (cs ++ c ∷ []) (bs ++ a ∷ []) ≡ paired cs bs ++ lives.event (call_of c) (answer_of a) ∷ []
paired_push [] [] c a e = refl
paired_push [] (b ∷ bs) c a e = absurd (omega arith)
paired_push (d ∷ cs) [] c a e = absurd (omega arith)
paired_push (d ∷ cs) (b ∷ bs) c a e = ap (λ (h : List (lives.Event ⊥ _ ⊥)). lives.event (call_of d) (answer_of b) ∷ h) (paired_push cs bs c a (omega arith))

pub history_more : {V : Type 0} (cs : List Call) (bs : List (Result (Answer V) Refusal)) (i : ℕ) (d : Call) (a : Result (Answer V) Refusal) → i < length cs → i < length bs →
    history (take (i + 1) cs) (take (i + 1) (set bs i a)) ≡ lives.event (call_of (get_or cs i d)) (answer_of a) ∷ history (take i cs) (take i bs)
history_more {V} cs bs i d a h g =
    ap₂ (λ (ds : List Call) (as' : List (Result (Answer V) Refusal)). history ds as') (take_more cs i d h) (take_more_set bs i a g) ∙
    ap (λ (es : List (lives.Event ⊥ V ⊥)). reverse es) (paired_push (take i cs) (take i bs) (get_or cs i d) a (length-take-le i cs (omega arith) ∙ sym (length-take-le i bs (omega arith)))) ∙
    reverse-append (paired (take i cs) (take i bs)) (lives.event (call_of (get_or cs i d)) (answer_of a) ∷ [])
