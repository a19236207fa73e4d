-- The history of calls on a script's bounds made in a row, one call after another.
use Rattle.std.proofs.Common.{◌≡◌, ℕ, ◌+◌, ◌<◌, List, [], ◌∷◌, ◌++◌, reverse, length, get_or, take, refl, sym, ap, ◌∙◌, subst, arith, Result, Option}
use Rattle.std.proofs.lemmas.List.{take_more, length-take-le, reverse-append}
use Rattle.base.specs.declared.Refusal.{Refusal}
use Rattle.kinds.specs.Values.{bounds}
use Rattle.kinds.specs.declared.bound.Bound.{Bound}
use Rattle.kinds.specs.Laws.{bounds_laws}
use Rattle.strategy_theory.specs.Lives.{State, Event, Life, event, begun}
use Rattle.strategy_theory.specs.Lives.Life.{set_up}
use Rattle.strategy_theory.specs.Promises.{GoesOn}
use Rattle.strategy_theory.proofs.Keeping.{always}
use Rattle.script_equations_theory.specs.Bounds.{bound_book}
use Rattle.soundness_theory.specs.Questions.{Question, Told, ask}
use Rattle.soundness_theory.proofs.Whole.{each_state}
use Rattle.script_graph.specs.Meaning.{meaning}
use Rattle.script_graph.specs.declared.graph.Graph.{Graph}
use Rattle.script_books.specs.declared.bounds.BoundBook.{BoundBook}
use Rattle.script_books.specs.Fitted.{graph_fits, bounds_well}
use Rattle.sessions.specs.Whole.{script_call, script_answer, script_paired, script_history, LivedWhole}
use Rattle.sessions.specs.declared.calls.ScriptCall.{ScriptCall}
use Rattle.sessions.specs.declared.calls.ScriptAnswer.{ScriptAnswer}

paired_push : (cs : List ScriptCall) (bs : List (Result ScriptAnswer Refusal)) (c : ScriptCall) (a : Result ScriptAnswer Refusal) → length cs ≡ length bs → script_paired (cs ++ c ∷ []) (bs ++ a ∷ []) ≡ script_paired cs bs ++ event (script_call c) (script_answer c a) ∷ []
paired_push [] [] c a e = refl
paired_push [] (b ∷ bs) c a e = absurd (omega arith)
paired_push (d ∷ cs) [] c a e = absurd (omega arith)
paired_push (d ∷ cs) (b ∷ bs) c a e = ap (λ (h : List (Event Question Bound Told)). event (script_call d) (script_answer d b) ∷ h) (paired_push cs bs c a (omega arith))

pub history_more : (cs : List ScriptCall) (bs : List (Result ScriptAnswer Refusal)) (i : ℕ) (d : ScriptCall) (a : Result ScriptAnswer Refusal) → i < length cs → length bs ≡ i →
    script_history (take (i + 1) cs) (bs ++ a ∷ []) ≡ event (script_call (get_or cs i d)) (script_answer (get_or cs i d) a) ∷ script_history (take i cs) bs
history_more cs bs i d a h e =
    ap (λ (ds : List ScriptCall). script_history ds (bs ++ a ∷ [])) (take_more cs i d h) ∙
    ap (λ (es : List (Event Question Bound Told)). reverse es) (paired_push (take i cs) bs (get_or cs i d) a (length-take-le i cs (omega arith) ∙ sym e)) ∙
    reverse-append (script_paired (take i cs) bs) (event (script_call (get_or cs i d)) (script_answer (get_or cs i d) a) ∷ [])

module _ (g : Graph) where
  -- a life with the history h leads to the state s
  pub record LeadsOn (h : List (Event Question Bound Told)) (s : State Bound) : Type 0 where
    pub past : List (List (Option ℕ))
    pub life : Life bounds (bound_book (meaning g)) (ask (meaning g)) h past s

  pub starts : (s : State Bound) → s ≡ begun bounds (bound_book (meaning g)) → LeadsOn [] s
  starts s e = record { past = []; life = subst (λ (r : State Bound). Life bounds (bound_book (meaning g)) (ask (meaning g)) [] [] r) (sym e) set_up }

  -- where a life leads on, everything is promised at set-up and after every call
  pub whole : (h : List (Event Question Bound Told)) (s : State Bound) → LeadsOn h s → LivedWhole (meaning g) h
  whole h s q = record {
    past = q.past;
    state = s;
    life = q.life;
    always = always bounds (bound_book (meaning g)) (ask (meaning g)) bounds_laws (bounds_well g) q.life;
    script = each_state (meaning g) (graph_fits g) (ask (meaning g)) q.life;
  }

-- one call more, in a session on the same book
pub one_more : (b b' : BoundBook) → b' ≡ b → (cs : List ScriptCall) (bs bs' : List (Result ScriptAnswer Refusal)) (i : ℕ) (a : Result ScriptAnswer Refusal) (s s' : State Bound) (k : ScriptCall) →
    GoesOn bounds (bound_book (meaning b'.graph.now)) (ask (meaning b'.graph.now)) (script_call k) (script_answer k a) s s' →
    i < length cs → k ≡ get_or cs i k → length bs ≡ i → bs' ≡ bs ++ a ∷ [] → LeadsOn b.graph.now (script_history (take i cs) bs) s → LeadsOn b.graph.now (script_history (take (i + 1) cs) bs') s'
one_more b b' same cs bs bs' i a s s' k f h at e is q =
    let g = b.graph.now in
    let f' = subst (λ (d : BoundBook). GoesOn bounds (bound_book (meaning d.graph.now)) (ask (meaning d.graph.now)) (script_call k) (script_answer k a) s s') same f in
    let r = f' (script_history (take i cs) bs) q.past q.life in
    let here = ap (λ (c : ScriptCall). event (script_call c) (script_answer c a) ∷ script_history (take i cs) bs) at in
    subst (λ (t : List (Event Question Bound Told)). LeadsOn g t s') (here ∙ sym (ap (λ (xs : List (Result ScriptAnswer Refusal)). script_history (take (i + 1) cs) xs) is ∙ history_more cs bs i k a h e)) (record { past = r.0; life = r.1 })
