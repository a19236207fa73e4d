-- What a session says of the rounds that a run with a budget made.
use Rattle.std.proofs.Common.{◌≡◌, ℕ, Bool, true, false, List, [], refl, sym, ap, ◌∙◌, subst}
use Rattle.kinds.specs.Kinds.{Ops}
use Rattle.books.specs.declared.Alternative.{Alternative}
use Rattle.sessions.specs.Lives.{State, Life, begun}
use Rattle.sessions.specs.Lives.Call.{run}
use Rattle.sessions.specs.Lives.Answer.{made}
use Rattle.sessions.specs.Lives.Life.{set_up}
use Rattle.soundness_theory.specs.Questions.{Question, Told, is_settled}
use Rattle.soundness_theory.specs.Questions.Told.{turned_back}
use Rattle.soundness_theory.proofs.Settling.{settled_is}
use Rattle.sessions.specs.Sessions.{CarriesOn}
use Rattle.report_theory.specs.Laws.{SettlesAfter, MovesAfter}
use Rattle.report_theory.proofs.Ends.{RunSays, settles_of_life}

module _ {V W : Type 0} (o : Ops V W) (m : List (List (Alternative V W))) where
  -- questions may be answered in any way
  unasked : State V → Question → Told
  unasked s q = turned_back 0

  module _ (b k : ℕ) (t : Bool) (s s' : State V) (e : s ≡ begun o m) (p : CarriesOn o m (run b) (made k t) s s') where
    -- what a run from the beginning says
    says : RunSays o m b k t s'.values
    says =
        let q = p unasked [] [] (subst (λ (r : State V). Life o m unasked [] [] r) (sym e) set_up) in
        settles_of_life o m unasked _ q.0 s' q.1 b k t refl

    pub settles : t ≡ true → SettlesAfter o m k s'.values
    settles f = says.settles f

    pub moves : t ≡ false → MovesAfter o m b
    moves f = let q = says.moves f in subst (λ (n : ℕ). MovesAfter o m n) q.1 q.0

  -- where the values are settled a session says so, its book being still the same
  pub told : {B : Type 0} (meaning : B → List (List (Alternative V W))) (book book' : B) (t : Bool) (k : ℕ) (x : List V) → book' ≡ book → meaning book ≡ m → t ≡ is_settled o (meaning book') x → SettlesAfter o m k x → t ≡ true
  told meaning book book' t k x e f h p =
      h ∙ ap (λ (n : List (List (Alternative V W))). is_settled o n x) (ap meaning e ∙ f) ∙ (settled_is o m x).1 p.settled
