-- counted rounds from the beginning come to one end, and a run from set-up says how far it has come
use Rattle.std.proofs.Common.{◌≡◌, ℕ, ◌<◌, ◌≤◌, Bool, true, false, ◌⊎◌, List, [], ◌∷◌, length, ◌↔◌, Option, sym, refl, ap, ◌∙◌, subst, inl, inr, true≢false, arith}
use Rattle.std.proofs.lemmas.Bool.{cases_lt}
use Rattle.kinds.specs.Kinds.{Ops, Laws}
use Rattle.books.specs.Forms.{Well}
use Rattle.books.specs.declared.Alternative.{Alternative}
use Rattle.strategy_theory.specs.Solving.{Settled}
use Rattle.strategy_theory.specs.Lives.{State, Event, event, Life}
use Rattle.strategy_theory.specs.Lives.Call.{run}
use Rattle.strategy_theory.specs.Lives.Answer.{made}
use Rattle.strategy_theory.specs.Promises.{Least}
use Rattle.strategy_theory.proofs.Stands.{facts}
use Rattle.strategy_theory.proofs.Histories.{both_never, earlier, same_rounds}
use Rattle.strategy_theory.proofs.Keeping.{Kept, kept}
use Rattle.report_theory.specs.Laws.{ComesAfter, SettlesAfter, MovesAfter, OneEnd}

module _ {V W : Type 0} (o : Ops V W) (l : Laws o) (m : List (List (Alternative V W))) (well : Well o m) where
  -- as many rounds come to the same values
  same_values : (k : ℕ) (x y : List V) → ComesAfter o m k x → ComesAfter o m k y → x ≡ y
  same_values k x y p q = (same_rounds o m l well p.rounds q.rounds (p.number ∙ sym q.number)).2

  -- no further round is counted where it is settled
  never_further : (k j : ℕ) (x y : List V) → SettlesAfter o m k x → ComesAfter o m j y → k < j → ⊥
  never_further k j x y p q h =
      let e : length q.past ≡ j = q.number in
      let r = earlier o m q.rounds k (omega arith) in
      let i = same_rounds o m l well p.reaches.rounds r.rounds (p.reaches.number ∙ sym r.long) in
      both_never o m r.x (subst (λ (z : List V). Settled o m z) i.2 p.settled) r.un

  one : (k j : ℕ) (x y : List V) → SettlesAfter o m k x → SettlesAfter o m j y → (k ≡ j) × (x ≡ y)
  one k j x y p q =
      let e : k ≡ j = (let f = never_further k j x y p q.reaches in let g = never_further j k y x q p.reaches in omega arith) in
      (e, same_values j x y (subst (λ (n : ℕ). ComesAfter o m n x) e p.reaches) q.reaches)

  apart : (k j : ℕ) (x : List V) → SettlesAfter o m k x → MovesAfter o m j → j < k
  apart k j x p q = go (cases_lt j k)
    where
      go : (j < k) ⊎ (k ≤ j) → j < k
      go (inl h) = h
      go (inr h) =
          let e : k ≡ j = (let f = never_further k j x q.x p q.reaches in omega arith) in
          absurd (q.unsettled (subst (λ (z : List V). Settled o m z) (same_values j x q.x (subst (λ (n : ℕ). ComesAfter o m n x) e p.reaches) q.reaches) p.settled))

-- settled values are the least solution
pub settled_least : {V W : Type 0} (o : Ops V W) → Laws o → (m : List (List (Alternative V W))) → Well o m → (k : ℕ) (x : List V) → SettlesAfter o m k x → Least o m x
settled_least o l m well k x s =
    let r = (facts o l m well).rest s.reaches.past s.reaches.strategy x s.reaches.rounds s.settled in
    record { solves = r.0; below = r.1 }

pub one_end : {V W : Type 0} (o : Ops V W) → Laws o → (m : List (List (Alternative V W))) → Well o m → OneEnd o m
one_end o l m well = record { one = one o l m well; apart = apart o l m well; least = settled_least o l m well }

-- what one run of budget b from set-up says, that made k rounds and then answered t
pub record RunSays {V W : Type 0} (o : Ops V W) (m : List (List (Alternative V W))) (b k : ℕ) (t : Bool) (x : List V) : Type 0 where
  pub reaches : ComesAfter o m k x
  pub settles : t ≡ true → SettlesAfter o m k x
  pub moves : t ≡ false → MovesAfter o m k × (k ≡ b)

pub settles_of_life : {V W Q A : Type 0} (o : Ops V W) (m : List (List (Alternative V W))) (ask : State V → Q → A) (h : List (Event Q V A)) (past : List (List (Option ℕ))) (s : State V) → Life o m ask h past s →
    (b k : ℕ) (t : Bool) → h ≡ event (run b) (made k t) ∷ [] → RunSays o m b k t s.values
settles_of_life {V} {W} {Q} {A} o m ask h past s life b k t e = record {
  reaches = reaches;
  settles = λ f. record { reaches = reaches; settled = said.0 f };
  moves = λ f. (record { x = s.values; reaches = reaches; unsettled = λ q. true≢false (sym (said.1 q) ∙ f) }, here.whole.0 b k refl (ap (made k) f));
}
  where
    here : Kept o m ask (event (run b) (made k t) ∷ []) past s
    here = subst (λ (g : List (Event Q V A)). Kept o m ask g past s) e (kept o m ask life)

    reaches : ComesAfter o m k s.values
    reaches = record { past = past; strategy = s.strategy; rounds = here.rounds; number = let f = here.answered in omega arith }

    said : (t ≡ true) ↔ Settled o m s.values
    said = here.said t refl
