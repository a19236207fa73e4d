-- counted rounds: the strategies differ, their number, and the end
use Rattle.std.proofs.Common.{◌≡◌, ℕ, suc, ◌<◌, ◌≤◌, List, [], ◌∷◌, length, replicate, None, Option, sym, refl, ap, subst, inl, inr, arith}
use Rattle.kinds.specs.Kinds.{Ops, Laws, Less}
use Rattle.books.specs.Books.{at, Solution, HoldsUp}
use Rattle.strategy_theory.specs.Strategies.{Passed, IsValue, chosen}
use Rattle.books.specs.declared.Alternative.{Alternative}
use Rattle.books.proofs.Order.{le_trans, lt_irrefl, lt_of_lt_le}
use Rattle.strategy_theory.proofs.Lists.{Distinct, pigeonhole}
use Rattle.books.proofs.Worth.{Under}
use Rattle.books.specs.Forms.{Well}
use Rattle.strategy_theory.specs.Solving.{improved, Values, Stage, Settled, Unsettled, Rounds, Held, Differ, count}
use Rattle.strategy_theory.specs.Solving.Rounds.{start, round}
use Rattle.strategy_theory.proofs.Walks.{value_unique}
use Rattle.strategy_theory.proofs.Codes.{code, code_below, code_same}
use Rattle.strategy_theory.proofs.Theory.{start_stage, start_under, round_rises, round_rises_strictly, round_stage, round_under, settled_solution}

module _ {V W : Type 0} (o : Ops V W) (l : Laws o) (m : List (List (Alternative V W))) (well : Well o m) where
  -- an earlier strategy, with its values below x
  record Behind (x : List V) (t : List (Option ℕ)) : Type 0 where
    pub y : List V
    pub stage : Stage o m t y
    pub under : Under o l y x
    pub u : ℕ
    pub less : Less o (at o y u) (at o x u)

  abbrev AllBehind : List V → List (List (Option ℕ)) → Type 0
  AllBehind x [] = Unit {0}
  AllBehind x (t ∷ ts) = Behind x t × AllBehind x ts

  abbrev codes : List (List (Option ℕ)) → List ℕ
  codes [] = []
  codes (t ∷ ts) = code m t ∷ codes ts

  codes_long : (ts : List (List (Option ℕ))) → length (codes ts) ≡ length ts
  codes_long [] = refl
  codes_long (t ∷ ts) = ap suc (codes_long ts)

  further : (x x' : List V) → Under o l x x' → (ts : List (List (Option ℕ))) → AllBehind x ts → AllBehind x' ts
  further x x' h [] b = tt
  further x x' h (t ∷ ts) b =
      let d = b.0 in
      (record { y = d.y; stage = d.stage; under = λ u. le_trans o l (d.under u) (h u); u = d.u; less = lt_of_lt_le o l d.less (h d.u) }, further x x' h ts b.1)

  behind_apart : (s : List (Option ℕ)) (x : List V) → Stage o m s x → (t : List (Option ℕ)) → Behind x t → s ≡ t → ⊥
  behind_apart s x st t b e =
      let q : IsValue o (chosen m s) b.u (at o b.y b.u) = subst (λ (r : List (Option ℕ)). IsValue o (chosen m r) b.u (at o b.y b.u)) (sym e) (b.stage.feasible.values b.u) in
      let p = value_unique o l (chosen m s) b.u (at o b.y b.u) (at o x b.u) q (st.feasible.values b.u) in
      lt_irrefl o l (subst (λ (z : V). Less o z (at o x b.u)) p b.less)

  not_held : (s : List (Option ℕ)) (x : List V) → Stage o m s x → (ts : List (List (Option ℕ))) → AllBehind x ts → Held s ts → ⊥
  not_held s x st [] b h = h
  not_held s x st (t ∷ ts) b (inl e) = behind_apart s x st t b.0 e
  not_held s x st (t ∷ ts) b (inr h) = not_held s x st ts b.1 h

  not_coded : (s : List (Option ℕ)) (x : List V) → Stage o m s x → (ts : List (List (Option ℕ))) → AllBehind x ts → Passed (code m s) (codes ts) → ⊥
  not_coded s x st [] b h = h
  not_coded s x st (t ∷ ts) b (inl e) = let d = b.0 in
      behind_apart s x st t d (code_same m s t st.s_long d.stage.s_long st.range d.stage.range e)
  not_coded s x st (t ∷ ts) b (inr h) = not_coded s x st ts b.1 h

  codes_below : (x : List V) (ts : List (List (Option ℕ))) → AllBehind x ts → (z : ℕ) → Passed z (codes ts) → z < count m
  codes_below x [] b z h = absurd h
  codes_below x (t ∷ ts) b z (inl e) = subst (λ (i : ℕ). i < count m) (sym e) (code_below m t b.0.stage.s_long b.0.stage.range)
  codes_below x (t ∷ ts) b z (inr h) = codes_below x ts b.1 z h

  record Chain (ss : List (List (Option ℕ))) (s : List (Option ℕ)) (x : List V) : Type 0 where
    pub stage : Stage o m s x
    pub behind : AllBehind x ss
    pub differ : Differ (s ∷ ss)
    pub apart : Distinct (codes (s ∷ ss))

  module _ (s₀ : List (Option ℕ)) (x₀ : List V) (st₀ : Stage o m s₀ x₀) where
    chain_more : (ss : List (List (Option ℕ))) (s : List (Option ℕ)) (x x' : List V) → Chain ss s x → Unsettled o m x → Values o m (improved o m x s) x' → Chain (s ∷ ss) (improved o m x s) x'
    chain_more ss s x x' c un v = record { stage = st; behind = b; differ = (not_held (improved o m x s) x' st (s ∷ ss) b, c.differ); apart = (not_coded (improved o m x s) x' st (s ∷ ss) b, c.apart) }
      where
        st : Stage o m (improved o m x s) x'
        st = round_stage o l m well s x c.stage x' v

        b : AllBehind x' (s ∷ ss)
        b = (
          record { y = x; stage = c.stage; under = round_rises o l m well s x c.stage x' v; u = un.0; less = round_rises_strictly o l m well s x c.stage x' v un.0 un.1 un.2 },
          further x x' (round_rises o l m well s x c.stage x' v) ss c.behind,
        )

    chain : {ss : List (List (Option ℕ))} {s : List (Option ℕ)} {x : List V} → Rounds o m s₀ x₀ ss s x → Chain ss s x
    chain start = record { stage = st₀; behind = tt; differ = (λ h. h, tt); apart = (λ h. h, tt) }
    chain (round {ss = ss} {s = s} {x = x} {x' = x'} r un v) = chain_more ss s x x' (chain r) un v

    pub rounds_stage : {ss : List (List (Option ℕ))} {s : List (Option ℕ)} {x : List V} → Rounds o m s₀ x₀ ss s x → Stage o m s x
    rounds_stage r = (chain r).stage

    -- the strategies of counted rounds differ, so the rounds are fewer than the strategies
    pub rounds_differ : {ss : List (List (Option ℕ))} {s : List (Option ℕ)} {x : List V} → Rounds o m s₀ x₀ ss s x → Differ (s ∷ ss)
    rounds_differ r = (chain r).differ

    pub rounds_few : {ss : List (List (Option ℕ))} {s : List (Option ℕ)} {x : List V} → Rounds o m s₀ x₀ ss s x → length ss < count m
    rounds_few {ss} {s} {x} r =
        let c = chain r in
        let h : suc (length (codes ss)) ≤ count m = pigeonhole (count m) (codes (s ∷ ss)) c.apart
        (λ z. elim [ inl e ↦ subst (λ (i : ℕ). i < count m) (sym e) (code_below m s c.stage.s_long c.stage.range) | inr p ↦ codes_below x ss c.behind z p ]) in
        let e = codes_long ss in omega arith

    pub rounds_under : {ss : List (List (Option ℕ))} {s : List (Option ℕ)} {x : List V} → Rounds o m s₀ x₀ ss s x → (y : List V) → HoldsUp o m y → Under o l x₀ y → Under o l x y
    rounds_under start y h u = u
    rounds_under (round {s = s} {x = x} {x' = x'} r un v) y h u = round_under o l m well s x (rounds_stage r) x' v y h (rounds_under r y h u)

  -- rounds from the start that come to rest have found the least solution
  pub rest_is_least : {ss : List (List (Option ℕ))} {s : List (Option ℕ)} {x : List V} → Rounds o m (replicate (length m) None) (replicate (length m) o.least) ss s x → Settled o m x →
      Solution o m x × ((y : List V) → HoldsUp o m y → Under o l x y)
  rest_is_least {s = s} {x = x} r h = (
    settled_solution o l m well s x (rounds_stage (replicate (length m) None) (replicate (length m) o.least) (start_stage o l m well) r) h,
    λ y k. rounds_under (replicate (length m) None) (replicate (length m) o.least) (start_stage o l m well) r y k (start_under o l m well y),
  )
