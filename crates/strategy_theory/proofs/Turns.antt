-- the rounds of a run in the list of entries
use Rattle.std.proofs.Common.{◌≡◌, ℕ, suc, ◌+◌, ◌-◌, ◌<◌, true, ◌⊎◌, List, [], ◌∷◌, length, Option, sym, refl, ap, ◌∙◌, subst, inl, inr, add-one, arith}
use native.Mathlib.Decide.{dec_lt}
use Rattle.std.proofs.lemmas.List.{length-map, length-replicate, get_or-replicate, get_or_past}
use Rattle.kinds.specs.Limits.{most_items}
use Rattle.kinds.specs.Kinds.{Ops, Laws, Made}
use Rattle.kinds.specs.Kinds.Made.{low}
use Rattle.books.specs.Books.{at}
use Rattle.books.specs.Forms.{Well}
use Rattle.books.specs.Entries.{values, choices, Short}
use Rattle.books.specs.declared.Alternative.{Alternative}
use Rattle.books.specs.declared.Entry.{Entry}
use Rattle.books.proofs.Sizes.{made_more}
use Rattle.strategy_theory.specs.Solving.{improved, Values, Stage, Settled, Unsettled, Rounds}
use Rattle.strategy_theory.specs.Solving.Rounds.{start, round}
use Rattle.strategy_theory.specs.Theory.{none_chosen, all_least}
use Rattle.strategy_theory.specs.Steps.{ImprovesAll, Evaluates, Ready, Counts}
use Rattle.strategy_theory.proofs.Stands.{stands}
use Rattle.strategy_theory.proofs.Ends.{after_is}
use Rattle.strategy_theory.proofs.Chains.{rounds_stage}
use Rattle.strategy_theory.proofs.Theory.{start_stage}
use Rattle.strategy_theory.proofs.Histories.{settled_or_not}

module _ {V W : Type 0} (o : Ops V W) (l : Laws o) (m : List (List (Alternative V W))) (well : Well o m) where
  -- the values of an improved strategy are short
  short_next : (s : List (Option ℕ)) (x x' : List V) → Stage o m s x → Values o m (improved o m x s) x' → Short o x'
  short_next s x x' st v u = subst (λ (y : List V). Made o (most_items - 1) (at o y u)) (after_is o l m well s x st x' v)
      (made_more o l (most_items - 1) (omega arith) ((stands o l m well).sizes.at_step (improved o m x s) (length m) 0 (omega arith) (omega arith) u))

  -- so are those that rounds from the start come to
  pub short_rounds : {ss : List (List (Option ℕ))} {s : List (Option ℕ)} {x : List V} → Rounds o m (none_chosen (length m)) (all_least o (length m)) ss s x → Short o x
  short_rounds start u = go (dec_lt u (length m))
    where
      go : Dec (u < length m) → Made o (most_items - 1) (at o (all_least o (length m)) u)
      go (yes h) = subst (λ (y : V). Made o (most_items - 1) y) (sym (get_or-replicate (length m) u o.least o.least h)) low
      go (no h) = subst (λ (y : V). Made o (most_items - 1) y) (sym (get_or_past (all_least o (length m)) u o.least (simp length-replicate (omega arith)))) low
  short_rounds (round {s = s} {x = x} {x' = x'} r un v) u = short_next s x x' (rounds_stage o l m well (none_chosen (length m)) (all_least o (length m)) (start_stage o l m well) r) v u

  pub ready_long : (es : List (Entry V)) → Ready o m es → length es ≡ length m
  ready_long es r = sym (length-map es (λ (e : Entry V). e.value)) ∙ r.stage.x_long

  pub counts_none : (es : List (Entry V)) → Counts o m es 0 es
  counts_none es = record { ts = []; rounds = start; counted = refl }

  -- a counted round: es improved to es', which switched something, and evaluated to es''
  module _ (es₀ : List (Entry V)) (k : ℕ) (es es' es'' : List (Entry V)) (c : Counts o m es₀ k es) (r : Ready o m es) (i : ImprovesAll o m es true es') (v : Evaluates o m es' es'') (e : choices es'' ≡ choices es') where
    now_values : Values o m (improved o m (values es) (choices es)) (values es'')
    now_values = v (choices es) (values es) r.stage i.choice

    unsettled : Unsettled o m (values es)
    unsettled = go (settled_or_not o m l well (values es))
      where
        go : Settled o m (values es) ⊎ Unsettled o m (values es) → Unsettled o m (values es)
        go (inl h) = absurd (i.unsettled refl h)
        go (inr u) = u

    pub counts_more : Counts o m es₀ (k + 1) es''
    counts_more = record {
      ts = choices es ∷ c.ts;
      rounds = subst (λ (s : List (Option ℕ)). Rounds o m (choices es₀) (values es₀) (choices es ∷ c.ts) s (values es'')) (sym (e ∙ i.choice)) (round c.rounds unsettled now_values);
      counted = ap suc c.counted ∙ sym (add-one k);
    }

    pub ready_more : Ready o m es''
    ready_more = record {
      stage = subst (λ (s : List (Option ℕ)). Stage o m s (values es'')) (sym (e ∙ i.choice)) (((stands o l m well).rounds (choices es) (values es) r.stage).stage (values es'') now_values);
      short = short_next (choices es) (values es) (values es'') r.stage now_values;
    }
