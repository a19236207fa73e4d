-- path evaluation in the list of entries, by sweeps in place
use Rattle.std.proofs.Common.{◌≡◌, ℕ, ◌+◌, ◌-◌, ◌<◌, ◌≤◌, List, [], ◌∷◌, map, length, get_or, set, Some, None, Option, sym, refl, ap, ◌∙◌, subst, subst₂, arith}
use Rattle.std.proofs.lemmas.List.{length-map, get_or-map, map-set, set-get_or, ext_get_or}
use Rattle.std.proofs.lemmas.List.FromFn.{length-map-range_with_len, get_or-map-range_with_len}
use Rattle.kinds.specs.Limits.{most_items}
use Rattle.kinds.specs.Kinds.{Ops, Laws, Made}
use Rattle.books.specs.Books.{at, terms, nth}
use Rattle.books.specs.Forms.{Among, WellTerm, Well}
use Rattle.books.specs.Entries.{values, choices, Short}
use Rattle.books.specs.declared.Term.{Term}
use Rattle.books.specs.declared.Alternative.{Alternative}
use Rattle.books.specs.declared.Entry.{Entry}
use Rattle.books.proofs.Asked.{nth_inside}
use Rattle.books.proofs.Sizes.{made_more, made_terms}
use Rattle.strategy_theory.specs.Strategies.{pick, chosen}
use Rattle.strategy_theory.specs.Sweeping.{relaxed, relaxed_by, swept, sweeps, opened, opening, Replaced}
use Rattle.strategy_theory.specs.Sweeping.Replaced.{fresh}
use Rattle.strategy_theory.specs.Solving.{improved, Values, Stage}
use Rattle.strategy_theory.specs.Steps.{Relaxes, SweepsAll, ShortSweep, Evaluates, opened_value, opened_all}
use Rattle.strategy_theory.proofs.Ends.{each_of}
use Rattle.strategy_theory.proofs.Stands.{stands}
use Rattle.strategy_theory.proofs.Loops.{sweeps_more, replaced_sweeps}

-- entries
module _ {V : Type 0} where
  -- the entry u with another value
  abbrev pub revalued : List (Entry V) → ℕ → Entry V → V → List (Entry V)
  revalued es u d v = set es u (record { value = v; choice = (get_or es u d).choice })

  pub choice_is : (es : List (Entry V)) (u : ℕ) (d : Entry V) → u < length es → (get_or es u d).choice ≡ get_or (choices es) u None
  choice_is es u d h = sym (get_or-map (λ (e : Entry V). e.choice) es u d None h)

  pub revalued_choices : (es : List (Entry V)) (u : ℕ) (d : Entry V) (v : V) → u < length es → choices (revalued es u d v) ≡ choices es
  revalued_choices es u d v h = map-set (λ (e : Entry V). e.choice) es u _ ∙ ap (λ (k : Option ℕ). set (choices es) u k) (choice_is es u d h) ∙ set-get_or (choices es) u None

  pub revalued_values : (es : List (Entry V)) (u : ℕ) (d : Entry V) (v : V) → values (revalued es u d v) ≡ set (values es) u v
  revalued_values es u d v = map-set (λ (e : Entry V). e.value) es u _

module _ {V W : Type 0} (o : Ops V W) (l : Laws o) (m : List (List (Alternative V W))) where
  -- what is chosen for u, by the answers for it
  pub chosen_none : (es : List (Entry V)) (u : ℕ) → get_or (choices es) u None ≡ None → chosen m (choices es) u ≡ None
  chosen_none es u e = ap (λ (k : Option ℕ). pick (get_or m u []) k) e

  pub chosen_is : (es : List (Entry V)) (u k : ℕ) → get_or (choices es) u None ≡ Some k → chosen m (choices es) u ≡ nth (get_or m u []) k
  chosen_is es u k e = ap (λ (j : Option ℕ). pick (get_or m u []) j) e

  -- one unknown relaxed: where its value is the same, and where it changes
  module _ (well : Well o m) (es : List (Entry V)) (h : Short o (values es)) (u : ℕ) (a : Alternative V W) (e : Some a ≡ chosen m (choices es) u) (v : V)
      (f : ((t : Term V W) → Among t a.terms → WellTerm o (length m) t) → v ≡ terms o (values es) a.terms) where
    each : (t : Term V W) → Among t a.terms → WellTerm o (length m) t
    each = each_of o l m well (choices es) u a (sym e)

    relaxed_is : set (values es) u v ≡ relaxed o (chosen m (choices es)) (values es) u
    relaxed_is = ap (λ (y : V). set (values es) u y) (f each) ∙ ap (λ (k : Option (Alternative V W)). relaxed_by o (values es) u k) e

    pub relax_made : Made o most_items v
    relax_made = subst (λ (y : V). Made o most_items y) (sym (f each)) (made_terms o l (length m) (values es) _ h a.terms each)

    pub relax_same : v ≡ at o (values es) u → Relaxes o m es u es
    relax_same q = record { values = sym (ap (λ (y : V). set (values es) u y) q ∙ set-get_or (values es) u o.least) ∙ relaxed_is }

    pub relax_moves : (d : Entry V) → Relaxes o m es u (revalued es u d v)
    relax_moves d = record { values = revalued_values es u d v ∙ relaxed_is }

  -- what is opened: the choices stay, and the values are those that sweeps begin with
  pub opened_choices : (es : List (Entry V)) → choices (opened_all o es) ≡ choices es
  opened_choices [] = refl
  opened_choices (e ∷ es) = ap (λ (s : List (Option ℕ)). e.choice ∷ s) (opened_choices es)

  opened_values : (es : List (Entry V)) → values (opened_all o es) ≡ map (λ (k : Option ℕ). opened_value o k) (choices es)
  opened_values [] = refl
  opened_values (e ∷ es) = ap (λ (x : List V). opened_value o e.choice ∷ x) (opened_values es)

  pub opened_opening : (es : List (Entry V)) → length es ≡ length m → ((u k : ℕ) → get_or (choices es) u None ≡ Some k → k < length (get_or m u [])) → values (opened_all o es) ≡ opening o (chosen m (choices es)) (length m)
  opened_opening es len range =
      opened_values es ∙ ext_get_or o.least (map (λ (k : Option ℕ). opened_value o k) (choices es)) (opening o (chosen m (choices es)) (length m))
      (long ∙ sym (length-map-range_with_len (λ (u : ℕ). opened o (chosen m (choices es) u)) 0 (length m)))
      (λ u h. let lt : u < length m = omega (arith, long) in
      get_or-map (λ (k : Option ℕ). opened_value o k) (choices es) u None o.least (let g = length-map es (λ (e : Entry V). e.choice) in omega arith)
      ∙ place u (get_or (choices es) u None) refl
      ∙ sym (get_or-map-range_with_len (λ (j : ℕ). opened o (chosen m (choices es) j)) 0 (length m) u u o.least lt (omega arith)))
    where
      long : length (map (λ (k : Option ℕ). opened_value o k) (choices es)) ≡ length m
      long = length-map (choices es) (λ (k : Option ℕ). opened_value o k) ∙ length-map es (λ (e : Entry V). e.choice) ∙ len

      place : (u : ℕ) (k : Option ℕ) → get_or (choices es) u None ≡ k → opened_value o k ≡ opened o (chosen m (choices es) u)
      place u None e = sym (ap (λ (j : Option (Alternative V W)). opened o j) (chosen_none es u e))
      place u (Some k) e = let a = nth_inside (get_or m u []) k (range u k e) in sym (ap (λ (j : Option (Alternative V W)). opened o j) (chosen_is es u k e ∙ a.1))

  -- the list after k sweeps of the list es₀, in which sweeps begin
  pub record Swept (es₀ : List (Entry V)) (k : ℕ) (es : List (Entry V)) : Type 0 where
    pub strategy : choices es ≡ choices es₀
    pub values : Well o m → length es₀ ≡ length m → values es₀ ≡ opening o (chosen m (choices es₀)) (length m) → k ≤ length m →
        values es ≡ sweeps o (chosen m (choices es₀)) (length m) (opening o (chosen m (choices es₀)) (length m)) k

  module _ (es₀ : List (Entry V)) (k : ℕ) (es es' : List (Entry V)) (p : Swept es₀ k es) (long : length es ≡ length es₀) (f : ShortSweep o m es → SweepsAll o m es es') where
    module _ (well : Well o m) (len : length es₀ ≡ length m) (e : values es₀ ≡ opening o (chosen m (choices es₀)) (length m)) (h : k ≤ length m) where
      -- one more sweep
      pub swept_once : values es' ≡ swept o (chosen m (choices es₀)) (values es) (length m)
      swept_once = (f short).values ∙ ap (λ (s : List (Option ℕ)). swept o (chosen m s) (values es) (length es)) p.strategy ∙ ap (λ (n : ℕ). swept o (chosen m (choices es₀)) (values es) n) (long ∙ len)
        where
          short : ShortSweep o m es
          short i le u = subst₂ (λ (s : List (Option ℕ)) (x : List V). Made o (most_items - 1) (at o (swept o (chosen m s) x i) u)) (sym p.strategy) (sym (p.values well len e h))
              (made_more o l (most_items - 1) (omega arith) ((stands o l m well).sizes.at_step (choices es₀) k i h (omega arith) u))

    pub swept_next : choices es' ≡ choices es → k < length es₀ → Swept es₀ (k + 1) es'
    swept_next s lt = record {
      strategy = s ∙ p.strategy;
      values = λ well len e h.
          swept_once well len e (omega arith) ∙ ap (λ (x : List V). swept o (chosen m (choices es₀)) x (length m)) (p.values well len e (omega arith))
          ∙ sym (sweeps_more o l (chosen m (choices es₀)) (length m) (opening o (chosen m (choices es₀)) (length m)) k);
    }

  -- the end of path evaluation: es₀ as it was given, es after the sweeps of what was opened
  module _ (well : Well o m) (es₀ es : List (Entry V)) (k : ℕ) (p : Swept (opened_all o es₀) k es) where
    module _ (s : List (Option ℕ)) (x : List V) (st : Stage o m s x) (c : choices es₀ ≡ improved o m x s) where
      next : Stage o m (improved o m x s) (sweeps o (chosen m (improved o m x s)) (length m) (opening o (chosen m (improved o m x s)) (length m)) (length m))
      next = let r = (stands o l m well).rounds s x st in r.stage _ r.swept_values

      same : choices (opened_all o es₀) ≡ improved o m x s
      same = opened_choices es₀ ∙ c

      long : length (opened_all o es₀) ≡ length m
      long = sym (length-map (opened_all o es₀) (λ (e : Entry V). e.choice)) ∙ ap length same ∙ next.s_long

      begun : values (opened_all o es₀) ≡ opening o (chosen m (choices (opened_all o es₀))) (length m)
      begun = opened_opening es₀ (sym (length-map es₀ (λ (e : Entry V). record { value = opened_value o e.choice; choice = e.choice })) ∙ long)
          (λ u j e. next.range u j (sym (ap (λ (t : List (Option ℕ)). get_or t u None) c) ∙ e))
          ∙ ap (λ (t : List (Option ℕ)). opening o (chosen m t) (length m)) (sym (opened_choices es₀))

      swept_to : k ≤ length m → values es ≡ sweeps o (chosen m (improved o m x s)) (length m) (opening o (chosen m (improved o m x s)) (length m)) k
      swept_to h = p.values well long begun h ∙ ap (λ (t : List (Option ℕ)). sweeps o (chosen m t) (length m) (opening o (chosen m t) (length m)) k) same

    -- all sweeps were made
    pub swept_out : k ≡ length (opened_all o es₀) → Evaluates o m es₀ es
    swept_out e s x st c = subst (λ (y : List V). Values o m (improved o m x s) y) (sym (swept_to s x st c (omega (arith, long s x st c)) ∙ ap (λ (j : ℕ). sweeps o (chosen m (improved o m x s)) (length m) (opening o (chosen m (improved o m x s)) (length m)) j) (e ∙ long s x st c)))
        ((stands o l m well).rounds s x st).swept_values

    -- a sweep changed nothing
    pub swept_still : (es' : List (Entry V)) → k < length (opened_all o es₀) → length es ≡ length (opened_all o es₀) → (ShortSweep o m es → SweepsAll o m es es') → es' ≡ es → Evaluates o m es₀ es'
    swept_still es' lt lg f e s x st c = subst (λ (ds : List (Entry V)). Values o m (improved o m x s) (values ds)) (sym e)
        (((stands o l m well).rounds s x st).fixed (values es)
        (subst (λ (y : List V). Replaced o (chosen m (improved o m x s)) (length m) y) (sym (swept_to s x st c h)) (replaced_sweeps o l (chosen m (improved o m x s)) (length m) fresh k))
        (λ u. ap (λ (y : List V). at o y u) (ap (λ (t : List (Option ℕ)). swept o (chosen m t) (values es) (length m)) (sym (same s x st c)) ∙ sym (swept_once (opened_all o es₀) k es es' p lg f well (long s x st c) (begun s x st c) h) ∙ ap (λ (ds : List (Entry V)). values ds) e)))
      where
        h : k ≤ length m
        h = omega (arith, long s x st c)
