-- sweeps that may end early, the sizes of what they compute, and that there is a least solution
use Rattle.std.proofs.Common.{◌≡◌, ℕ, zero, suc, ◌+◌, ◌*◌, ◌<◌, ◌≤◌, ◌⊎◌, List, [], ◌∷◌, length, get_or, replicate, Some, None, Option, sym, refl, ap, ◌∙◌, subst, ap₂, inl, inr, not-suc-le-zero, mul-le-mul_right, arith}
use Rattle.kinds.specs.Limits.{most_unknowns}
use Rattle.kinds.specs.Kinds.{Ops, Laws, Less, Made}
use Rattle.books.specs.Books.{at, smaller, term, terms, right, Solution, HoldsUp}
use Rattle.books.specs.Forms.{Among, Light, WellTerm, Well}
use Rattle.strategy_theory.specs.Strategies.{Road, IsValue, chosen, pick}
use Rattle.strategy_theory.specs.Strategies.Road.{ends, stops, goes}
use Rattle.books.specs.declared.Term.{Term}
use Rattle.books.specs.declared.Term.TheVariants.{Constant, Shifted}
use Rattle.books.specs.declared.Alternative.{Alternative}
use Rattle.books.proofs.Order.{Le, le_or_lt}
use Rattle.books.proofs.Sizes.{Sizes, made_more, made_terms}
use Rattle.books.proofs.Worth.{no_option, option_cases, Under}
use native.Mathlib.Decide.{ℕ_discrete, dec_lt}
use Rattle.std.proofs.lemmas.List.FromFn.{length-map-range_with_len, get_or-map-range_with_len}
use Rattle.std.proofs.lemmas.List.{get_or_past}
use Rattle.kinds.specs.Kinds.Made.{low, high, given, moved}
use Rattle.strategy_theory.specs.Solving.{improved, Values, Stage, Unsettled, Rounds, count}
use Rattle.strategy_theory.specs.Sweeping.{relaxed, swept, sweeps, opened, opening}
use Rattle.strategy_theory.specs.Solving.Rounds.{start, round}
use Rattle.books.specs.declared.Terms.{Terms}
use Rattle.books.specs.declared.Terms.TheVariants.{One, Two}
use Rattle.strategy_theory.proofs.Walks.{value_unique, road_short}
use Rattle.strategy_theory.proofs.Sweeps.{Sound, relaxed_other, relaxed_same, relaxed_cases, relaxed_long, sound_relaxed, sound_opening, sweeps_low, fixed_value}
use Rattle.strategy_theory.proofs.Theory.{light_of, inside_of, all_values, start_stage, round_value, round_rings}
use Rattle.strategy_theory.proofs.Chains.{rounds_stage, rounds_few, rest_is_least}

module _ {V W : Type 0} (o : Ops V W) (l : Laws o) where
  term_same : (x y : List V) → ((u : ℕ) → at o x u ≡ at o y u) → (t : Term V W) → term o x t ≡ term o y t
  term_same x y h (Constant e) = refl
  term_same x y h (Shifted v w) = ap (λ (z : V). o.shift z w) (h v)

  pub terms_same : (x y : List V) → ((u : ℕ) → at o x u ≡ at o y u) → (ts : Terms V W) → terms o x ts ≡ terms o y ts
  terms_same x y h (One t) = term_same x y h t
  terms_same x y h (Two t s) = ap₂ (λ (a b : V). smaller o a b) (term_same x y h t) (term_same x y h s)

  pub lists_same : (x y : List V) → length x ≡ length y → ((u : ℕ) → at o x u ≡ at o y u) → x ≡ y
  lists_same [] [] e h = refl
  lists_same [] (b ∷ y) e h = absurd (omega arith)
  lists_same (a ∷ x) [] e h = absurd (omega arith)
  lists_same (a ∷ x) (b ∷ y) e h = ap₂ {C = List V} (λ (p : V) (q : List V). p ∷ q) (h zero) (lists_same x y (omega arith) (λ u. h (suc u)))

  module _ (c : ℕ → Option (Alternative V W)) (n : ℕ) (inside : (u : ℕ) (a : Alternative V W) → c u ≡ Some a → u < n) where
    swept_long : (z : List V) (i : ℕ) → length (swept o c z i) ≡ length z
    swept_long z zero = refl
    swept_long z (suc i) = relaxed_long o l c n inside (swept o c z i) i ∙ swept_long z i

    swept_ahead : (z : List V) (i j : ℕ) → i ≤ j → at o (swept o c z i) j ≡ at o z j
    swept_ahead z zero j h = refl
    swept_ahead z (suc i) j h = relaxed_other o l c n inside (swept o c z i) i j (omega arith) ∙ swept_ahead z i j (omega arith)

    swept_behind : (z : List V) (i j k : ℕ) → j < i → i ≤ k → at o (swept o c z k) j ≡ at o (swept o c z i) j
    swept_behind z i j zero h g = absurd (omega arith)
    swept_behind z i j (suc k) h g = go (ℕ_discrete i (suc k)) (λ p. swept_behind z i j k h p)
      where
        go : Dec (i ≡ suc k) → (i ≤ k → at o (swept o c z k) j ≡ at o (swept o c z i) j) → at o (swept o c z (suc k)) j ≡ at o (swept o c z i) j
        go (yes e) ih = ap (λ (p : ℕ). at o (swept o c z p) j) (sym e)
        go (no ne) ih = relaxed_other o l c n inside (swept o c z k) k j (omega arith) ∙ ih (omega arith)

    -- a sweep that ends as it began changed nothing on the way
    pub unswept : (z : List V) → ((u : ℕ) → at o (swept o c z n) u ≡ at o z u) → (i : ℕ) → i ≤ n → (j : ℕ) → at o (swept o c z i) j ≡ at o z j
    unswept z h i g j = go (dec_lt j i)
      where
        go : Dec (j < i) → at o (swept o c z i) j ≡ at o z j
        go (yes p) = sym (swept_behind z i j n p g) ∙ h j
        go (no p) = swept_ahead z i j (omega arith)

    pub unswept_fixed : (z : List V) → length z ≡ n → ((u : ℕ) → at o (swept o c z n) u ≡ at o z u) → (u : ℕ) (a : Alternative V W) → c u ≡ Some a → at o z u ≡ terms o z a.terms
    unswept_fixed z len h u a e =
        let g = inside u a e in
        sym (unswept z h (suc u) g u) ∙ relaxed_same o l c n inside (swept o c z u) u a (swept_long z u ∙ len) e ∙ terms_same (swept o c z u) z (unswept z h u (omega arith)) a.terms

    pub sound_swept : (light : (u : ℕ) (a : Alternative V W) → c u ≡ Some a → Light o a.terms) (z : List V) → Sound o l c n z → (i : ℕ) → Sound o l c n (swept o c z i)
    sound_swept light z s zero = s
    sound_swept light z s (suc i) = sound_relaxed o l c n inside light (swept o c z i) i (sound_swept light z s i)

    module _ (each : (u : ℕ) (a : Alternative V W) → c u ≡ Some a → (t : Term V W) → Among t a.terms → WellTerm o n t) where
      pub made_relaxed : (z : List V) (k : ℕ) → length z ≡ n → Sizes o k z → (u : ℕ) → Sizes o (suc k) (relaxed o c z u)
      made_relaxed z k len h u j = go (relaxed_cases o l c n inside z u j len)
        where
          go : ((at o (relaxed o c z u) j ≡ at o z j) × (j ≡ u → c u ≡ None)) ⊎ ((a : Alternative V W) × (c j ≡ Some a) × (at o (relaxed o c z u) j ≡ terms o z a.terms)) → Made o (suc k) (at o (relaxed o c z u) j)
          go (inl p) = subst (λ (y : V). Made o (suc k) y) (sym p.0) (made_more o l (suc k) (omega arith) (h j))
          go (inr p) = subst (λ (y : V). Made o (suc k) y) (sym p.2) (made_terms o l n z k h p.0.terms (each j p.0 p.1))

      pub made_swept : (z : List V) (k : ℕ) → length z ≡ n → Sizes o k z → (i : ℕ) → Sizes o (k + i) (swept o c z i)
      made_swept z k len h zero u = made_more o l (k + zero) (omega arith) (h u)
      made_swept z k len h (suc i) u = made_more o l (k + suc i) (omega arith) (made_relaxed (swept o c z i) (k + i) (swept_long z i ∙ len) (made_swept z k len h i) i u)

      sweeps_long : (z : List V) → length z ≡ n → (k : ℕ) → length (sweeps o c n z k) ≡ n
      sweeps_long z len zero = len
      sweeps_long z len (suc k) = swept_long (sweeps o c n z k) n ∙ sweeps_long z len k

      pub made_sweeps : (z : List V) → length z ≡ n → Sizes o 0 z → (k : ℕ) → Sizes o (k * n) (sweeps o c n z k)
      made_sweeps z len h zero u = made_more o l (zero * n) (omega arith) (h u)
      made_sweeps z len h (suc k) u = made_more o l (suc k * n) (omega arith) (made_swept (sweeps o c n z k) (k * n) (sweeps_long z len k) (made_sweeps z len h k) n u)

      made_opened : (k : Option (Alternative V W)) → Made o 0 (opened o k)
      made_opened None = low
      made_opened (Some a) = high

      pub made_opening : Sizes o 0 (opening o c n)
      made_opening u = go (dec_lt u n)
        where
          go : Dec (u < n) → Made o 0 (at o (opening o c n) u)
          go (yes h) = subst (λ (y : V). Made o 0 y) (sym (get_or-map-range_with_len (λ (i : ℕ). opened o (c i)) 0 n u u o.least h (omega arith))) (made_opened (c u))
          go (no h) = subst (λ (y : V). Made o 0 y) (sym (get_or_past (opening o c n) u o.least (simp (length-map-range_with_len (λ (i : ℕ). opened o (c i)) 0 n) (omega arith)))) low

      -- all that n sweeps compute is within the bound of the laws
      pub made_within : n ≤ most_unknowns → (k : ℕ) → k ≤ n → (i : ℕ) → i ≤ n → Sizes o (most_unknowns * most_unknowns + most_unknowns) (swept o c (sweeps o c n (opening o c n) k) i)
      made_within small k kn i h u =
          let long = length-map-range_with_len (λ (j : ℕ). opened o (c j)) 0 n in
          let p : k * n ≤ n * n = mul-le-mul_right n kn in
          let q : n * n ≤ most_unknowns * n = mul-le-mul_right n small in
          made_more o l (most_unknowns * most_unknowns + most_unknowns) (omega arith) (made_swept (sweeps o c n (opening o c n) k) (k * n) (sweeps_long (opening o c n) long k) (made_sweeps (opening o c n) long made_opening k) i u)

      -- a road's value has at most one weight or constant for each unknown that it passes
      pub made_road : {u : ℕ} {vs : List ℕ} {y : V} → Road o c u vs y → Made o (length vs) y
      made_road (ends {u = u} {e = e} ld) = given (each u ld.a ld.is (Constant e) ld.among).0
      made_road (stops {u = u} {v = v} {w = w} ld p) = moved (each u ld.a ld.is (Shifted v w) ld.among).1 low
      made_road (goes {u = u} {v = v} {w = w} ld r p) = moved (each u ld.a ld.is (Shifted v w) ld.among).1 (made_road r)

      pub made_value : (light : (u : ℕ) (a : Alternative V W) → c u ≡ Some a → Light o a.terms) (u : ℕ) (x : V) → IsValue o c u x → ∥ Made o n x ∥₁
      made_value light u x v = go (option_cases (c u))
        where
          by : ((vs : List ℕ) × Road o c u vs x) ⊎ (x ≡ o.greatest) → ∥ Made o n x ∥₁
          by (inl r) = ∣ made_more o l n (road_short o l c light n inside r.1) (made_road r.1) ∣₁
          by (inr e) = ∣ subst (λ (y : V). Made o n y) (sym e) high ∣₁

          go : (c u ≡ None) ⊎ ((a : Alternative V W) × (c u ≡ Some a)) → ∥ Made o n x ∥₁
          go (inl e) = ∣ subst (λ (y : V). Made o n y) (sym (v.none e)) low ∣₁
          go (inr r) = ∥∥₁_rec squash₁ by (v.met (λ e. no_option (sym e ∙ r.1)))

  module _ (m : List (List (Alternative V W))) (well : Well o m) where
    pub each_of : (s : List (Option ℕ)) (u : ℕ) (a : Alternative V W) → chosen m s u ≡ Some a → (t : Term V W) → Among t a.terms → WellTerm o (length m) t
    each_of s u a = go (get_or s u None)
      where
        go : (k : Option ℕ) → pick (get_or m u []) k ≡ Some a → (t : Term V W) → Among t a.terms → WellTerm o (length m) t
        go None e = absurd (no_option e)
        go (Some k) e = (well.fine u k a e).each

    module _ (s : List (Option ℕ)) (x : List V) (st : Stage o m s x) where
      -- what n sweeps compute, for the improved strategy
      abbrev pub after : List V
      after = sweeps o (chosen m (improved o m x s)) (length m) (opening o (chosen m (improved o m x s)) (length m)) (length m)

      pub after_values : Values o m (improved o m x s) after
      after_values = record {
        long =
            (sweeps_low o l (chosen m (improved o m x s)) (length m) (inside_of o l m well (improved o m x s)) (light_of o l m well (improved o m x s)) (opening o (chosen m (improved o m x s)) (length m))
            (sound_opening o l (chosen m (improved o m x s)) (length m) (inside_of o l m well (improved o m x s)) (light_of o l m well (improved o m x s))) (length m)).0.long;
        value = λ u h. round_value o l m well s x st u;
      }

      -- sweeps compute whatever values the improved strategy has
      pub after_is : (x' : List V) → Values o m (improved o m x s) x' → after ≡ x'
      after_is x' v = lists_same after x' (after_values.long ∙ sym v.long)
          (λ u. value_unique o l (chosen m (improved o m x s)) u (at o after u) (at o x' u) (round_value o l m well s x st u) (all_values o l m well (improved o m x s) x' v u))

      pub fixed_is : (z : List V) → Sound o l (chosen m (improved o m x s)) (length m) z → ((u : ℕ) → at o (swept o (chosen m (improved o m x s)) z (length m)) u ≡ at o z u) → Values o m (improved o m x s) z
      fixed_is z sd h = record {
        long = sd.long;
        value = λ u q.
            fixed_value o l (chosen m (improved o m x s)) (length m) (inside_of o l m well (improved o m x s)) (light_of o l m well (improved o m x s)) well.small (round_rings o l m well s x st) z sd
            (unswept_fixed (chosen m (improved o m x s)) (length m) (inside_of o l m well (improved o m x s)) z sd.long h) u;
      }

    -- no right side below n is greater, or some is
    pub resting_or_not : (x : List V) (n : ℕ) → n ≤ length m → ((u : ℕ) → u < n → Le o (right o m x u) (at o x u)) ⊎ Unsettled o m x
    resting_or_not x zero h = inl (λ u q. absurd (not-suc-le-zero q))
    resting_or_not x (suc n) h = go (resting_or_not x n (omega arith)) (le_or_lt o l (right o m x n) (at o x n))
      where
        go : ((u : ℕ) → u < n → Le o (right o m x u) (at o x u)) ⊎ Unsettled o m x → (Le o (right o m x n) (at o x n)) ⊎ (Less o (at o x n) (right o m x n)) → ((u : ℕ) → u < suc n → Le o (right o m x u) (at o x u)) ⊎ Unsettled o m x
        go (inr p) d = inr p
        go (inl p) (inr q) = inr (n, h, q)
        go (inl p) (inl q) = inl (λ u lt. by u lt (ℕ_discrete u n))
          where
            by : (u : ℕ) → u < suc n → Dec (u ≡ n) → Le o (right o m x u) (at o x u)
            by u lt (yes e) = subst (λ (i : ℕ). Le o (right o m x i) (at o x i)) (sym e) q
            by u lt (no ne) = p u (omega arith)

    pub record LeastSolution : Type 0 where
      pub x : List V
      pub solves : Solution o m x
      pub least : (y : List V) → HoldsUp o m y → Under o l x y

    abbrev FromStart : List (List (Option ℕ)) → List (Option ℕ) → List V → Type 0
    FromStart ss s x = Rounds o m (replicate (length m) None) (replicate (length m) o.least) ss s x

    solve : (k : ℕ) (ss : List (List (Option ℕ))) (s : List (Option ℕ)) (x : List V) → count m ≤ length ss + k → FromStart ss s x → LeastSolution
    solve zero ss s x h r =
        let few = rounds_few o l m well (replicate (length m) None) (replicate (length m) o.least) (start_stage o l m well) r in absurd (omega arith)
    solve (suc k) ss s x h r = go (λ un. solve k (s ∷ ss) (improved o m x s) (after s x st) (omega arith) (round r un (after_values s x st))) (resting_or_not x (length m) (omega arith))
      where
        st : Stage o m s x
        st = rounds_stage o l m well (replicate (length m) None) (replicate (length m) o.least) (start_stage o l m well) r

        go : (Unsettled o m x → LeastSolution) → ((u : ℕ) → u < length m → Le o (right o m x u) (at o x u)) ⊎ Unsettled o m x → LeastSolution
        go ih (inl p) = let q = rest_is_least o l m well r p in record { x = x; solves = q.0; least = q.1 }
        go ih (inr p) = ih p

    -- every well-formed book has a least solution
    pub least_solution : LeastSolution
    least_solution = solve (count m) [] (replicate (length m) None) (replicate (length m) o.least) (omega arith) start
