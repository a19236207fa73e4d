-- the list of findings has exactly those of the reads that have one
use Rattle.std.proofs.Common.{◌≡◌, ◌≤◌, Bool, true, false, cond, ◌⊎◌, List, [], ◌∷◌, length, Some, None, Option, Contains, sym, refl, ap, ◌∙◌, subst, inl, inr, arith}
use Rattle.std.proofs.lemmas.Bool.{and_from, and_parts, false≢true}
use Rattle.std.proofs.Math.IntN.{pos, ◌-ℤ◌}
use Rattle.std.specs.List.{filter_map, cons_option}
use Rattle.kinds.specs.Values.{under}
use Rattle.kinds.specs.declared.bound.Bound.{Bound}
use Rattle.kinds.specs.declared.bound.Bound.TheVariants.{Whole}
use Rattle.books.proofs.Worth.{no_option}
use Rattle.books.proofs.Asked.{some_same}
use Rattle.language_theory.specs.Graphs.{Graph}
use Rattle.language_theory.specs.declared.Lookup.{Lookup}
use Rattle.script_equations_theory.proofs.Lists.{contains_first, contains_behind, contains_either, contains_none}
use Rattle.soundness_theory.specs.Runs.{size_of}
use Rattle.soundness_theory.specs.Intervals.{interval}
use Rattle.soundness_theory.specs.Findings.{fits_table, finding_at, found_by, found_of, findings}
use Rattle.soundness_theory.specs.Kept.{Listed}
use Rattle.soundness_theory.specs.declared.Finding.{Finding}

module _ {A B : Type 0} (f : A → Option B) where
  -- what f gives of some item
  pub given : (l : List A) (b : B) → Contains (filter_map f l) b → (a : A) × Contains l a × (f a ≡ Some b)
  given [] b c = absurd (contains_none b c)
  given (a ∷ l) b c = go (f a) refl c (λ d. given l b d)
    where
      go : (r : Option B) → f a ≡ r → Contains (cons_option r (filter_map f l)) b → (Contains (filter_map f l) b → (x : A) × Contains l x × (f x ≡ Some b)) → (x : A) × Contains (a ∷ l) x × (f x ≡ Some b)
      go None e d ih = let r = ih d in (r.0, contains_behind a l r.0 r.1, r.2)
      go (Some y) e d ih = by (contains_either y (filter_map f l) b d)
        where
          by : (y ≡ b) ⊎ Contains (filter_map f l) b → (x : A) × Contains (a ∷ l) x × (f x ≡ Some b)
          by (inl h) = (a, contains_first a l, subst (λ (z : B). f a ≡ Some z) h e)
          by (inr h) = let r = ih h in (r.0, contains_behind a l r.0 r.1, r.2)

  pub gives : (l : List A) (a : A) (b : B) → Contains l a → f a ≡ Some b → Contains (filter_map f l) b
  gives [] a b c e = absurd (contains_none a c)
  gives (x ∷ l) a b c e = go (contains_either x l a c) (λ d. gives l a b d e)
    where
      more : (r : Option B) → Contains (filter_map f l) b → Contains (cons_option r (filter_map f l)) b
      more None d = d
      more (Some y) d = contains_behind y (filter_map f l) b d

      go : (x ≡ a) ⊎ Contains l a → (Contains l a → Contains (filter_map f l) b) → Contains (filter_map f (x ∷ l)) b
      go (inl h) ih = subst (λ (r : Option B). Contains (cons_option r (filter_map f l)) b) (sym (subst (λ (z : A). f z ≡ Some b) (sym h) e)) (contains_first b (filter_map f l))
      go (inr h) ih = more (f x) (ih h)

  pub no_longer : (l : List A) → length (filter_map f l) ≤ length l
  no_longer [] = omega arith
  no_longer (a ∷ l) = go (f a) (no_longer l)
    where
      go : (r : Option B) → length (filter_map f l) ≤ length l → length (cons_option r (filter_map f l)) ≤ length (a ∷ l)
      go None h = omega arith
      go (Some b) h = omega arith

module _ (g : Graph) (y : List Bound) (l : Lookup) where
  -- what the interval o of the index says of a finding f
  record Shown (o : Option (Bound × Bound)) (f : Finding) : Type 0 where
    pub i : Bound × Bound
    pub reached : o ≡ Some i
    pub outside : (under (Whole (pos 0)) i.0 ≡ true) × (under i.1 (Whole (pos (size_of g l) -ℤ pos 1)) ≡ true) → ⊥
    pub is : f ≡ finding_at g l i

  shown : (o : Option (Bound × Bound)) (f : Finding) → found_by g l o ≡ Some f → Shown o f
  shown None f e = absurd (no_option e)
  shown (Some i) f e = go (fits_table i (size_of g l)) refl e
    where
      go : (b : Bool) → fits_table i (size_of g l) ≡ b → cond b None (Some (finding_at g l i)) ≡ Some f → Shown (Some i) f
      go true q h = absurd (no_option h)
      go false q h = record {
        i = i;
        reached = refl;
        outside = λ p. false≢true (sym q ∙ and_from (under (Whole (pos 0)) i.0) (under i.1 (Whole (pos (size_of g l) -ℤ pos 1))) p.0 p.1);
        is = sym (some_same h);
      }

  shows : (o : Option (Bound × Bound)) (f : Finding) → Shown o f → found_by g l o ≡ Some f
  shows o f s = subst (λ (r : Option (Bound × Bound)). found_by g l r ≡ Some f) (sym s.reached) (go (fits_table s.i (size_of g l)) refl)
    where
      go : (b : Bool) → fits_table s.i (size_of g l) ≡ b → cond b None (Some (finding_at g l s.i)) ≡ Some f
      go true q = absurd (s.outside (and_parts (under (Whole (pos 0)) s.i.0) (under s.i.1 (Whole (pos (size_of g l) -ℤ pos 1))) q))
      go false q = ap {B = Option Finding} Some (sym s.is)

module _ (g : Graph) (y : List Bound) where
  pub listed : Listed g y
  listed = record {
    each = λ f c. let r = given (found_of g y) g.lookups f c in
        let s = shown g y r.0 (interval g y r.0.point r.0.index) f r.2 in
        (r.0, record { among = r.1; i = s.i; reached = s.reached; outside = s.outside; is = s.is });
    all = λ l f d. gives (found_of g y) g.lookups l f d.among (shows g y l (interval g y l.point l.index) f (record { i = d.i; reached = d.reached; outside = d.outside; is = d.is }));
  }

  pub few_findings : length (findings g y) ≤ length g.lookups
  few_findings = no_longer (found_of g y) g.lookups
