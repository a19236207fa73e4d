-- What a list contains, the edges to a point, and the alternatives of a right side.
use Rattle.std.proofs.Common.{◌≡◌, ℕ, zero, suc, ◌<◌, Bool, true, cond, ◌⊎◌, List, [], ◌∷◌, map, length, get_or, filter, Contains, eqb, Some, sym, refl, ap, ◌∙◌, subst, inl, inr, ⊎_elim, not-suc-le-zero, arith, eq-eqb, eqb-true}
use Rattle.std.proofs.lemmas.Bool.{eqb-false, cond_both}
use Rattle.std.proofs.lemmas.List.{length-map}
use Rattle.std.proofs.Math.ListN.{get_or-map}
use Rattle.kinds.specs.Kinds.{Ops, Laws}
use Rattle.books.specs.Books.{worth, best, nth}
use Rattle.books.specs.declared.Alternative.{Alternative}
use Rattle.books.proofs.Order.{Le, le_trans, greater_left, greater_right}
use Rattle.books.proofs.Asked.{some_same, inside_nth}
use Rattle.language_theory.specs.declared.Edge.{Edge}
use Rattle.language_theory.specs.Graphs.{incoming}

-- what is chosen by whether two numbers are equal
pub by_eq : {X : Type 0} (P : X → Type 0) (v k : ℕ) (a b : X) → (v ≡ k → P a) → ((v ≡ k → ⊥) → P b) → P (cond (eqb v k) a b)
by_eq P v k a b f g = cond_both (eqb v k) a b P (λ e. f (eqb-true v k e)) (λ e. g (eqb-false v k e))

-- what stands first in a list, behind it, and nowhere
pub contains_first : {A : Type 0} (a : A) (l : List A) → Contains (a ∷ l) a
contains_first a l = (0, omega arith, refl)

pub contains_behind : {A : Type 0} (b : A) (l : List A) (a : A) → Contains l a → Contains (b ∷ l) a
contains_behind b l a i = (suc i.0, omega arith, i.2)

pub contains_either : {A : Type 0} (b : A) (l : List A) (a : A) → Contains (b ∷ l) a → (b ≡ a) ⊎ Contains l a
contains_either {A} b l a i = go i.0 i.1 i.2
  where
    go : (k : ℕ) → k < length (b ∷ l) → get_or (b ∷ l) k a ≡ a → (b ≡ a) ⊎ Contains l a
    go zero h e = inl e
    go (suc k) h e = inr (k, omega arith, e)

pub contains_none : {A : Type 0} (a : A) → Contains [] a → ⊥
contains_none a i = not-suc-le-zero i.1

-- what holds of the first and of all behind it
pub in_either : {A : Type 0} (P : A → Type 0) (b : A) (l : List A) (a : A) → P b → (Contains l a → P a) → Contains (b ∷ l) a → P a
in_either P b l a q r i = ⊎_elim (λ (e : b ≡ a). subst P e q) r (contains_either b l a i)

-- what stands at a place
pub nth_contains : {A : Type 0} (l : List A) (k : ℕ) (a : A) → nth l k ≡ Some a → Contains l a
nth_contains l k a e = (k, inside_nth l k a e, go l k e)
  where
    go : (m : List _) (j : ℕ) → nth m j ≡ Some a → get_or m j a ≡ a
    go [] j q = refl
    go (b ∷ m) zero q = some_same q
    go (b ∷ m) (suc j) q = go m j q

-- what a filter keeps
pub contains_filter : {A : Type 0} (t : A → Bool) (l : List A) (a : A) → Contains l a → t a ≡ true → Contains (filter t l) a
contains_filter t [] a i h = absurd (contains_none a i)
contains_filter {A} t (b ∷ l) a i h =
    ⊎_elim (λ (e : b ≡ a). subst (λ (s : Bool). Contains (cond s (b ∷ filter t l) (filter t l)) a) (sym (ap t e ∙ h)) (subst (λ (c : A). Contains (c ∷ filter t l) a) (sym e) (contains_first a (filter t l))))
    (λ (j : Contains l a).
    cond_both (t b) (b ∷ filter t l) (filter t l) (λ (m : List A). Contains m a) (λ e. contains_behind b (filter t l) a (contains_filter t l a j h)) (λ e. contains_filter t l a j h))
    (contains_either b l a i)

pub filter_contains : {A : Type 0} (t : A → Bool) (l : List A) (a : A) → Contains (filter t l) a → Contains l a × (t a ≡ true)
filter_contains t [] a i = absurd (contains_none a i)
filter_contains {A} t (b ∷ l) a i = go (λ j. let r = filter_contains t l a j in (contains_behind b l a r.0, r.1))
  where
    go : (Contains (filter t l) a → Contains (b ∷ l) a × (t a ≡ true)) → Contains (b ∷ l) a × (t a ≡ true)
    go more = cond_both (t b) (b ∷ filter t l) (filter t l) (λ (m : List A). Contains m a → Contains (b ∷ l) a × (t a ≡ true))
        (λ e. in_either (λ (c : A). Contains (b ∷ l) c × (t c ≡ true)) b (filter t l) a (contains_first b l, e) more) (λ e. more) i

-- what a function makes of a list
pub contains_map : {A B : Type 0} (f : A → B) (l : List A) (a : A) → Contains l a → Contains (map f l) (f a)
contains_map f l a i = let long = length-map l f in (i.0, omega arith, get_or-map f l i.0 a ∙ ap f i.2)

pub map_contains : {A B : Type 0} (f : A → B) (l : List A) (b : B) → Contains (map f l) b → (a : A) × Contains l a × (f a ≡ b)
map_contains f [] b i = absurd (contains_none b i)
map_contains {A} f (a ∷ l) b i =
    ⊎_elim (λ (e : f a ≡ b). (a, contains_first a l, e))
    (λ (j : Contains (map f l) b). let r = map_contains f l b j in (r.0, contains_behind a l r.0 r.1, r.2)) (contains_either (f a) (map f l) b i)

-- what is made of an edge stands among what is made of the edges to its target
pub in_incoming : {A : Type 0} (f : Edge → A) (e : Edge) (es : List Edge) → Contains es e → Contains (map f (incoming e.target es)) (f e)
in_incoming f e es i = contains_map f (incoming e.target es) e (contains_filter (λ (d : Edge). eqb d.target e.target) es e i (eq-eqb e.target e.target refl))

-- what holds of all that is made of an edge to p
pub all_incoming : {A : Type 0} (P : A → Type 0) (f : Edge → A) (p : ℕ) (es : List Edge) → ((e : Edge) → Contains es e → e.target ≡ p → P (f e)) → (a : A) → Contains (map f (incoming p es)) a → P a
all_incoming P f p es h a i =
    let r = map_contains f (incoming p es) a i in
    let s = filter_contains (λ (d : Edge). eqb d.target p) es r.0 r.1 in
    subst P r.2 (h r.0 s.0 (eqb-true _ _ s.1))

module _ {V W : Type 0} (o : Ops V W) (l : Laws o) where
  pub in_best : (x : List V) (a : Alternative V W) (bs : List (Alternative V W)) → Contains bs a → Le o (worth o x a) (best o x bs)
  in_best x a [] i = absurd (contains_none a i)
  in_best x a (b ∷ bs) i = in_either (λ (c : Alternative V W). Le o (worth o x c) (best o x (b ∷ bs))) b bs a (greater_left o l (worth o x b) (best o x bs))
      (λ j. le_trans o l (in_best x a bs j) (greater_right o l (worth o x b) (best o x bs))) i

  -- where each alternative is least
  pub best_least : (x : List V) (bs : List (Alternative V W)) → ((a : Alternative V W) → Contains bs a → worth o x a ≡ o.least) → best o x bs ≡ o.least
  best_least x [] h = refl
  best_least x (a ∷ bs) h = cond_both (o.at_most (best o x bs) (worth o x a)) (worth o x a) (best o x bs) (λ (y : V). y ≡ o.least)
      (λ e. h a (contains_first a bs)) (λ e. best_least x bs (λ c i. h c (contains_behind a bs c i)))
