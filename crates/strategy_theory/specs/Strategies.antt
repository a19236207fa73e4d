-- Strategies, and what they are worth: the smallest, over all paths along chosen terms that pass no unknown twice, of the end plus the weights on the way.
use Rattle.std.specs.Prelude.{◌≡◌, ℕ, zero, suc, ◌≤◌, true, false, ◌⊎◌, List, [], ◌∷◌, Some, None, Option, slice_index_or}
use Rattle.kinds.specs.Limits.{most_items}
use Rattle.kinds.specs.Kinds.{Ops, Less}
use Rattle.books.specs.Books.{nth, at, worth, holds, terms}
use Rattle.books.specs.Forms.{Among}
use Rattle.books.specs.declared.Term.{Term}
use Rattle.books.specs.declared.Term.TheVariants.{Constant, Shifted}
use Rattle.books.specs.declared.Alternative.{Alternative}

-- the entry of a list that is picked, if there is such an entry
abbrev pub pick : {A : Type 0} → List A → Option ℕ → Option A
pick l None = None
pick l (Some k) = nth l k

-- the alternative that the strategy s chooses for the unknown u of the book m
abbrev pub chosen : {V W : Type 0} → List (List (Alternative V W)) → List (Option ℕ) → ℕ → Option (Alternative V W)
chosen m s u = pick (slice_index_or m u []) (slice_index_or s u None)

-- u is one of the unknowns
abbrev pub Passed : ℕ → List ℕ → Type 0
Passed u [] = ⊥
Passed u (v ∷ vs) = (u ≡ v) ⊎ Passed u vs

-- below, c is a choice: the alternative chosen for each unknown, if one is
module _ {V W : Type 0} (o : Ops V W) (c : ℕ → Option (Alternative V W)) where
  -- u has no choice
  abbrev pub Unchosen : ℕ → Type 0
  Unchosen u = c u ≡ None

  -- t is a term of the alternative that c chooses for u
  pub record Leads (u : ℕ) (t : Term V W) : Type 0 where
    pub a : Alternative V W
    pub is : c u ≡ Some a
    pub among : Among t a.terms

  -- a path from u along chosen terms: the unknowns that it passes, none twice, and the end plus the weights on the way
  pub data Road : ℕ → List ℕ → V → Type 0 where
    ends : {u : ℕ} {e : V} → Leads u (Constant e) → Road u (u ∷ []) e
    stops : {u v : ℕ} {w : W} → Leads u (Shifted v w) → Unchosen v → Road u (u ∷ []) (o.shift o.least w)
    goes : {u v : ℕ} {w : W} {vs : List ℕ} {x : V} → Leads u (Shifted v w) → Road v vs x → (Passed u vs → ⊥) → Road u (u ∷ vs) (o.shift x w)

  -- x is the value of the choice at u: the lowest of its roads and the greatest value
  pub record IsValue (u : ℕ) (x : V) : Type 0 where
    pub none : Unchosen u → x ≡ o.least
    pub lowest : (vs : List ℕ) (y : V) → Road u vs y → o.at_most x y ≡ true
    pub met : (Unchosen u → ⊥) → ∥ ((vs : List ℕ) × Road u vs x) ⊎ (x ≡ o.greatest) ∥₁

  -- a walk from u to z along k chosen terms, of the total weight given; it may pass an unknown more than once
  pub data Walk : ℕ → ℕ → ℕ → W → Type 0 where
    stay : {u : ℕ} → Walk u u zero o.zero
    step : {u v z k : ℕ} {w w' : W} → Leads u (Shifted v w) → Walk v z k w' → Walk u z (suc k) (o.plus w w')

  -- where u has chosen a, at the values x: its value is above least, the test holds, and the value is the smaller of the terms
  pub record Kept (x : List V) (u : ℕ) (a : Alternative V W) : Type 0 where
    pub above : at o x u ≡ o.least → ⊥
    pub true_test : holds o x a.test ≡ true
    pub same : at o x u ≡ terms o x a.terms

  -- what rounds keep of a choice with the values x: these are its values, each choice is kept as above, and every ring of chosen terms has weights that add up to more than zero
  pub record Feasible (x : List V) : Type 0 where
    pub values : (u : ℕ) → IsValue u (at o x u)
    pub kept : (u : ℕ) (a : Alternative V W) → c u ≡ Some a → Kept x u a
    pub rings : (u k : ℕ) (w : W) → Walk u u (suc k) w → suc k ≤ most_items → o.lighter w o.zero ≡ false

-- c' keeps what c chooses, or chooses an alternative that is worth more than the value at x
abbrev pub Improves : {V W : Type 0} (o : Ops V W) (x : List V) (c c' : ℕ → Option (Alternative V W)) → Type 0
Improves {V} {W} o x c c' = (u : ℕ) → (c' u ≡ c u) ⊎ ((a : Alternative V W) × (c' u ≡ Some a) × Less o (at o x u) (worth o x a))
