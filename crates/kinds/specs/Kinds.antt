-- What a kind of value is: its operations by their meaning, and the laws that they keep.
use Rattle.std.specs.Prelude.{◌≡◌, ℕ, suc, ◌+◌, ◌≤◌, Bool, true, false, ◌⊎◌, ◌↔◌, ◌≢◌}
use Rattle.kinds.specs.Limits.{most_items}

-- the operations of a kind, by their meaning: values V, weights W
pub record Ops (V W : Type 0) : Type 0 where
  pub least : V
  pub greatest : V
  -- the order of values: the first is at most the second
  pub at_most : V → V → Bool
  pub zero : W
  pub plus : W → W → W
  -- the order of weights: the first is at most the second
  pub lighter : W → W → Bool
  -- a value moved by a weight
  pub shift : V → W → V
  -- the joint test of two values against a threshold
  pub joint : V → V → V → Bool
  -- a constant or a threshold, and a weight, of allowed size
  pub sized : V → Bool
  pub light : W → Bool

-- a sum of up to k weights of allowed size
pub data Sum {V W : Type 0} (o : Ops V W) : ℕ → W → Type 0 where
  none : {k : ℕ} → Sum o k o.zero
  one : {k : ℕ} {v : W} → o.light v ≡ true → Sum o (suc k) v
  more : {k : ℕ} {v w : W} → o.light v ≡ true → Sum o k w → Sum o (suc k) (o.plus v w)

-- a value made of up to k constants, thresholds and weights of allowed size
pub data Made {V W : Type 0} (o : Ops V W) : ℕ → V → Type 0 where
  low : {k : ℕ} → Made o k o.least
  high : {k : ℕ} → Made o k o.greatest
  given : {k : ℕ} {c : V} → o.sized c ≡ true → Made o (suc k) c
  moved : {k : ℕ} {x : V} {w : W} → o.light w ≡ true → Made o k x → Made o (suc k) (o.shift x w)

-- a value other than the least and the greatest
abbrev pub Proper : {V W : Type 0} → Ops V W → V → Type 0
Proper o x = (x ≢ o.least) × (x ≢ o.greatest)

-- x lies below y
abbrev pub Less : {V W : Type 0} → Ops V W → V → V → Type 0
Less o x y = o.at_most y x ≡ false

-- weights that may be added: together they are a sum of allowed length
abbrev pub Addable : {V W : Type 0} → Ops V W → W → W → Type 0
Addable o v w = (a : ℕ) × (b : ℕ) × Sum o a v × Sum o b w × (a + b ≤ most_items)

-- The laws of a kind. They are owed for all its values, and for weights only as far as these are sums of allowed length.
pub record Laws {V W : Type 0} (o : Ops V W) : Type 0 where
  -- values are totally ordered, between the least and the greatest, which differ
  pub reflexive : (x : V) → o.at_most x x ≡ true
  pub antisymmetric : (x y : V) → o.at_most x y ≡ true → o.at_most y x ≡ true → x ≡ y
  pub transitive : (x y z : V) → o.at_most x y ≡ true → o.at_most y z ≡ true → o.at_most x z ≡ true
  pub total : (x y : V) → (o.at_most x y ≡ true) ⊎ (o.at_most y x ≡ true)
  pub bottom : (x : V) → o.at_most o.least x ≡ true
  pub top : (x : V) → o.at_most x o.greatest ≡ true
  pub apart : o.least ≡ o.greatest → ⊥
  -- weights have a zero, and add to the same sum in any order and grouping
  pub plus_zero : (v : W) → Sum o most_items v → o.plus v o.zero ≡ v
  pub plus_comm : (v w : W) → Addable o v w → o.plus v w ≡ o.plus w v
  pub plus_assoc : (u v w : W) (a b c : ℕ) → Sum o a u → Sum o b v → Sum o c w → a + b + c ≤ most_items → o.plus (o.plus u v) w ≡ o.plus u (o.plus v w)
  -- weights are totally ordered
  pub lighter_reflexive : (v : W) → Sum o most_items v → o.lighter v v ≡ true
  pub lighter_antisymmetric : (v w : W) → Sum o most_items v → Sum o most_items w → o.lighter v w ≡ true → o.lighter w v ≡ true → v ≡ w
  pub lighter_transitive : (u v w : W) → Sum o most_items u → Sum o most_items v → Sum o most_items w → o.lighter u v ≡ true → o.lighter v w ≡ true → o.lighter u w ≡ true
  pub lighter_total : (v w : W) → Sum o most_items v → Sum o most_items w → (o.lighter v w ≡ true) ⊎ (o.lighter w v ≡ true)
  -- shifting the least or the greatest value changes nothing; a proper value shifted is proper
  pub shift_least : (w : W) → Sum o most_items w → o.shift o.least w ≡ o.least
  pub shift_greatest : (w : W) → Sum o most_items w → o.shift o.greatest w ≡ o.greatest
  pub shift_proper : (x : V) (w : W) → Sum o most_items w → Proper o x → Proper o (o.shift x w)
  -- shifting by two weights in turn is shifting by their sum
  pub shift_plus : (x : V) (v w : W) → Addable o v w → o.shift (o.shift x v) w ≡ o.shift x (o.plus v w)
  -- shifting keeps strict order
  pub shift_strict : (x y : V) (w : W) → Sum o most_items w → Less o x y → Less o (o.shift x w) (o.shift y w)
  -- a weight raises a proper value exactly if it is greater than zero
  pub raises : (x : V) (w : W) → Sum o most_items w → Proper o x → Less o x (o.shift x w) ↔ (o.lighter w o.zero ≡ false)
  -- a joint test stays true when either value rises, and fails if either is least
  pub joint_rises : (x y x' y' t : V) → o.at_most x x' ≡ true → o.at_most y y' ≡ true → o.joint x y t ≡ true → o.joint x' y' t ≡ true
  pub joint_least : (x t : V) → (o.joint o.least x t ≡ false) × (o.joint x o.least t ≡ false)
