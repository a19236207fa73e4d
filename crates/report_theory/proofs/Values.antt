-- The settled values of a script's bounds are known from its intervals.
use Rattle.std.proofs.Common.{◌≡◌, ℕ, ◌+◌, ◌*◌, ◌/◌, ◌%◌, ◌<◌, ◌≤◌, ◌⊎◌, List, length, ℤ, neg_ℤ, Some, None, Option, sym, refl, ap, ◌∙◌, subst, inl, inr, ⊎_elim, arith, mul_comm, ext_get_or}
use Rattle.std.proofs.lemmas.Bool.{cases_lt}
use Rattle.std.proofs.lemmas.Int.{ints}
use Rattle.std.proofs.lemmas.Nat.{div_below, mod_below, div-add-mod'}
use Rattle.kinds.specs.Values.{bounds}
use Rattle.kinds.specs.Laws.{bounds_laws}
use Rattle.kinds.specs.declared.bound.Bound.{Bound}
use Rattle.kinds.specs.declared.bound.Bound.TheVariants.{Least, Whole, Greatest}
use Rattle.books.specs.Books.{at}
use Rattle.books.proofs.Worth.{no_option}
use Rattle.language_theory.specs.Graphs.{Graph}
use Rattle.language_theory.specs.WellFormed.{WellFormed}
use Rattle.script_equations_theory.specs.Bounds.{upper, lower, variables_of, bound_book}
use Rattle.script_equations_theory.proofs.Places.{none_of, bound_count, book_long}
use Rattle.script_equations_theory.proofs.Forms.{bound_well}
use Rattle.soundness_theory.specs.Intervals.{ends, interval}
use Rattle.soundness_theory.specs.Kept.{Reached, Unreached}
use Rattle.soundness_theory.proofs.Pairs.{paired}
use Rattle.report_theory.specs.Laws.{SettlesAfter}
use Rattle.report_theory.proofs.Ends.{settled_least}

-- U and L of a variable, by its interval: the upper end, and the lower end negated; both are least where there is none
abbrev pub upper_end : Option (Bound × Bound) → Bound
upper_end None = Least
upper_end (Some i) = i.1

abbrev pub negated : Bound → Bound
negated Least = Greatest
negated (Whole a) = Whole (neg_ℤ a)
negated Greatest = Least

abbrev pub lower_end : Option (Bound × Bound) → Bound
lower_end None = Least
lower_end (Some i) = negated i.0

-- they are these two bounds
pub record Tells (o : Option (Bound × Bound)) (u l : Bound) : Type 0 where
  pub high : u ≡ upper_end o
  pub low : l ≡ lower_end o

minus_minus : (a : ℤ) → a ≡ neg_ℤ (neg_ℤ a)
minus_minus a = grind (arith, ints)

ends_tell : (u l : Bound) (i : Bound × Bound) → ends u l ≡ Some i → Tells (ends u l) u l
ends_tell Least l i e = absurd (no_option e)
ends_tell (Whole a) Least i e = absurd (no_option e)
ends_tell (Whole a) (Whole b) i e = record { high = refl; low = ap Whole (minus_minus b) }
ends_tell (Whole a) Greatest i e = record { high = refl; low = refl }
ends_tell Greatest Least i e = absurd (no_option e)
ends_tell Greatest (Whole b) i e = record { high = refl; low = ap Whole (minus_minus b) }
ends_tell Greatest Greatest i e = record { high = refl; low = refl }

-- the interval of v at p tells its two unknowns
abbrev pub Told : Graph → List Bound → ℕ → ℕ → Type 0
Told g y p v = Tells (interval g y p v) (at bounds y (upper (variables_of g) p v)) (at bounds y (lower (variables_of g) p v))

module _ (g : Graph) (y : List Bound) (p v : ℕ) where
  reached_told : Reached g y p v → Told g y p v
  reached_told r = ends_tell (at bounds y (upper (variables_of g) p v)) (at bounds y (lower (variables_of g) p v)) r.i r.there

  unreached_told : Unreached g y p v → Told g y p v
  unreached_told r = record { high = r.high ∙ sym (ap upper_end r.absent); low = r.low ∙ sym (ap lower_end r.absent) }

-- what is known of the settled values of bounds
pub record Known (g : Graph) (y : List Bound) : Type 0 where
  pub long : length y ≡ bound_count g
  pub told : (p v : ℕ) → p < g.points → v < variables_of g → Told g y p v

pub settled_known : (g : Graph) → WellFormed g → (k : ℕ) (y : List Bound) → SettlesAfter bounds (bound_book g) k y → Known g y
settled_known g fits k y s =
    let least = settled_least bounds bounds_laws (bound_book g) (bound_well g fits) k y s in
    record {
      long = least.solves.long ∙ book_long g;
      told = λ p v h j. ⊎_elim (λ (r : (v : ℕ) → v < variables_of g → Reached g y p v). reached_told g y p v (r v j)) (λ (r : (v : ℕ) → v < variables_of g → Unreached g y p v). unreached_told g y p v (r v j))
          (paired g fits y least.solves least.below p h);
    }

-- an unknown of n variables at q points
record Place (n q u : ℕ) : Type 0 where
  pub p : ℕ
  pub v : ℕ
  pub point : p < q
  pub variable : v < n
  pub is : (upper n p v ≡ u) ⊎ (lower n p v ≡ u)

place_of : (n q u : ℕ) → u < 2 * (n * q) → Place n q u
place_of n q u h =
    let some : 0 < n = none_of n q (u / 2) (omega arith) in
    let below : u / 2 < q * n = subst (λ (z : ℕ). u / 2 < z) (mul_comm n q) (omega arith) in
    let split : n * (u / 2 / n) + u / 2 % n ≡ u / 2 = ap (λ (z : ℕ). z + u / 2 % n) (mul_comm n (u / 2 / n)) ∙ div-add-mod' (u / 2) n in
    record {
      p = u / 2 / n;
      v = u / 2 % n;
      point = div_below (u / 2) n q some below;
      variable = mod_below (u / 2) n some;
      is = ⊎_elim (λ (k : u % 2 < 1). inl (omega (arith, split))) (λ (k : 1 ≤ u % 2). inr (omega (arith, split))) (cases_lt (u % 2) 1);
    }

-- of as many points and variables, the same intervals tell the same values
module _ (g g' : Graph) (y y' : List Bound) (w : Known g y) (w' : Known g' y') (points : g.points ≡ g'.points) (variables : variables_of g ≡ variables_of g')
    (same : (p v : ℕ) → p < g.points → v < variables_of g → interval g y p v ≡ interval g' y' p v) where
  told' : (p v : ℕ) → p < g.points → v < variables_of g → Told g' y' p v
  told' p v h j = w'.told p v (omega (arith, points)) (omega (arith, variables))

  same_upper : (p v : ℕ) → p < g.points → v < variables_of g → at bounds y (upper (variables_of g) p v) ≡ at bounds y' (upper (variables_of g) p v)
  same_upper p v h j = (w.told p v h j).high ∙ ap upper_end (same p v h j) ∙ sym (told' p v h j).high ∙ ap (λ (n : ℕ). at bounds y' (upper n p v)) (sym variables)

  same_lower : (p v : ℕ) → p < g.points → v < variables_of g → at bounds y (lower (variables_of g) p v) ≡ at bounds y' (lower (variables_of g) p v)
  same_lower p v h j = (w.told p v h j).low ∙ ap lower_end (same p v h j) ∙ sym (told' p v h j).low ∙ ap (λ (n : ℕ). at bounds y' (lower n p v)) (sym variables)

  same_at : (u : ℕ) → Place (variables_of g) g.points u → at bounds y u ≡ at bounds y' u
  same_at u d = ⊎_elim (λ (e : upper (variables_of g) d.p d.v ≡ u). subst (λ (i : ℕ). at bounds y i ≡ at bounds y' i) e (same_upper d.p d.v d.point d.variable))
      (λ (e : lower (variables_of g) d.p d.v ≡ u). subst (λ (i : ℕ). at bounds y i ≡ at bounds y' i) e (same_lower d.p d.v d.point d.variable)) d.is

  as_many : bound_count g ≡ bound_count g'
  as_many = λ t. 2 * (variables t * points t)

  pub same_values : y ≡ y'
  same_values = ext_get_or Least y y' (w.long ∙ as_many ∙ sym w'.long) (λ u h. same_at u (place_of (variables_of g) g.points u (subst (λ (n : ℕ). u < n) w.long h)))
