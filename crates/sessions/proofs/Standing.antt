-- What is known of the state of a session: some life led to it.
use Rattle.std.proofs.Common.{◌≡◌, ℕ, ◌≤◌, true, List, length, ℤ, sym, ◌∙◌, arith}
use Rattle.std.proofs.Math.Logic.{∥∥₁_elim}
use Rattle.std.proofs.Math.Nat.{ℕ_set}
use Rattle.std.proofs.lemmas.List.{length-map}
use Rattle.kinds.specs.Limits.{most_items}
use Rattle.kinds.specs.Kinds.{Ops, Laws, Made}
use Rattle.kinds.specs.Values.{bounds, SizedBy, Near}
use Rattle.kinds.specs.Laws.{bounds_laws}
use Rattle.kinds.specs.declared.bound.Bound.{Bound}
use Rattle.kinds.specs.declared.bound.Bound.TheVariants.{Least as Lowest, Whole, Greatest}
use Rattle.kinds.proofs.Sizes.{made_sized, sized_prop}
use Rattle.books.specs.Books.{at, right, HoldsUp}
use Rattle.books.specs.Entries.{values}
use Rattle.books.specs.Forms.{Well}
use Rattle.books.specs.declared.Alternative.{Alternative}
use Rattle.books.specs.declared.Entry.{Entry}
use Rattle.books.proofs.Order as order
use Rattle.strategy_theory.specs.Solving.{Settled}
use Rattle.strategy_theory.specs.Promises.{Promises, Least}
use Rattle.strategy_theory.specs.Calls.{unasked, state}
use Rattle.strategy_theory.proofs.Keeping.{promised}
use Rattle.soundness_theory.specs.Questions.{is_settled}
use Rattle.soundness_theory.proofs.Settling.{settled_is}
use Rattle.sessions.specs.Sessions.{Lived}

module _ {V W : Type 0} (o : Ops V W) (l : Laws o) (m : List (List (Alternative V W))) (well : Well o m) (es : List (Entry V)) (n : ℕ) (t : ∥ Lived o m (state es n) ∥₁) where
  -- what a life promises of its state
  promises : (r : Lived o m (state es n)) → Promises o m r.history r.past (state es n)
  promises r = promised o m unasked l well r.life

  -- there is a value for each unknown of the book
  values_long : length (values es) ≡ length m
  values_long = ∥∥₁_elim t (ℕ_set _ _) (λ r. (promises r).values.long)

  pub long_of : length es ≡ length m
  long_of = sym (length-map es (λ (e : Entry V). e.value)) ∙ values_long

  module _ (e : is_settled o m (values es) ≡ true) where
    settled : Settled o m (values es)
    settled = (settled_is o m (values es)).0 e

    -- settled values hold up
    pub holds_of : HoldsUp o m (values es)
    holds_of = record { long = values_long; under = settled }

    least_at : (r : Lived o m (state es n)) → Least o m (values es)
    least_at r = (promises r).least settled

    -- and are the least solution
    pub least_of : Least o m (values es)
    least_of = record {
      solves = record {
        long = values_long;
        same = λ u h. l.antisymmetric (at o (values es) u) (right o m (values es) u)
            (∥∥₁_elim t (order.le_prop o _ _) (λ r. order.le_of_eq o l ((least_at r).solves.same u h))) (settled u h);
      };
      below = λ y h u. ∥∥₁_elim t (order.le_prop o _ _) (λ r. (least_at r).below y h u);
    }

-- a sum of fewer items is no larger
sized_more : (j k : ℕ) (x : Bound) → j ≤ k → SizedBy j x → SizedBy k x
sized_more j k Lowest h s = tt
sized_more j k (Whole a) h s = omega arith
sized_more j k Greatest h s = tt

-- each bound of a state is an infinity or of allowed size
pub near_of : (m : List (List (Alternative Bound ℤ))) → Well bounds m → (es : List (Entry Bound)) (n : ℕ) → ∥ Lived bounds m (state es n) ∥₁ → (u : ℕ) → Near (at bounds (values es) u)
near_of m well es n t u = ∥∥₁_elim t (sized_prop most_items x) (λ r. ∥∥₁_elim ((promised bounds m unasked bounds_laws well r.life).sized u) (sized_prop most_items x) near)
  where
    x : Bound
    x = at bounds (values es) u

    near : Made bounds (length m) x → Near x
    near d = sized_more (length m) most_items x (let h = well.small in omega arith) (made_sized d)
