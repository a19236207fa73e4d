-- of how many items terms, alternatives and right sides are made
use Rattle.std.proofs.Common.{◌≡◌, ℕ, zero, suc, ◌≤◌, Bool, true, false, cond, ◌⊎◌, List, [], ◌∷◌, Some, sym, refl, subst, inl, inr, le_of_suc-le-suc, not-suc-le-zero}
use Rattle.kinds.specs.Kinds.{Ops, Laws, Made}
use Rattle.kinds.specs.Kinds.Made.{low, high, given, moved}
use Rattle.books.specs.Books.{at, holds, term, terms, worth, best, nth}
use Rattle.books.specs.Forms.{Among, WellTerm, WellAlternative}
use Rattle.books.specs.declared.Term.{Term}
use Rattle.books.specs.declared.Term.TheVariants.{Constant, Shifted}
use Rattle.books.specs.declared.Terms.{Terms}
use Rattle.books.specs.declared.Alternative.{Alternative}
use Rattle.books.proofs.Order.{greater_either}
use Rattle.books.proofs.Worth.{terms_met}

-- each value is made of up to k items
abbrev pub Sizes : {V W : Type 0} → Ops V W → ℕ → List V → Type 0
Sizes o k x = (u : ℕ) → Made o k (at o x u)

module _ {V W : Type 0} (o : Ops V W) (l : Laws o) where
  pub made_more : {a : ℕ} {x : V} (b : ℕ) → a ≤ b → Made o a x → Made o b x
  made_more b h low = low
  made_more b h high = high
  made_more zero h (given p) = absurd (not-suc-le-zero h)
  made_more (suc b) h (given p) = given p
  made_more zero h (moved p s) = absurd (not-suc-le-zero h)
  made_more (suc b) h (moved p s) = moved p (made_more b (le_of_suc-le-suc h) s)

  module _ (n : ℕ) (x : List V) (k : ℕ) (h : Sizes o k x) where
    pub made_term : (t : Term V W) → WellTerm o n t → Made o (suc k) (term o x t)
    made_term (Constant e) w = given w.0
    made_term (Shifted v w) p = moved p.1 (h v)

    pub made_terms : (ts : Terms V W) → ((t : Term V W) → Among t ts → WellTerm o n t) → Made o (suc k) (terms o x ts)
    made_terms ts w = let t = terms_met o l x ts in subst (λ (y : V). Made o (suc k) y) (sym t.2) (made_term t.0 (w t.0 t.1))

    pub made_worth : (a : Alternative V W) → WellAlternative o n a → Made o (suc k) (worth o x a)
    made_worth a w = go (holds o x a.test)
      where
        go : (b : Bool) → Made o (suc k) (cond b (terms o x a.terms) o.least)
        go true = made_terms a.terms w.each
        go false = low

    pub made_best : (bs : List (Alternative V W)) → ((j : ℕ) (a : Alternative V W) → nth bs j ≡ Some a → WellAlternative o n a) → Made o (suc k) (best o x bs)
    made_best [] w = low
    made_best (a ∷ bs) w = go (greater_either o l (worth o x a) (best o x bs)) (made_best bs (λ j. w (suc j)))
      where
        go : (best o x (a ∷ bs) ≡ worth o x a) ⊎ (best o x (a ∷ bs) ≡ best o x bs) → Made o (suc k) (best o x bs) → Made o (suc k) (best o x (a ∷ bs))
        go (inl e) r = subst (λ (y : V). Made o (suc k) y) (sym e) (made_worth a (w zero a refl))
        go (inr e) r = subst (λ (y : V). Made o (suc k) y) (sym e) r
