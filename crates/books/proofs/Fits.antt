-- A proof: a book that passes the computed test is well formed.
use Rattle.std.proofs.Common.{◌≡◌, ℕ, zero, suc, Bool, true, not, ◌&&◌, List, [], ◌∷◌, length, Some, refl, subst, leb-true, ltb-true}
use Rattle.std.specs.Prelude.{nat_le, nat_lt, slice_index_or}
use Rattle.std.proofs.lemmas.Bool.{and_parts, not-true}
use Rattle.kinds.specs.Limits.{most_unknowns, most_alternatives}
use Rattle.kinds.specs.Kinds.{Ops, Laws}
use Rattle.books.specs.Books.{nth}
use Rattle.books.specs.Forms.{Among, Threshold, WellTest, WellTerm, Well}
use Rattle.books.specs.Forms.Among.{only, first, second}
use Rattle.books.specs.Fits.{each, threshold_fits, test_fits, term_fits, terms_fit, alternative_fits, right_fits, book_fits}
use Rattle.books.specs.declared.Term.{Term}
use Rattle.books.specs.declared.Term.TheVariants.{Constant, Shifted}
use Rattle.books.specs.declared.Test.{Test}
use Rattle.books.specs.declared.Test.TheVariants.{Always, Single, Joint}
use Rattle.books.specs.declared.Terms.{Terms}
use Rattle.books.specs.declared.Alternative.{Alternative}
use Rattle.books.proofs.Order.{not_least}
use Rattle.books.proofs.Worth.{no_option}
use Rattle.books.proofs.Asked.{some_same}

each_nth : {A : Type 0} (f : A → Bool) (l : List A) (k : ℕ) (a : A) → each f l ≡ true → nth l k ≡ Some a → f a ≡ true
each_nth f [] k a h e = absurd (no_option e)
each_nth f (b ∷ l) zero a h e = subst (λ (c : _). f c ≡ true) (some_same e) (and_parts (f b) (each f l) h).0
each_nth f (b ∷ l) (suc k) a h e = each_nth f l k a (and_parts (f b) (each f l) h).1 e

each_get_or : {A : Type 0} (f : List A → Bool) (m : List (List A)) (u : ℕ) → f [] ≡ true → each f m ≡ true → f (slice_index_or m u []) ≡ true
each_get_or f [] u n h = n
each_get_or f (l ∷ m) zero n h = (and_parts (f l) (each f m) h).0
each_get_or f (l ∷ m) (suc u) n h = each_get_or f m u n (and_parts (f l) (each f m) h).1

module _ {V W : Type 0} (o : Ops V W) (l : Laws o) where
  threshold_well : (c : V) → threshold_fits o c ≡ true → Threshold o c
  threshold_well c e =
      let p = and_parts (o.sized c) (not (o.at_most c o.least)) e in
      (p.0, not_least o l (not-true (o.at_most c o.least) p.1))

  test_well : (n : ℕ) (t : Test V) → test_fits o n t ≡ true → WellTest o n t
  test_well n Always e = tt
  test_well n (Single u t) e =
      let p = and_parts (nat_lt u n) (threshold_fits o t) e in (ltb-true u n p.0, threshold_well t p.1)
  test_well n (Joint u v t) e =
      let p = and_parts (nat_lt u n) (nat_lt v n && threshold_fits o t) e in
      let q = and_parts (nat_lt v n) (threshold_fits o t) p.1 in
      (ltb-true u n p.0, ltb-true v n q.0, threshold_well t q.1)

  term_well : (n : ℕ) (t : Term V W) → term_fits o n t ≡ true → WellTerm o n t
  term_well n (Constant c) e = threshold_well c e
  term_well n (Shifted v w) e = let p = and_parts (nat_lt v n) (o.light w) e in (ltb-true v n p.0, p.1)

  terms_well : (n : ℕ) (t : Term V W) {ts : Terms V W} → Among t ts → terms_fit o n ts ≡ true → WellTerm o n t
  terms_well n t only e = term_well n t e
  terms_well n t (first {s = s}) e = term_well n t (and_parts (term_fits o n t) (term_fits o n s) e).0
  terms_well n t (second {s = s}) e = term_well n t (and_parts (term_fits o n s) (term_fits o n t) e).1

  pub book_well : (m : List (List (Alternative V W))) → book_fits o m ≡ true → Well o m
  book_well m e =
      let p = and_parts (nat_le (length m) most_unknowns) (each (right_fits o (length m)) m) e in
      let r : (u : ℕ) → right_fits o (length m) (slice_index_or m u []) ≡ true = λ u. each_get_or (right_fits o (length m)) m u refl p.1 in
      let b = λ (u : ℕ). and_parts (nat_le (length (slice_index_or m u [])) most_alternatives) (each (alternative_fits o (length m)) (slice_index_or m u [])) (r u) in
      record {
        small = leb-true (length m) most_unknowns p.0;
        few = λ u. leb-true (length (slice_index_or m u [])) most_alternatives (b u).0;
        fine = λ u k a i.
            let f = and_parts (test_fits o (length m) a.test) (terms_fit o (length m) a.terms) (each_nth (alternative_fits o (length m)) (slice_index_or m u []) k a (b u).1 i) in
            record { test = test_well (length m) a.test f.0; each = λ t i. terms_well (length m) t i f.1 };
      }
