-- what the functions of evaluation answer, from what they have been answered
use Rattle.std.proofs.Common.{◌≡◌, ℕ, Bool, true, false, cond, ltb, List, length, get_or, sym, ap, ◌∙◌, subst, arith, ltb-true}
use Rattle.std.proofs.lemmas.List.{get_or-map}
use Rattle.kinds.specs.Limits.{most_items}
use Rattle.kinds.specs.Kinds.{Ops, Laws, Sum, Made}
use Rattle.kinds.specs.Kinds.Made.{given}
use Rattle.books.specs.Books.{at, smaller, holds, term, terms, worth}
use Rattle.books.specs.Forms.{Among, WellTest, WellTerm, WellAlternative}
use Rattle.books.specs.Forms.Among.{only, first, second}
use Rattle.books.specs.Entries.{values, Short}
use Rattle.books.specs.declared.Entry.{Entry}
use Rattle.books.specs.declared.Term.{Term}
use Rattle.books.specs.declared.Term.TheVariants.{Shifted}
use Rattle.books.specs.declared.Terms.{Terms}
use Rattle.books.specs.declared.Terms.TheVariants.{One, Two}
use Rattle.books.specs.declared.Test.{Test}
use Rattle.books.specs.declared.Test.TheVariants.{Single, Joint}
use Rattle.books.specs.declared.Alternative.{Alternative}
use Rattle.books.proofs.Sizes.{made_more, made_term}
use Rattle.books.proofs.Worth.{sum_light}

module _ {V W : Type 0} (o : Ops V W) (l : Laws o) where
  -- the value of an unknown in the list, and of one that is not there
  pub at_inside : (es : List (Entry V)) (u : ℕ) (e : Entry V) → true ≡ ltb u (length es) → e ≡ get_or es u e → e.value ≡ at o (values es) u
  at_inside es u e h is = ap (λ (d : Entry V). d.value) is ∙ sym (get_or-map (λ (d : Entry V). d.value) es u e o.least (ltb-true u (length es) (sym h)))

  module _ (x : List V) (h : Short o x) (n : ℕ) where
    made_at : (v : V) (u : ℕ) → v ≡ at o x u → Made o most_items v
    made_at v u e = subst (λ (y : V). Made o most_items y) (sym e) (made_more o l most_items (omega arith) (h u))

    pub single_is : (test : Test V) (u : ℕ) (t v : V) (r : Bool) → test ≡ Single u t → v ≡ at o x u → (Made o most_items t → Made o most_items v → r ≡ o.at_most t v) →
        WellTest o n test → r ≡ holds o x test
    single_is test u t v r e f k = subst (λ (y : Test V). WellTest o n y → r ≡ holds o x y) (sym e)
        (λ w. k (given w.1.0) (made_at v u f) ∙ ap (λ (y : V). o.at_most t y) f)

    pub joint_is : (test : Test V) (u u' : ℕ) (t v v' : V) (r : Bool) → test ≡ Joint u u' t → v ≡ at o x u → v' ≡ at o x u' →
        (Made o most_items v → Made o most_items v' → Made o most_items t → r ≡ o.joint v v' t) → WellTest o n test → r ≡ holds o x test
    joint_is test u u' t v v' r e f f' k = subst (λ (y : Test V). WellTest o n y → r ≡ holds o x y) (sym e)
        (λ w. k (made_at v u f) (made_at v' u' f') (given w.2.0) ∙ ap (λ (y : V). o.joint y v' t) f ∙ ap (λ (y : V). o.joint (at o x u) y t) f')

    pub shifted_is : (part : Term V W) (u : ℕ) (w : W) (v r : V) → part ≡ Shifted u w → v ≡ at o x u → (Made o most_items v → Sum o most_items w → r ≡ o.shift v w) →
        WellTerm o n part → r ≡ term o x part
    shifted_is part u w v r e f k = subst (λ (y : Term V W). WellTerm o n y → r ≡ term o x y) (sym e)
        (λ p. k (made_at v u f) (sum_light o l p.1) ∙ ap (λ (y : V). o.shift y w) f)

    pub one_is : (parts : Terms V W) (t : Term V W) (r : V) → parts ≡ One t → (WellTerm o n t → r ≡ term o x t) → ((s : Term V W) → Among s parts → WellTerm o n s) → r ≡ terms o x parts
    one_is parts t r e k = subst (λ (y : Terms V W). ((s : Term V W) → Among s y → WellTerm o n s) → r ≡ terms o x y) (sym e) (λ w. k (w t only))

    -- the smaller of two terms, v and v', by the comparison b
    module _ (parts : Terms V W) (t s : Term V W) (v v' : V) (b : Bool) (e : parts ≡ Two t s) (f : WellTerm o n t → v ≡ term o x t) (f' : WellTerm o n s → v' ≡ term o x s)
        (k : Made o most_items v → Made o most_items v' → b ≡ o.at_most v v') where
      two_is : ((q : Term V W) → Among q parts → WellTerm o n q) → cond b v v' ≡ terms o x parts
      two_is = subst (λ (y : Terms V W). ((q : Term V W) → Among q y → WellTerm o n q) → cond b v v' ≡ terms o x y) (sym e)
          (λ w.
          let a = f (w t first) in
          let a' = f' (w s second) in
          let d : Made o most_items v = subst (λ (y : V). Made o most_items y) (sym a) (made_term o l n x _ h t (w t first)) in
          let d' : Made o most_items v' = subst (λ (y : V). Made o most_items y) (sym a') (made_term o l n x _ h s (w s second)) in
          ap (λ (c : Bool). cond c v v') (k d d') ∙ ap (λ (y : V). smaller o y v') a ∙ ap (λ (y : V). smaller o (term o x t) y) a')

      pub two_then : b ≡ true → ((q : Term V W) → Among q parts → WellTerm o n q) → v ≡ terms o x parts
      two_then p w = sym (ap (λ (c : Bool). cond c v v') p) ∙ two_is w

      pub two_else : b ≡ false → ((q : Term V W) → Among q parts → WellTerm o n q) → v' ≡ terms o x parts
      two_else p w = sym (ap (λ (c : Bool). cond c v v') p) ∙ two_is w

    pub worth_then : (a : Alternative V W) (b : Bool) (r : V) → b ≡ true → (WellTest o n a.test → b ≡ holds o x a.test) →
        (((t : Term V W) → Among t a.terms → WellTerm o n t) → r ≡ terms o x a.terms) → WellAlternative o n a → r ≡ worth o x a
    worth_then a b r e f k w = k w.each ∙ ap (λ (c : Bool). cond c (terms o x a.terms) o.least) (sym e ∙ f w.test)

    pub worth_else : (a : Alternative V W) (b : Bool) → b ≡ false → (WellTest o n a.test → b ≡ holds o x a.test) → WellAlternative o n a → o.least ≡ worth o x a
    worth_else a b e f w = ap (λ (c : Bool). cond c (terms o x a.terms) o.least) (sym e ∙ f w.test)
