-- Books of equations that are drawn: the alternatives of each unknown, by the numbers drawn for their keys.
use Rattle.std.specs.Prelude.{ℕ, ◌%◌, cond, List, map, ◌==◌, nat_lt}
use Rattle.std.specs.List.{range_with_len}
use Rattle.books.specs.declared.Term.{Term}
use Rattle.books.specs.declared.Term.TheVariants.{Constant, Shifted}
use Rattle.books.specs.declared.Test.{Test}
use Rattle.books.specs.declared.Test.TheVariants.{Always, Single, Joint}
use Rattle.books.specs.declared.Terms.{Terms}
use Rattle.books.specs.declared.Terms.TheVariants.{One, Two}
use Rattle.books.specs.declared.Alternative.{Alternative}
use Rattle.book_trials.specs.Keys.{drawn, key_of, at_part}
use Rattle.book_trials.specs.Makers.{Maker}
use Rattle.book_trials.specs.declared.keys.Part.TheVariants.{First, Second}
use Rattle.book_trials.specs.declared.keys.Purpose.TheVariants as purpose
use Rattle.book_trials.specs.declared.keys.Key.{Key}

-- how many alternatives an unknown has, up to 4
abbrev pub drawn_count : ℕ → ℕ → ℕ
drawn_count seed u = drawn (key_of seed u 0) purpose.Alternatives % 5

-- the parts of a book of n unknowns
module _ {V W : Type 0} (m : Maker V W) (n : ℕ) where
  -- three tests in five are none, one is single and one joint
  abbrev pub drawn_test : Key → Test V
  drawn_test s =
      cond (nat_lt (drawn s purpose.Form % 5) 3) Always
      (cond (drawn s purpose.Form % 5 == 3)
      (Single (drawn s purpose.Unknown % n) (m.threshold (drawn s purpose.Value)))
      (Joint (drawn s purpose.Unknown % n) (drawn s purpose.Partner % n) (m.threshold (drawn s purpose.Value))))

  -- one term in three is a constant
  abbrev pub drawn_term : Key → Term V W
  drawn_term s =
      cond (drawn s purpose.Form % 3 == 0) (Constant (m.constant (drawn s purpose.Value)))
      (Shifted (drawn s purpose.Unknown % n) (m.weight (drawn s purpose.Weight)))

  -- two alternatives in three have one term, the others two
  abbrev pub drawn_terms : Key → Terms V W
  drawn_terms s =
      cond (nat_lt (drawn s purpose.Terms % 3) 2) (One (drawn_term (at_part First s)))
      (Two (drawn_term (at_part First s)) (drawn_term (at_part Second s)))

  abbrev pub drawn_alternative : Key → Alternative V W
  drawn_alternative s = record { test = drawn_test s; terms = drawn_terms s }

  -- the alternatives of an unknown
  abbrev pub drawn_side : ℕ → ℕ → List (Alternative V W)
  drawn_side seed u = map (λ (k : ℕ). drawn_alternative (key_of seed u k)) (range_with_len 0 (drawn_count seed u))

-- the book of a seed, of n unknowns
abbrev pub drawn_book : {V W : Type 0} → Maker V W → ℕ → ℕ → List (List (Alternative V W))
drawn_book m seed n = map (λ (u : ℕ). drawn_side m n seed u) (range_with_len 0 n)
