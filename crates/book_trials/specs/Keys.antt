-- Drawn numbers: each key has one for each purpose.
use Rattle.std.specs.Prelude.{ℕ, ◌+◌, ◌*◌, ◌%◌}
use Rattle.book_trials.specs.declared.keys.Part.{Part}
use Rattle.book_trials.specs.declared.keys.Part.TheVariants.{Whole, First, Second}
use Rattle.book_trials.specs.declared.keys.Purpose.{Purpose}
use Rattle.book_trials.specs.declared.keys.Purpose.TheVariants.{Alternatives, Form, Terms, Unknown, Partner, Value, Weight}
use Rattle.book_trials.specs.declared.keys.Key.{Key}

-- drawn numbers lie below this prime
abbrev pub prime : ℕ
prime = 2147483647

abbrev pub part_number : Part → ℕ
part_number Whole = 0
part_number First = 1
part_number Second = 2

abbrev pub purpose_number : Purpose → ℕ
purpose_number Alternatives = 0
purpose_number Form = 1
purpose_number Terms = 2
purpose_number Unknown = 3
purpose_number Partner = 4
purpose_number Value = 5
purpose_number Weight = 6

-- the key of an alternative
abbrev pub key_of : ℕ → ℕ → ℕ → Key
key_of seed u k = record { seed = seed; unknown = u; number = k; part = Whole }

-- the key of a part of the same alternative
abbrev pub at_part : Part → Key → Key
at_part p s = record { seed = s.seed; unknown = s.unknown; number = s.number; part = p }

-- a key and a purpose as one number
unfoldable pub blended : Key → Purpose → ℕ
blended s p = (s.seed * 7919 + s.unknown * 104729 + s.number * 1299709 + (part_number s.part * 15485863 + purpose_number p * 32452843)) % prime

-- a number turned into another that looks unlike it
unfoldable pub stirred : ℕ → ℕ
stirred x = (x * x + 1013904223) % prime

-- the number that is drawn for a key and a purpose
unfoldable pub drawn : Key → Purpose → ℕ
drawn s p = stirred (stirred (blended s p))
