-- What is known of a variable at a point.
use Rattle.std.specs.Prelude.{ℕ, ◌+◌, ◌-◌, ◌*◌, ◌^◌, min, slice_get, unwrap_or}
use Rattle.reference.specs.declared.extended.Extended.TheVariants.{NegInf, PosInf}
use Rattle.reference.specs.declared.results.AbstractValue.{AbstractValue}
use Rattle.reference.specs.declared.results.Results.{Results}

-- the number of a variable at a point, as far as 64 bits go
abbrev pub pair_of : ℕ → ℕ → ℕ → ℕ
pair_of variables point v = min (min (point * variables) (2 ^ 64 - 1) + v) (2 ^ 64 - 1)

abbrev pub unreached : AbstractValue
unreached = record { interval = record { low = PosInf; high = NegInf }; grade = NegInf }

abbrev pub value_at : Results → ℕ → ℕ → AbstractValue
value_at r point v = unwrap_or (slice_get r.values.items (pair_of r.variables point v)) unreached
