-- Conditions that several calls ask, each with its refusal; all of them are of the call.
use Rattle.std.specs.Prelude.{ℕ, ◌&&◌, ◌==◌, nat_le}
use Rattle.faults.specs.declared.refusal.Refusal.TheVariants.{NoSuchField, WrongLengthOrCount}
use Rattle.faults.specs.Faults.{fault}
use Rattle.format.specs.declared.field.Field.{Field}
use Rattle.format.specs.Checks.{Check, unless}
use Rattle.format.specs.Header.{field_count}

-- a field is one of those of the table; else 18
abbrev pub field_known : ℕ → Check
field_known n = unless (nat_le 1 n && nat_le n field_count) (fault NoSuchField 0)

-- of something that has n bytes or values, m are given; else 17, with n
abbrev pub as_long : ℕ → ℕ → Check
as_long n m = unless (m == n) (fault WrongLengthOrCount n)

-- the number of a field of the library
abbrev pub field_number : Field → ℕ
field_number field = field.number
