-- What an edit answers as one number.
use Rattle.std.specs.Prelude.{ℕ, Ok, Err}
use Rattle.faults.specs.Numbers.{number_of}
use Rattle.format.specs.Checks.{Check}

-- 0 for an edit that is made, or the number of the refusal
abbrev pub refusal_number : Check → ℕ
refusal_number (Ok x) = 0
refusal_number (Err f) = number_of f.refusal
