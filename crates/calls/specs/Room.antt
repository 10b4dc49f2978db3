-- A buffer, as it grows.
use Rattle.std.specs.Prelude.{◌≡◌, ℕ, ◌-◌, ◌*◌, Bool, true, false, if◌then◌else◌, ◌&&◌, min, max, List, ◌++◌, length, replicate, Ok, Err, Result, Some, None, Option, MatchOption, nat_le, nat_lt, ◌==◌}
use Rattle.faults.specs.declared.fault.Fault.{Fault}
use Rattle.faults.specs.Numbers.{number_of}

-- how long a buffer is to be for a call that was refused with 32 and wants more bytes than there
-- are, at most so many: as long as it wants, and at least twice as long as it was, up to the most
abbrev pub length_for : ℕ → ℕ → Result (Unit {0}) Fault → Option ℕ
length_for most n (Ok done) = None
length_for most n (Err f) =
    if number_of f.refusal == 32 && (nat_le f.place most && nat_lt n f.place)
    then Some (max f.place (min most (2 * n))) else None

-- then it has zeros after; else it stays as it was
abbrev pub IsGrown : ℕ → List ℕ → Result (Unit {0}) Fault → Bool → List ℕ → Type 0
IsGrown most old outcome made new =
    MatchOption (length_for most (length old) outcome) ((made ≡ false) × (new ≡ old))
    (λ n. (made ≡ true) × (new ≡ old ++ replicate (n - length old) 0))
