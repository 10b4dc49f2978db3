-- What is said of an argument that writes no number.
use Rattle.std.specs.Prelude.{◌≡◌, ℕ, List, codes}
use Rattle.kutsvame.specs.declared.command_error.CommandError.{CommandError}
use Rattle.kutsvame.specs.declared.command_error.CommandError.TheVariants.{Misused, Read, Refused, Write, Reported, Io}

-- the failure names that argument, and says that it is no decimal number
abbrev pub SaysNoNumber : List ℕ → CommandError → Type 0
SaysNoNumber argument (Misused why named) = (why.now ≡ codes "no decimal number") × (named.now ≡ argument)
SaysNoNumber argument (Read file) = ⊥
SaysNoNumber argument (Refused name fault) = ⊥
SaysNoNumber argument (Write file) = ⊥
SaysNoNumber argument Reported = ⊥
SaysNoNumber argument (Io error) = ⊥
