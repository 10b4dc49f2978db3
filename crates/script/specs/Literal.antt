-- Bytes, as arguments say them.
use Rattle.std.specs.Prelude.{◌≡◌, ℕ, ◌≢◌, List, [], ◌∷◌, ◌++◌, Ok, Err, Result}
use Rattle.script.specs.declared.argument_error.ArgumentError.{ArgumentError}
use Rattle.script.specs.declared.literal.Literal.{Literal}
use Rattle.script.specs.declared.literal.Literal.TheVariants.{Hexadecimal, Text, File}

-- x and digits, a text between quotation marks, or @ and a path; any other argument says no bytes.
-- The marks' codes are 120, 34 and 64
abbrev pub SaysBytes : List ℕ → Result Literal ArgumentError → Type 0
SaysBytes argument (Ok (Hexadecimal digits)) = argument ≡ 120 ∷ digits.now
SaysBytes argument (Ok (File path)) = argument ≡ 64 ∷ path.now
SaysBytes argument (Ok (Text text)) = argument ≡ 34 ∷ (text.now ++ 34 ∷ [])
SaysBytes argument (Err e) =
    ((bs : List ℕ) → argument ≢ 120 ∷ bs) × ((bs : List ℕ) → argument ≢ 64 ∷ bs)
    × ((bs : List ℕ) → argument ≢ 34 ∷ (bs ++ 34 ∷ []))
