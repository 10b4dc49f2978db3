-- The bytes that an argument says.
use Rattle.std.specs.Prelude.{◌≡◌, ℕ, List, [], ◌∷◌, ◌++◌, Ok}
use Rattle.hex.specs.Hex.{decode_of}

-- after x, 120, stand the hexadecimal digits of the bytes; between quotation marks, 34, the bytes
-- themselves. Of the bytes of a file that is named nothing is said
abbrev pub IsSaidBy : List ℕ → List ℕ → Type 0
IsSaidBy argument bs =
    ((digits : List ℕ) → argument ≡ 120 ∷ digits → decode_of digits ≡ Ok bs)
    × ((text : List ℕ) → argument ≡ 34 ∷ (text ++ 34 ∷ []) → bs ≡ text)
