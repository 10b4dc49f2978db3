-- The numbers of a record, as the arguments of a line write them.
use Rattle.std.specs.Prelude.{◌≡◌, ℕ, List, [], ◌∷◌, ⊤}
use Rattle.kinds.specs.Packed.{Part}
use Rattle.script.specs.Numbers.{IsNumeralFor, number_for}
use Rattle.script.specs.Arguments.{argument, after_argument}

-- a text begins with an argument for each part, which writes a number that fits it
abbrev pub HasNumeralsFor : List Part → List ℕ → Type 0
HasNumeralsFor [] t = ⊤
HasNumeralsFor (p ∷ ps) t = IsNumeralFor p (argument t) × HasNumeralsFor ps (after_argument t)

-- those numbers, in order
abbrev pub numbers_for : List Part → List ℕ → List ℕ
numbers_for [] t = []
numbers_for (p ∷ ps) t = number_for p (argument t) ∷ numbers_for ps (after_argument t)

-- what stands after the arguments
abbrev pub after_numerals : List Part → List ℕ → List ℕ
after_numerals [] t = t
after_numerals (p ∷ ps) t = after_numerals ps (after_argument t)

-- those numbers were read from the text, and that is left of it
abbrev pub ReadsNumbers : List Part → List ℕ → List ℕ → List ℕ → Type 0
ReadsNumbers ps t ns rest = HasNumeralsFor ps t × (ns ≡ numbers_for ps t) × (rest ≡ after_numerals ps t)
