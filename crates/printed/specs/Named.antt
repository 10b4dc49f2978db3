-- A record as it is printed: its fields' names and numbers, and its block's text.
use Rattle.std.specs.Prelude.{◌≡◌, ℕ, List, [], ◌∷◌, ◌++◌, Some, None, Option, codes, decimal, map, ⊤}
use Rattle.kinds.specs.Packed.{Part}
use Rattle.printed.specs.Blocks.{quoted_text}
use Rattle.script.specs.Fields.{field_name, HaveNumbers, signed_text}
use Rattle.script.specs.declared.fields.NamedNumeral.{NamedNumeral}
use Rattle.script.specs.declared.fields.Numeral.{Numeral}
use Rattle.script.specs.declared.fields.Numeral.TheVariants.{Unsigned, Signed, Float}

-- a number in decimal digits; of a float nothing is said
abbrev pub IsNumberText : Numeral → List ℕ → Type 0
IsNumberText (Unsigned n) t = t ≡ decimal n
IsNumberText (Signed z) t = t ≡ signed_text z
IsNumberText (Float x) t = ⊤

-- a field by its name and its number: range_method 1
abbrev pub IsFieldText : NamedNumeral → List ℕ → Type 0
IsFieldText f t = (number : List ℕ) × ((t ≡ field_name f ++ (codes " " ++ number)) × IsNumberText f.1 number)

-- fields, each after a comma
abbrev pub AreMoreFields : List NamedNumeral → List ℕ → Type 0
AreMoreFields [] t = t ≡ []
AreMoreFields (f ∷ fs) t =
    (first : List ℕ) × ((more : List ℕ) × ((t ≡ codes ", " ++ (first ++ more)) × (IsFieldText f first × AreMoreFields fs more)))

-- fields, parted by commas: range_method 1, range_multiple 2
abbrev pub IsFieldList : List NamedNumeral → List ℕ → Type 0
IsFieldList [] t = t ≡ []
IsFieldList (f ∷ fs) t =
    (first : List ℕ) × ((more : List ℕ) × ((t ≡ first ++ more) × (IsFieldText f first × AreMoreFields fs more)))

-- the text of a block after its lead, where the block has a text
abbrev pub text_after : Option (List ℕ) → List ℕ → List ℕ
text_after None text = []
text_after (Some lead) text = lead ++ quoted_text text

-- fields of those names with the numbers of the parts, and the text
abbrev pub IsRecordText : List (List ℕ) → List Part → List ℕ → Option (List ℕ) → List ℕ → List ℕ → Type 0
IsRecordText names ps ns lead text t =
    (fs : List NamedNumeral) × ((list : List ℕ) × ((t ≡ list ++ text_after lead text)
    × ((map field_name fs ≡ names) × (HaveNumbers ps ns fs × IsFieldList fs list))))
