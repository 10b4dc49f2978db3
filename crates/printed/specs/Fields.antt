-- The fields of the header as they are printed.
use Rattle.std.specs.Prelude.{ℕ, ◌≡◌, if◌then◌else◌, ◌||◌, List, [], ◌∷◌, ◌++◌, Some, None, codes, decimal, Option, ◌==◌, slice_index_or}
use Rattle.printed.specs.declared.fields.FieldLine.{FieldLine}
use Rattle.printed.specs.declared.fields.Form.{Form}
use Rattle.printed.specs.declared.fields.Form.TheVariants.{Number, Letters, Float}
use Rattle.printed.specs.Keys.{key_text}

-- CODAR's names, from field 1 on; there is no field 0
abbrev pub field_names : List (List ℕ)
field_names =
    [] ∷ codes "nDateTime" ∷ codes "nCsKind" ∷ codes "nSiteCodeName" ∷ codes "nCoverMinutes" ∷ codes "bDeletedSource"
    ∷ codes "bOverrideSrcInfo" ∷ codes "fStartFreqMHz" ∷ codes "fRepFreqHz" ∷ codes "fBandwidthKHz" ∷ codes "bSweepUp"
    ∷ codes "nDopplerCells" ∷ codes "nRangeCells" ∷ codes "nFirstRangeCell" ∷ codes "fRangeCellDistKm" ∷ codes "nOutputInterval"
    ∷ codes "nCreateTypeCode" ∷ codes "nCreatorVersion" ∷ codes "nActiveChannels" ∷ codes "nSpectraChannels"
    ∷ codes "nActiveChanBits" ∷ []

abbrev pub header_field_name : ℕ → List ℕ
header_field_name n = slice_index_or field_names n []

-- the fields that are four letters, those that are floating point numbers, and the others
abbrev pub field_form : ℕ → Form
field_form n =
    if n == 3 || (n == 16 || n == 17) then Letters
    else (if n == 7 || (n == 8 || (n == 9 || n == 14)) then Float else Number)

-- the line of a field has its number, its form and its pattern
abbrev pub IsLineOf : FieldLine → ℕ → ℕ → Type 0
IsLineOf line n x = (line.number ≡ n) × ((line.form ≡ field_form n) × (line.pattern ≡ x))

-- number, name and pattern of a field, and its letters; nothing is said of a floating point number
abbrev pub field_line : Form → ℕ → ℕ → Option (List ℕ)
field_line Number n x = Some (codes "field " ++ (decimal n ++ (codes " " ++ (header_field_name n ++ (codes ": " ++ decimal x)))))
field_line Letters n x =
    Some (codes "field " ++ (decimal n ++ (codes " " ++ (header_field_name n ++ (codes ": " ++ (decimal x
    ++ (codes " \"" ++ (key_text 32 126 x ++ codes "\""))))))))
field_line Float n x = None
