-- The fields of a record: their names, and their numbers as arguments write them.
use Rattle.std.specs.Prelude.{◌≡◌, ℕ, suc, FitsSigned, ℤ, pos, negsuc, List, [], ◌∷◌, ◌++◌, codes, decimal, ⊤}
use Rattle.std.specs.Int.{w16}
use Rattle.std.specs.List.{flat_map}
use Rattle.std.proofs.Common.{of_z, to_z}
use Rattle.buffers.specs.Words.{Width, one, two, four, eight}
use Rattle.kinds.specs.Packed.{Part, plain, signed}
use Rattle.script.specs.declared.fields.NamedNumeral.{NamedNumeral}
use Rattle.script.specs.declared.fields.Numeral.{Numeral}
use Rattle.script.specs.declared.fields.Numeral.TheVariants.{Unsigned, Signed, Float}

abbrev pub time_names : List (List ℕ)
time_names =
    codes "mark" ∷ codes "year" ∷ codes "month" ∷ codes "day" ∷ codes "hour" ∷ codes "minute" ∷ codes "seconds"
    ∷ codes "coverage" ∷ codes "utc" ∷ []

abbrev pub loca_names : List (List ℕ)
loca_names = codes "latitude" ∷ codes "longitude" ∷ codes "altitude" ∷ []

abbrev pub rcvi_names : List (List ℕ)
rcvi_names = codes "receiver" ∷ codes "antenna" ∷ codes "gain" ∷ []

abbrev pub glrm_names : List (List ℕ)
glrm_names =
    codes "method" ∷ codes "version" ∷ codes "points" ∷ codes "times" ∷ codes "segments" ∷ codes "point_power"
    ∷ codes "range_power" ∷ codes "range_bin" ∷ codes "remove_dc" ∷ []

abbrev pub supi_names : List (List ℕ)
supi_names =
    codes "method" ∷ codes "version" ∷ codes "mode" ∷ codes "debug_mode" ∷ codes "cells" ∷ codes "power"
    ∷ codes "range_bin" ∷ codes "banding" ∷ codes "smoothing" ∷ []

abbrev pub fwin_names : List (List ℕ)
fwin_names = codes "range" ∷ codes "doppler" ∷ codes "range_parameter" ∷ codes "doppler_parameter" ∷ []

abbrev pub fill_names : List (List ℕ)
fill_names = codes "range_method" ∷ codes "range_multiple" ∷ codes "doppler_method" ∷ codes "doppler_multiple" ∷ []

-- the name of a field
abbrev pub field_name : NamedNumeral → List ℕ
field_name f = f.0.now

-- an unsigned number of a width; one of eight bytes is the pattern of a float
abbrev pub numeral_for : Width → ℕ → Numeral
numeral_for one n = Unsigned n
numeral_for two n = Unsigned n
numeral_for four n = Unsigned n
numeral_for eight n = Float n

-- the number of a part, as a record has it in its list
abbrev pub IsNumeralOf : Part → ℕ → Numeral → Type 0
IsNumeralOf (plain w) n x = x ≡ numeral_for w n
IsNumeralOf signed n (Unsigned m) = ⊥
IsNumeralOf signed n (Signed z) = FitsSigned w16 z × (of_z w16 z ≡ n)
IsNumeralOf signed n (Float m) = ⊥

-- the fields have the numbers of the parts, in order
abbrev pub HaveNumbers : List Part → List ℕ → List NamedNumeral → Type 0
HaveNumbers [] ns [] = ⊤
HaveNumbers [] ns (f ∷ fs) = ⊥
HaveNumbers (p ∷ ps) [] fs = ⊥
HaveNumbers (p ∷ ps) (n ∷ ns) [] = ⊥
HaveNumbers (p ∷ ps) (n ∷ ns) (f ∷ fs) = IsNumeralOf p n f.1 × HaveNumbers ps ns fs

-- a signed number in decimal digits, after a minus sign, 45, where it is negative
abbrev pub signed_text : ℤ → List ℕ
signed_text (pos n) = decimal n
signed_text (negsuc n) = 45 ∷ decimal (suc n)

-- a number as an argument writes it: a float by its pattern
abbrev pub numeral_text : Numeral → List ℕ
numeral_text (Unsigned n) = decimal n
numeral_text (Signed z) = signed_text z
numeral_text (Float x) = decimal x

-- the number of a field as an argument, after a space
abbrev pub field_argument : NamedNumeral → List ℕ
field_argument f = codes " " ++ numeral_text f.1

-- a number of a part in decimal digits; a record has a signed one as its bit pattern
abbrev pub part_text : Part → ℕ → List ℕ
part_text (plain w) n = decimal n
part_text signed n = signed_text (to_z w16 n)

-- the numbers of the parts in order, each after a space
abbrev pub arguments_for : List Part → List ℕ → List ℕ
arguments_for [] xs = []
arguments_for (p ∷ ps) [] = []
arguments_for (p ∷ ps) (x ∷ xs) = codes " " ++ (part_text p x ++ arguments_for ps xs)
