-- FWIN: the windows of the range and Doppler transforms.
use Rattle.std.specs.Prelude.{ℕ, List, [], ◌∷◌, codes}
use Rattle.buffers.specs.Words.{one, eight}
use Rattle.kinds.specs.Kind.{KindSpec}
use Rattle.kinds.specs.Packed.{Part, plain, record_kind}
use Rattle.records.specs.declared.fwin.Fwin.{Fwin}

-- its parts, in order, with CODAR's names: 18 bytes
abbrev pub fwin_parts : List Part
fwin_parts =
    plain one  -- nRangeWindowType
    ∷ plain one  -- nDopplerWindowType
    ∷ plain eight  -- fRangeWindowParam
    ∷ plain eight  -- fDopplerWindowParam
    ∷ []

-- its numbers, in the same order
abbrev pub fwin_numbers : Fwin → List ℕ
fwin_numbers x = x.range ∷ x.doppler ∷ x.range_parameter ∷ x.doppler_parameter ∷ []

abbrev pub fwin_kind : KindSpec
fwin_kind = record_kind (codes "FWIN") fwin_parts
