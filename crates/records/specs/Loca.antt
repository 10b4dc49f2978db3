-- LOCA: where the receiver stands.
use Rattle.std.specs.Prelude.{ℕ, List, [], ◌∷◌, codes}
use Rattle.buffers.specs.Words.{eight}
use Rattle.kinds.specs.Kind.{KindSpec}
use Rattle.kinds.specs.Packed.{Part, plain, record_kind}
use Rattle.records.specs.declared.loca.Loca.{Loca}

-- its parts, in order, with CODAR's names: 24 bytes
abbrev pub loca_parts : List Part
loca_parts =
    plain eight  -- fLatitude
    ∷ plain eight  -- fLongitude
    ∷ plain eight  -- fAltitudeMeters
    ∷ []

-- its numbers, in the same order
abbrev pub loca_numbers : Loca → List ℕ
loca_numbers x = x.latitude ∷ x.longitude ∷ x.altitude ∷ []

abbrev pub loca_kind : KindSpec
loca_kind = record_kind (codes "LOCA") loca_parts
