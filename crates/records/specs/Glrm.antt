-- GLRM: what was done to remove glitches.
use Rattle.std.specs.Prelude.{ℕ, List, [], ◌∷◌, codes}
use Rattle.buffers.specs.Words.{one, four, eight}
use Rattle.kinds.specs.Kind.{KindSpec}
use Rattle.kinds.specs.Packed.{Part, plain, record_kind}
use Rattle.records.specs.declared.glrm.Glrm.{Glrm}

-- its parts, in order, with CODAR's names: 39 bytes
abbrev pub glrm_parts : List Part
glrm_parts =
    plain one  -- nMethod
    ∷ plain one  -- nVersion
    ∷ plain four  -- nPointsRemoved
    ∷ plain four  -- nTimesRemoved
    ∷ plain four  -- nSegmentsRemoved
    ∷ plain eight  -- fPointPowerThreshold
    ∷ plain eight  -- fRangePowerThreshold
    ∷ plain eight  -- fRangeBinThreshold
    ∷ plain one  -- bRemoveDC
    ∷ []

-- its numbers, in the same order
abbrev pub glrm_numbers : Glrm → List ℕ
glrm_numbers x =
    x.method ∷ x.version ∷ x.points ∷ x.times ∷ x.segments
    ∷ x.point_power ∷ x.range_power ∷ x.range_bin ∷ x.remove_dc ∷ []

abbrev pub glrm_kind : KindSpec
glrm_kind = record_kind (codes "GLRM") glrm_parts
