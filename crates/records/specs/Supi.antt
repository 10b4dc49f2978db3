-- SUPI: what was done to suppress stripes.
use Rattle.std.specs.Prelude.{ℕ, List, [], ◌∷◌, codes, FitsSigned}
use Rattle.std.specs.Int.{w16}
use Rattle.std.proofs.Common.{of_z}
use Rattle.buffers.specs.Words.{one, four, eight}
use Rattle.kinds.specs.Kind.{KindSpec}
use Rattle.kinds.specs.Packed.{Part, plain, signed, record_kind}
use Rattle.records.specs.declared.supi.Supi.{Supi}

-- its parts, in order, with CODAR's names: 28 bytes
abbrev pub supi_parts : List Part
supi_parts =
    plain one  -- nMethod
    ∷ plain one  -- nVersion
    ∷ plain one  -- nMode
    ∷ plain one  -- nDebugMode
    ∷ plain four  -- nDopplerSuppressed
    ∷ plain eight  -- fPowerThreshold
    ∷ plain eight  -- fRangeBinThreshold
    ∷ signed  -- nRangeBanding
    ∷ signed  -- nDopplerDetectionSmoothing
    ∷ []

-- its numbers, in the same order; a signed one as its bit pattern
abbrev pub supi_numbers : Supi → List ℕ
supi_numbers x =
    x.method ∷ x.version ∷ x.mode ∷ x.debug_mode ∷ x.cells
    ∷ x.power ∷ x.range_bin ∷ of_z w16 x.banding ∷ of_z w16 x.smoothing ∷ []

-- its signed numbers fit 16 bits
abbrev pub IsSupi : Supi → Type 0
IsSupi x = FitsSigned w16 x.banding × FitsSigned w16 x.smoothing

abbrev pub supi_kind : KindSpec
supi_kind = record_kind (codes "SUPI") supi_parts
