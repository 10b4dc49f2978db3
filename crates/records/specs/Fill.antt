-- FILL: how range cells and Doppler bins were filled in.
use Rattle.std.specs.Prelude.{ℕ, List, [], ◌∷◌, codes}
use Rattle.buffers.specs.Words.{one}
use Rattle.kinds.specs.Kind.{KindSpec}
use Rattle.kinds.specs.Packed.{Part, plain, record_kind}
use Rattle.records.specs.declared.fill.Fill.{Fill}

-- its parts, in order, with CODAR's names: 4 bytes
abbrev pub fill_parts : List Part
fill_parts =
    plain one  -- nRangeMethod
    ∷ plain one  -- nRangeMult
    ∷ plain one  -- nDopplerMethod
    ∷ plain one  -- nDopplerMult
    ∷ []

-- its numbers, in the same order
abbrev pub fill_numbers : Fill → List ℕ
fill_numbers x = x.range_method ∷ x.range_multiple ∷ x.doppler_method ∷ x.doppler_multiple ∷ []

abbrev pub fill_kind : KindSpec
fill_kind = record_kind (codes "FILL") fill_parts
