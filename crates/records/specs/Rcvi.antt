-- RCVI: the description of the receiver.
use Rattle.std.specs.Prelude.{ℕ, List, [], ◌∷◌, codes}
use Rattle.buffers.specs.Words.{four, eight}
use Rattle.kinds.specs.Field.{field_kind}
use Rattle.kinds.specs.Kind.{KindSpec}
use Rattle.kinds.specs.Packed.{Part, plain}
use Rattle.records.specs.declared.rcvi.Rcvi.{Rcvi}

-- the parts before the text, in order, with CODAR's names: 16 bytes
abbrev pub rcvi_parts : List Part
rcvi_parts =
    plain four  -- nReceiverModel
    ∷ plain four  -- nRxAntennaModel
    ∷ plain eight  -- fReferenceGainDB
    ∷ []

-- its numbers, in the same order
abbrev pub rcvi_numbers : Rcvi → List ℕ
rcvi_numbers x = x.receiver ∷ x.antenna ∷ x.gain ∷ []

-- the most bytes of the text, CODAR's szFirmware, which stands in the 32 bytes after the numbers:
-- 48 bytes in all
abbrev pub rcvi_most : ℕ
rcvi_most = 31

abbrev pub rcvi_kind : KindSpec
rcvi_kind = field_kind (codes "RCVI") rcvi_parts rcvi_most
