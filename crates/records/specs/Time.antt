-- TIME: a time stamp, finer than that of the header.
use Rattle.std.specs.Prelude.{ℕ, List, [], ◌∷◌, codes}
use Rattle.buffers.specs.Words.{one, two, eight}
use Rattle.kinds.specs.Kind.{KindSpec}
use Rattle.kinds.specs.Packed.{Part, plain, record_kind}
use Rattle.records.specs.declared.time.Time.{Time}

-- its parts, in order, with CODAR's names: 31 bytes
abbrev pub time_parts : List Part
time_parts =
    plain one  -- nTimeMark
    ∷ plain two  -- nYear
    ∷ plain one  -- nMonth
    ∷ plain one  -- nDay
    ∷ plain one  -- nHour
    ∷ plain one  -- nMinute
    ∷ plain eight  -- fSeconds
    ∷ plain eight  -- fCoverageSeconds
    ∷ plain eight  -- fHoursFromUTC
    ∷ []

-- its numbers, in the same order
abbrev pub time_numbers : Time → List ℕ
time_numbers x =
    x.mark ∷ x.year ∷ x.month ∷ x.day ∷ x.hour
    ∷ x.minute ∷ x.seconds ∷ x.coverage ∷ x.utc ∷ []

abbrev pub time_kind : KindSpec
time_kind = record_kind (codes "TIME") time_parts
