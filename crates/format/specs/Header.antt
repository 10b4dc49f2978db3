-- The header: its version, the table of its fields and the table of its extents.
use Rattle.std.specs.Prelude.{ℕ, ◌+◌, ◌-◌, Bool, ◌||◌, List, [], ◌∷◌, ◌==◌, nat_lt, slice_index_or, if◌then◌else◌}
use Rattle.buffers.specs.Words.{Width, two, four, word, word16, word32}
use Rattle.format.specs.declared.extents.Extent.{Extent}

-- V: the version, 16 bits at 0. As a signed number it is checked to lie in 1 to 32, and is then
-- this pattern
abbrev pub version : List ℕ → ℕ
version b = word16 b 0

-- a field: the level from which a file has it, its place, and its width
pub record FieldEntry : Type 0 where
  pub level : ℕ
  pub place : ℕ
  pub width : Width

abbrev pub field : ℕ → ℕ → Width → FieldEntry
field level place width = record { level = level; place = place; width = width }

-- fields 1 to 20, in order, with CODAR's names
abbrev pub fields : List FieldEntry
fields =
    field 1 2 four  -- 1 nDateTime
    ∷ field 2 10 two  -- 2 nCsKind
    ∷ field 3 16 four  -- 3 nSiteCodeName
    ∷ field 4 24 four  -- 4 nCoverMinutes
    ∷ field 4 28 four  -- 5 bDeletedSource
    ∷ field 4 32 four  -- 6 bOverrideSrcInfo
    ∷ field 4 36 four  -- 7 fStartFreqMHz
    ∷ field 4 40 four  -- 8 fRepFreqHz
    ∷ field 4 44 four  -- 9 fBandwidthKHz
    ∷ field 4 48 four  -- 10 bSweepUp
    ∷ field 4 52 four  -- 11 nDopplerCells
    ∷ field 4 56 four  -- 12 nRangeCells
    ∷ field 4 60 four  -- 13 nFirstRangeCell
    ∷ field 4 64 four  -- 14 fRangeCellDistKm
    ∷ field 5 72 four  -- 15 nOutputInterval
    ∷ field 5 76 four  -- 16 nCreateTypeCode
    ∷ field 5 80 four  -- 17 nCreatorVersion
    ∷ field 5 84 four  -- 18 nActiveChannels
    ∷ field 5 88 four  -- 19 nSpectraChannels
    ∷ field 5 92 four  -- 20 nActiveChanBits
    ∷ []

-- how many fields there are
abbrev pub field_count : ℕ
field_count = 20

-- the field of that number, counted from 1
abbrev pub the_field : ℕ → FieldEntry
the_field n = slice_index_or fields (n - 1) (field 0 0 four)

-- fields 2, 11, 12 and 19 steer the layout of the data
abbrev pub is_steering : ℕ → Bool
is_steering n = n == 2 || n == 11 || n == 12 || n == 19

-- the bits of a field, as an unsigned number
abbrev pub field_pattern : List ℕ → ℕ → ℕ
field_pattern b n = word (the_field n).width b (the_field n).place

-- an extent, a signed number of 32 bits: the level from which a file has it, which is its number,
-- and its place
abbrev pub extent : ℕ → ℕ → Extent
extent level place = record { level = level; place = place }

-- extents 1 to 5, in order
abbrev pub extents : List Extent
extents = extent 1 6 ∷ extent 2 12 ∷ extent 3 20 ∷ extent 4 68 ∷ extent 5 96 ∷ []

-- the extent of that number, counted from 1
abbrev pub the_extent : ℕ → Extent
the_extent i = slice_index_or extents (i - 1) (extent 0 0)

-- Ei: where an extent ends
abbrev pub extent_end : Extent → ℕ
extent_end e = e.place + 4

-- where the section of blocks begins, in the files that have one: behind its size, S, the last word
-- of their header
abbrev pub section_begin : ℕ
section_begin = 104

abbrev pub section_size_place : ℕ
section_size_place = 100

-- Ev: a header ends behind the extent of its version, and from version 6 on behind S
abbrev pub end_in : ℕ → List Extent → ℕ
end_in v [] = section_begin
end_in v (e ∷ es) = if nat_lt v (e.level + 1) then extent_end e else end_in v es

abbrev pub header_end : ℕ → ℕ
header_end v = end_in v extents

-- where an extent says that the data begin: that many bytes behind its own end. Extents are signed,
-- but judging refuses a negative one, so that this is asked only where the pattern is the value
abbrev pub start_by : List ℕ → Extent → ℕ
start_by b e = extent_end e + word32 b e.place

-- D: where the data begin, by extent 1
abbrev pub data_start : List ℕ → ℕ
data_start b = start_by b (the_extent 1)

-- S: the size of the section of blocks; a file below version 6 has none
abbrev pub section_size : List ℕ → ℕ → ℕ
section_size b v = if nat_lt v 6 then 0 else word32 b section_size_place
