-- The content of a file, and the bytes that a content is written as.
use Rattle.std.specs.Prelude.{◌≡◌, ℕ, zero, suc, ◌+◌, ◌-◌, ◌^◌, ◌<◌, ◌≤◌, cond, List, [], ◌∷◌, ◌++◌, length, take, drop, ◌==◌, ◌≢◌, nat_le, nat_lt, slice_index, if◌then◌else◌}
use Rattle.std.specs.List.{AllByRecursion}
use Rattle.buffers.specs.Words.{Width, two, four, size, limit, word, be, be32, Bytes}
use Rattle.format.specs.declared.extents.Extent.{Extent}
use Rattle.format.specs.declared.sizes.Sizes.{Sizes}
use Rattle.format.specs.Header.{FieldEntry, fields, version, extents, the_extent, extent_end, header_end, data_start, section_size}
use Rattle.format.specs.Rows.{cells_size}
use Rattle.format.specs.Section.{data_at, block_end}
use Rattle.format.specs.Sizes.{most_ranges, most_bins, sizes_in}

-- a block: a key of four bytes, and its data
pub record Block : Type 0 where
  pub key : List ℕ
  pub body : List ℕ

-- a block with that key and those data
abbrev pub block : List ℕ → List ℕ → Block
block key body = record { key = key; body = body }

-- a content: the version, the fields that it has in order, the blocks in order, the gap before the
-- cells, the cells, and the tail behind them
pub record Content : Type 0 where
  pub version : ℕ
  pub fields : List ℕ
  pub blocks : List Block
  pub gap : List ℕ
  pub cells : List ℕ
  pub tail : List ℕ

-- a word of the header: the next field, or one that follows from the rest of the content
pub data Slot : Type 0 where
  own : Width → Slot
  follows : Width → ℕ → Slot

-- the fields of a level, in the order of the table
abbrev pub fields_at : ℕ → List FieldEntry → List Slot
fields_at i [] = []
fields_at i (f ∷ fs) = if f.level == i then own f.width ∷ fields_at i fs else fields_at i fs

-- a level's fields, its extent, and then the levels above
abbrev pub level : ℕ → ℕ → List Slot → List Slot
level i extent above = fields_at i fields ++ (follows four extent ∷ above)

-- the levels from i on, where the version has them
abbrev pub from_level : ℕ → ℕ → List Slot → List Slot
from_level i v above = if nat_lt v i then [] else above

-- the header of a file of version v whose data begin at d, and whose section has s bytes, from a
-- list of extents on: level by level, each where the version has it. An extent is the way from its
-- end to d; level 6 has S alone
abbrev pub slots_from : ℕ → ℕ → ℕ → List Extent → List Slot
slots_from v d s [] = follows four s ∷ []
slots_from v d s (e ∷ es) =
    level e.level (d - extent_end e) (from_level (e.level + 1) v (slots_from v d s es))

-- the whole header
abbrev pub slots : ℕ → ℕ → ℕ → List Slot
slots v d s = follows two v ∷ slots_from v d s extents

-- the bytes of a header with those fields
abbrev pub pack : List Slot → List ℕ → List ℕ
pack [] fs = []
pack (own w ∷ ss) [] = []
pack (own w ∷ ss) (f ∷ fs) = be w f ++ pack ss fs
pack (follows w x ∷ ss) fs = be w x ++ pack ss fs

-- the fields in a header's bytes, from `at` on
abbrev pub unpack : List Slot → List ℕ → ℕ → List ℕ
unpack [] b at = []
unpack (own w ∷ ss) b at = word w b at ∷ unpack ss b (at + size w)
unpack (follows w x ∷ ss) b at = unpack ss b (at + size w)

-- a value for each field, within its width
abbrev pub IsFitting : List Slot → List ℕ → Type 0
IsFitting [] [] = Unit {0}
IsFitting [] (f ∷ fs) = ⊥
IsFitting (own w ∷ ss) [] = ⊥
IsFitting (own w ∷ ss) (f ∷ fs) = (f < limit w) × IsFitting ss fs
IsFitting (follows w x ∷ ss) fs = IsFitting ss fs

-- the bytes of a block: its key, the size of its data, its data
abbrev pub block_bytes : Block → List ℕ
block_bytes k = k.key ++ (be32 (length k.body) ++ k.body)

-- blocks, one behind the other
abbrev pub section : List Block → List ℕ
section [] = []
section (k ∷ ks) = block_bytes k ++ section ks

-- where the data of a content begin: behind header, blocks and gap
abbrev pub start : Content → ℕ
start c = header_end c.version + length (section c.blocks) + length c.gap

abbrev pub header_slots : Content → List Slot
header_slots c = slots c.version (start c) (length (section c.blocks))

abbrev pub header : Content → List ℕ
header c = pack (header_slots c) c.fields

-- the bytes that a content is written as
abbrev pub write : Content → List ℕ
write c = header c ++ (section c.blocks ++ (c.gap ++ (c.cells ++ c.tail)))

-- the field of that number, counted from 1
abbrev pub field_in : List ℕ → ℕ → ℕ
field_in fs n = slice_index fs (n - 1)

-- the sizes that a content's fields give
abbrev pub content_sizes : Content → Sizes
content_sizes c = sizes_in c.version (field_in c.fields)

-- a block that can be written: four bytes of key, and data whose size fits 32 bits
pub record IsWritable (k : Block) : Type 0 where
  pub key_size : length k.key ≡ 4
  pub key_bytes : Bytes k.key
  pub body_size : length k.body < 2 ^ 32
  pub body_bytes : Bytes k.body

-- what the rules ask of a content
pub record IsSound (c : Content) : Type 0 where
  -- the version is one of 1 to 32
  pub version_from : 1 ≤ c.version
  pub version_to : c.version ≤ 32
  -- there is a value for each field that the version has, within its width
  pub fields_fit : IsFitting (header_slots c) c.fields
  -- extent 1, a signed 32-bit number, reaches the data
  pub reach : start c - extent_end (the_extent 1) < 2 ^ 31
  -- bins, cells and channels are in range
  pub bins_from : 1 ≤ (content_sizes c).bins
  pub bins_to : (content_sizes c).bins ≤ most_bins
  pub ranges_from : 1 ≤ (content_sizes c).ranges
  pub ranges_to : (content_sizes c).ranges ≤ most_ranges
  pub channels : (content_sizes c).channels ≡ 3
  -- every block can be written, and there is none below version 6
  pub blocks_fit : AllByRecursion IsWritable c.blocks
  pub blocks_from_six : c.version < 6 → c.blocks ≡ []
  -- gap, cells and tail are bytes, and the cells have the size that the fields give
  pub gap_bytes : Bytes c.gap
  pub cells_bytes : Bytes c.cells
  pub tail_bytes : Bytes c.tail
  pub cells_whole : length c.cells ≡ cells_size (content_sizes c)

-- the blocks of b from `at` up to `end`; each takes at least 8 bytes, so that as many steps as
-- there are bytes suffice
abbrev pub blocks_at : List ℕ → ℕ → ℕ → ℕ → List Block
blocks_at b end zero at = []
blocks_at b end (suc steps) at =
    cond (nat_le end at) []
    (block (take 4 (drop at b)) (data_at b at) ∷ blocks_at b end steps (block_end b at))

-- where the section ends, or the header where there is none
abbrev pub section_end : List ℕ → ℕ → ℕ
section_end b v = header_end v + section_size b v

-- the fields of a file of version v; what the other words say is of no matter here
abbrev pub fields_of : List ℕ → ℕ → List ℕ
fields_of b v = unpack (slots v 0 0) b 0

-- what is read from a file of version v
abbrev pub content_at : List ℕ → ℕ → Content
content_at b v =
    record {
      version = v;
      fields = fields_of b v;
      blocks = blocks_at b (section_end b v) (section_size b v) (header_end v);
      gap = take (data_start b - section_end b v) (drop (section_end b v) b);
      cells = take (cells_size (sizes_in v (field_in (fields_of b v)))) (drop (data_start b) b);
      tail = drop (data_start b + cells_size (sizes_in v (field_in (fields_of b v)))) b;
    }

-- the content that is read from a file
abbrev pub content : List ℕ → Content
content b = content_at b (version b)

-- b is the writing of the sound content c, and of no other
pub record IsOnlyWriting (b : List ℕ) (c : Content) : Type 0 where
  pub sound : IsSound c
  pub written : write c ≡ b
  pub only : (d : Content) → IsSound d → write d ≡ b → d ≡ c

-- b is the writing of no sound content
abbrev pub IsUnwritten : List ℕ → Type 0
IsUnwritten b = (c : Content) → IsSound c → write c ≢ b
