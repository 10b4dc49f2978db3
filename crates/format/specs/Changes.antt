-- How the writing of a content changes with the content: each change as an equation with parts of
-- the old writing.
use Rattle.std.specs.Prelude.{◌≡◌, ℕ, ◌+◌, ◌-◌, ◌≤◌, List, [], ◌∷◌, ◌++◌, length, take, drop, nat_lt, slice_set, if◌then◌else◌}
use Rattle.buffers.specs.Moves.{written}
use Rattle.buffers.specs.Words.{word32, be, be32}
use Rattle.format.specs.declared.extents.Extent.{Extent}
use Rattle.format.specs.Content.{Block, Content, block_bytes, section, start, header, write, field_in, IsSound}
use Rattle.format.specs.Header.{the_field, version, field_pattern, extents, the_extent, extent_end, section_size_place, header_end}

-- c with other blocks
abbrev pub with_blocks : Content → List Block → Content
with_blocks c ks = record c { blocks = ks }

-- c with one block more behind the last
abbrev pub with_last : Content → Block → Content
with_last c b = with_blocks c (c.blocks ++ (b ∷ []))

-- c with the value x in its field n, counted from 1
abbrev pub with_field : Content → ℕ → ℕ → Content
with_field c n x = record c { fields = slice_set c.fields (n - 1) x }

-- c with other cells
abbrev pub with_cells : Content → List ℕ → Content
with_cells c cells = record c { cells = cells }

-- the cells and tail of c under another version and fields, with neither blocks nor gap
abbrev pub with_header : Content → ℕ → List ℕ → Content
with_header c v fs =
    record {
      version = v;
      fields = fs;
      blocks = [];
      gap = [];
      cells = c.cells;
      tail = c.tail;
    }

-- an extent that leads to data that begin at d, where version v has it; and those of a list
abbrev pub with_extent : List ℕ → ℕ → ℕ → Extent → List ℕ
with_extent b v d e = if nat_lt v e.level then b else written b e.place (be32 (d - extent_end e))

abbrev pub with_extents_from : List ℕ → ℕ → ℕ → List Extent → List ℕ
with_extents_from b v d [] = b
with_extents_from b v d (e ∷ es) = with_extents_from (with_extent b v d e) v d es

-- a header of version 6 or above with the extents of data that begin at d, and with the section's
-- size s
abbrev pub settled_header : List ℕ → ℕ → ℕ → List ℕ
settled_header b d s = written (with_extents_from b 6 d extents) section_size_place (be32 s)

-- where the words of a header stand in the writing
pub record HeaderWords (c : Content) : Type 0 where
  pub version_at : version (write c) ≡ c.version
  pub field_at : (n : ℕ) → 1 ≤ n → n ≤ length c.fields
      → field_pattern (write c) n ≡ field_in c.fields n
  pub extent_at : (i : ℕ) → 1 ≤ i → i ≤ 5 → i ≤ c.version
      → word32 (write c) (the_extent i).place ≡ start c - extent_end (the_extent i)
  pub section_at : 6 ≤ c.version → word32 (write c) section_size_place ≡ length (section c.blocks)
  pub header_ends : length (header c) ≡ header_end c.version

-- blocks ns in the place of the blocks ks, which stand between xs and ys: what stood before and
-- behind them stays. With one block or none for ks and for ns, this is a block changed, removed or
-- put in
abbrev pub BlocksChange : Content → Type 0
BlocksChange c =
    (xs ks ys ns : List Block) → c.blocks ≡ xs ++ (ks ++ ys) → (d : Content)
    → d ≡ with_blocks c (xs ++ (ns ++ ys))
    → write d ≡ header d ++ (take (length (section xs)) (drop (header_end c.version) (write c))
    ++ (section ns
    ++ drop (header_end c.version + length (section xs) + length (section ks)) (write c)))

-- one block more behind the last
abbrev pub BlockAdded : Content → Type 0
BlockAdded c =
    (k : Block) (d : Content) → d ≡ with_last c k
    → write d
    ≡ header d ++ (take (length (section c.blocks)) (drop (header_end c.version) (write c))
    ++ (block_bytes k ++ drop (header_end c.version + length (section c.blocks)) (write c)))

-- from version 6 on, the header of a content with other blocks differs in the extents and in the
-- section's size alone
abbrev pub HeaderChange : Content → Type 0
HeaderChange c = (ks : List Block) → 6 ≤ c.version → header (with_blocks c ks)
    ≡ settled_header (header c) (start (with_blocks c ks)) (length (section ks))

-- a field that is set is written at its place, and nothing else changes
abbrev pub FieldChange : Content → Type 0
FieldChange c =
    (n x : ℕ) → 1 ≤ n → n ≤ length c.fields
    → write (with_field c n x) ≡ written (write c) (the_field n).place (be (the_field n).width x)

-- bytes that are put into the cells, as a row is, are written behind the start of the data, and
-- nothing else changes
abbrev pub CellsChange : Content → Type 0
CellsChange c =
    (at : ℕ) (row : List ℕ) → at + length row ≤ length c.cells
    → write (with_cells c (written c.cells at row)) ≡ written (write c) (start c + at) row

-- a content without blocks and gap under another version: another header, and then what stood
-- behind the old one
abbrev pub VersionChange : Content → Type 0
VersionChange c =
    (v : ℕ) (fs : List ℕ) → c.blocks ≡ [] → c.gap ≡ []
    → write (with_header c v fs)
    ≡ header (with_header c v fs) ++ drop (header_end c.version) (write c)

-- what holds of the writing of every sound content
pub record Changes (c : Content) : Type 0 where
  pub header_words : HeaderWords c
  pub blocks_change : BlocksChange c
  pub block_added : BlockAdded c
  pub header_change : HeaderChange c
  pub field_change : FieldChange c
  pub cells_change : CellsChange c
  pub version_change : VersionChange c

abbrev pub WritingChanges : Type 0
WritingChanges = (c : Content) → IsSound c → Changes c
