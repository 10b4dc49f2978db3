-- What holds of every accepted file b with the layout l, whichever level reads it.
use Rattle.std.specs.Prelude.{◌≡◌, ℕ, ◌+◌, ◌-◌, ◌*◌, ◌/◌, ◌<◌, ◌≤◌, ◌⊎◌, List, length, Some, Ok, ◌≢◌, slice_index, slice_index_or}
use Rattle.std.specs.List.{slice_get}
use Rattle.buffers.specs.Words.{word32}
use Rattle.format.specs.declared.judging.Layout.{Layout}
use Rattle.format.specs.Content.{Block, Content, section, start, field_in, content_sizes, write, IsSound, content}
use Rattle.format.specs.Header.{the_field, field_count, version, field_pattern, section_begin, data_start, header_end}
use Rattle.format.specs.Rows.{cells_size, row_in}
use Rattle.format.specs.Section.{key_at, data_at, block_end}
use Rattle.format.specs.Sizes.{most_ranges, most_bins}
use Rattle.reader.specs.declared.blocks.Entry.{Entry}
use Rattle.reader.specs.Answers.{part, patterns, filled_list, block_place, start_answer, field_answer, row_answer, numbers_answer, numbers_list, block_answer, table_answer, table_list}
use Rattle.reader.specs.Levels.{layout_of_file}

-- the parts of the file lie in its bytes
pub record IsPlaced (b : List ℕ) (l : Layout) : Type 0 where
  pub version_is : l.version ≡ version b
  pub version_from : 1 ≤ l.version
  pub start_is : l.start ≡ data_start b
  pub bins_from : 1 ≤ l.sizes.bins
  pub bins_to : l.sizes.bins ≤ most_bins
  pub ranges_from : 1 ≤ l.sizes.ranges
  pub ranges_to : l.sizes.ranges ≤ most_ranges
  pub cells_inside : l.start + cells_size l.sizes ≤ length b
  pub behind : header_end l.version + l.section ≤ l.start
  pub blocks_inside : (k : ℕ) → k < l.blocks → block_end b (block_place b k) ≤ l.start

-- all six levels find the data at one byte
abbrev pub OneStart : List ℕ → Layout → Type 0
OneStart b l = (level : ℕ) → 1 ≤ level → level ≤ 6 → start_answer b level ≡ Ok l.start

-- a level that answers a field answers what every other level answers
abbrev pub FieldsAgree : List ℕ → Type 0
FieldsAgree b = (n i j x y : ℕ) → field_answer b i n ≡ Ok x → field_answer b j n ≡ Ok y → x ≡ y

-- and so does one that answers a row
abbrev pub RowsAgree : List ℕ → Type 0
RowsAgree b = (cell row i j : ℕ) (p q : ℕ × ℕ) → row_answer b i cell row ≡ Ok p
    → row_answer b j cell row ≡ Ok q → p ≡ q

-- every row lies behind header and section, and inside the file
abbrev pub RowsInside : List ℕ → Layout → Type 0
RowsInside b l =
    (level cell row : ℕ) (p : ℕ × ℕ) → row_answer b level cell row ≡ Ok p
    → (header_end l.version + l.section ≤ p.0) × (p.0 + p.1 ≤ length b)

-- two stretches of a file, each a place and a length, have no byte in common
abbrev pub IsApart : ℕ × ℕ → ℕ × ℕ → Type 0
IsApart p q = (p.0 + p.1 ≤ q.0) ⊎ (q.0 + q.1 ≤ p.0)

-- no two rows overlap, of one cell or of two, whichever levels ask for them
abbrev pub IsRowsApart : List ℕ → Type 0
IsRowsApart b =
    (i cell row j other-cell other_row : ℕ) (p q : ℕ × ℕ) → row_answer b i cell row ≡ Ok p
    → row_answer b j other-cell other_row ≡ Ok q
    → (cell ≡ other-cell → row ≢ other_row) → IsApart p q

-- the numbers of a row are the patterns of the bytes that `row` names: number i, from 0, is the
-- word at its place in the file
pub record RowNumbers (b list : List ℕ) (p : ℕ × ℕ) (old : List ℕ) : Type 0 where
  pub whole : list ≡ filled_list (patterns (part b p)) old
  pub each : (i : ℕ) → i < p.1 / 4 → slice_index list i ≡ word32 b (p.0 + 4 * i)

abbrev pub NumbersOfRows : List ℕ → Type 0
NumbersOfRows b =
    (level cell row : ℕ) (p : ℕ × ℕ) (old : List ℕ) → row_answer b level cell row ≡ Ok p
    → numbers_answer b level cell row (length old) ≡ Ok tt
    → RowNumbers b (numbers_list b level cell row old) p old

-- the blocks fill the section: they follow each other from its begin to its end
pub record BlocksFill (b : List ℕ) (l : Layout) : Type 0 where
  pub each : 6 ≤ l.version → (k : ℕ) → 1 ≤ k → k ≤ l.blocks
      → (e : Entry) × (block_answer b 6 k ≡ Ok e)
  pub first : (e : Entry) → block_answer b 6 1 ≡ Ok e → e.place ≡ section_begin
  pub next : (k : ℕ) (e f : Entry) → block_answer b 6 k ≡ Ok e → block_answer b 6 (k + 1) ≡ Ok f
      → f.place ≡ e.place + 8 + e.size
  pub last : (e : Entry) → block_answer b 6 l.blocks ≡ Ok e
      → e.place + 8 + e.size ≡ section_begin + l.section
  pub none : 6 ≤ l.version → l.blocks ≡ 0 → l.section ≡ 0

-- what `table` lists is what `block` answers one by one
abbrev pub TableOfBlocks : List ℕ → Layout → Type 0
TableOfBlocks b l =
    (old : List Entry) → l.blocks ≤ length old
    → (table_answer b (length old) ≡ Ok l.blocks)
    × ((k : ℕ) (d : Entry) → 1 ≤ k → k ≤ l.blocks
    → block_answer b 6 k ≡ Ok (slice_index_or (table_list b old) (k - 1) d))

-- the file is the writing of its content, which is sound, and what is read is what the content
-- says: the header's words are its version and fields, the bytes of a row are those of its cells,
-- and a block's key and data those of its block of the same number
pub record ContentRead (b : List ℕ) (l : Layout) (c : Content) : Type 0 where
  pub sound : IsSound c
  pub written : write c ≡ b
  pub version_is : l.version ≡ c.version
  pub start_is : l.start ≡ start c
  pub sizes_are : l.sizes ≡ content_sizes c
  pub section_is : l.section ≡ length (section c.blocks)
  pub blocks_are : l.blocks ≡ length c.blocks
  pub fields : (n : ℕ) → 1 ≤ n → n ≤ field_count → (the_field n).level ≤ c.version
      → (n ≤ length c.fields) × (field_pattern b n ≡ field_in c.fields n)
  pub rows : (cell row : ℕ) (p : ℕ × ℕ) → row_answer b 6 cell row ≡ Ok p
      → part b p ≡ part c.cells (row_in l.sizes cell row)
  pub blocks : (k : ℕ) (x : Block) → slice_get c.blocks k ≡ Some x
      → (key_at b (block_place b k) ≡ x.key) × (data_at b (block_place b k) ≡ x.body)

-- at every file
pub record ReadFile (b : List ℕ) : Type 0 where
  pub each : (l : Layout) → layout_of_file b ≡ Ok l → ContentRead b l (content b)

-- the readers of all levels agree
pub record ReadersAgree (b : List ℕ) (l : Layout) : Type 0 where
  pub one_start : OneStart b l
  pub fields_agree : FieldsAgree b
  pub rows_agree : RowsAgree b
  pub rows_inside : RowsInside b l
  pub rows_apart : IsRowsApart b
  pub numbers_of_rows : NumbersOfRows b
  pub blocks_fill : BlocksFill b l
  pub table_of_blocks : TableOfBlocks b l

-- at every file
abbrev pub AgreedFile : List ℕ → Type 0
AgreedFile b = (l : Layout) → layout_of_file b ≡ Ok l → ReadersAgree b l
