-- The answers of a judged file to each question: what is asked first, and then what is answered.
use Rattle.std.specs.Prelude.{ℕ, zero, suc, ◌+◌, ◌-◌, ◌*◌, ◌/◌, ◌<◌, ◌≤◌, min, List, [], ◌∷◌, ◌++◌, map, length, take, drop, Ok, Err, Result}
use Rattle.std.specs.List.{range_with_len}
use Rattle.std.specs.Str.{bytes_eq}
use Rattle.buffers.specs.Words.{word32}
use Rattle.faults.specs.declared.fault.Fault.{Fault}
use Rattle.faults.specs.declared.refusal.Refusal.TheVariants.{Key}
use Rattle.faults.specs.Faults.{in_block}
use Rattle.format.specs.Checks.{unless, ◌then◌, ◌with◌, all_of}
use Rattle.format.specs.Header.{the_extent, section_begin, start_by, field_pattern}
use Rattle.format.specs.Rows.{row_span}
use Rattle.format.specs.Section.{key_at, size_at, data_at, block_end}
use Rattle.kinds.specs.declared.kind.Reading.{Reading}
use Rattle.kinds.specs.Kind.{KindSpec, Outcome, accepted, refused}
use Rattle.reader.specs.declared.blocks.Entry.{Entry}
use Rattle.reader.specs.Levels.{layout_of_file, level_known, blocks_seen, enough_room, field_conditions, row_conditions, block_conditions}

-- the bytes of a place and a length
abbrev pub part : List ℕ → ℕ × ℕ → List ℕ
part b p = take p.1 (drop p.0 b)

-- version: V, without a level
abbrev pub version_answer : List ℕ → Result ℕ Fault
version_answer b = layout_of_file b with λ l. Ok l.version

-- start: by the extent of the level, of the version or extent 5, whichever is the smallest
abbrev pub start_answer : List ℕ → ℕ → Result ℕ Fault
start_answer b level = layout_of_file b with λ l. level_known level then
    Ok (start_by b (the_extent (min (min level l.version) 5)))

-- field: the pattern of field n
abbrev pub field_answer : List ℕ → ℕ → ℕ → Result ℕ Fault
field_answer b level n = layout_of_file b with λ l.
    all_of (field_conditions l.version level n) then Ok (field_pattern b n)

-- row: its place and its length
abbrev pub row_answer : List ℕ → ℕ → ℕ → ℕ → Result (ℕ × ℕ) Fault
row_answer b level cell row = layout_of_file b with λ l.
    all_of (row_conditions l.version l.sizes level cell row) then Ok (row_span l cell row)

-- the bytes of a row
abbrev pub row_part : List ℕ → ℕ → ℕ → ℕ → Result (List ℕ) Fault
row_part b level cell row = row_answer b level cell row with λ p. Ok (part b p)

-- the patterns of bytes: each four of them as one 32-bit number
abbrev pub patterns : List ℕ → List ℕ
patterns b = map (λ i. word32 b (4 * i)) (range_with_len 0 (length b / 4))

-- numbers: as row, and then there must be room for the patterns of its bytes
abbrev pub numbers_answer : List ℕ → ℕ → ℕ → ℕ → ℕ → Result (Unit {0}) Fault
numbers_answer b level cell row room =
    row_answer b level cell row with λ p. enough_room (p.1 / 4) room

-- a list or table of which the first places are filled anew, and the rest is as before
abbrev pub filled_list : {X : Type 0} → List X → List X → List X
filled_list new old = new ++ drop (length new) old

-- the list after `numbers`: its first places have the patterns of the row's bytes; refused, it is
-- as before
abbrev pub list_after : List ℕ → Result (List ℕ) Fault → Result (Unit {0}) Fault → List ℕ
list_after old (Ok row) (Ok done) = filled_list (patterns row) old
list_after old (Ok row) (Err f) = old
list_after old (Err f) done = old

abbrev pub numbers_list : List ℕ → ℕ → ℕ → ℕ → List ℕ → List ℕ
numbers_list b level cell row old =
    list_after old (row_part b level cell row) (numbers_answer b level cell row (length old))

-- where n blocks end that stand one behind the other from a place on
abbrev pub place_after : List ℕ → ℕ → ℕ → ℕ
place_after b at zero = at
place_after b at (suc n) = block_end b (place_after b at n)

-- where a block begins that has n others before it
abbrev pub block_place : List ℕ → ℕ → ℕ
block_place b n = place_after b section_begin n

-- n blocks that stand one behind the other from a place on end within the bytes
abbrev pub IsBlocksInside : List ℕ → ℕ → ℕ → Type 0
IsBlocksInside b at n = (k : ℕ) → k < n → block_end b (place_after b at k) ≤ length b

-- what a block's head says: its key, where it begins, and the size of its data
abbrev pub entry_at : List ℕ → ℕ → Entry
entry_at b at = record { key = word32 b at; place = at; size = size_at b at }

-- block: the entry of block k
abbrev pub block_answer : List ℕ → ℕ → ℕ → Result Entry Fault
block_answer b level k =
    layout_of_file b with λ l.
    all_of (level_known level ∷ blocks_seen level
    ∷ block_conditions l.version l.blocks k) then Ok (entry_at b (block_place b (k - 1)))

-- table: the count of blocks, for which there must be room
abbrev pub table_answer : List ℕ → ℕ → Result ℕ Fault
table_answer b room = layout_of_file b with λ l. enough_room l.blocks room then Ok l.blocks

-- the entries of n blocks that stand one behind the other from a place on
abbrev pub entries_from : List ℕ → ℕ → ℕ → List Entry
entries_from b at zero = []
entries_from b at (suc n) = entry_at b at ∷ entries_from b (block_end b at) n

-- the entries of the first n blocks
abbrev pub entries : List ℕ → ℕ → List Entry
entries b n = map (λ i. entry_at b (block_place b i)) (range_with_len 0 n)

-- blocks: the entries of all blocks
abbrev pub blocks_answer : List ℕ → Result (List Entry) Fault
blocks_answer b = layout_of_file b with λ l. Ok (entries b l.blocks)

-- the table after `table`: its first places have the entries of all blocks; refused, it is as
-- before
abbrev pub table_after : List ℕ → List Entry → Result ℕ Fault → List Entry
table_after b old (Ok n) = filled_list (entries b n) old
table_after b old (Err f) = old

abbrev pub table_list : List ℕ → List Entry → List Entry
table_list b old = table_after b old (table_answer b (length old))

-- what looking shows: the numbers of a record, the place and the length of a text in the file, and
-- the count of bytes used
pub record Sight : Type 0 where
  pub numbers : List ℕ
  pub text : ℕ
  pub size : ℕ
  pub used : ℕ

-- what a kind says of the data of the block k, which begin at a place
abbrev pub outcome_sight : ℕ → ℕ → Outcome → Result Sight Fault
outcome_sight k place (accepted ns at n u) =
    Ok (record { numbers = ns; text = place + at; size = n; used = u })
outcome_sight k place (refused r at) = Err (in_block r k (place + at))

-- the block k, which begins at a place, read as a kind: 12 for another key, and then what the kind
-- says
abbrev pub block_sight : KindSpec → List ℕ → ℕ → ℕ → Result Sight Fault
block_sight kind b k at =
    unless (bytes_eq (key_at b at) kind.key) (in_block Key k at) then
    outcome_sight k (at + 8) (kind.reads (data_at b at))

-- look: block k as a kind
abbrev pub look_answer : KindSpec → List ℕ → ℕ → Result Sight Fault
look_answer kind b k =
    layout_of_file b with λ l. all_of (block_conditions l.version l.blocks k) then
    block_sight kind b k (block_place b (k - 1))

-- a result of looking, with the numbers of its record
abbrev pub reading_sight : {R : Type 0} → (R → List ℕ) → Result (Reading R) Fault
    → Result Sight Fault
reading_sight numbers (Ok v) =
    Ok (record { numbers = numbers v.record; text = v.text; size = v.length; used = v.used })
reading_sight numbers (Err f) = Err f

-- the bytes of a block's text
abbrev pub text_part : KindSpec → List ℕ → ℕ → Result (List ℕ) Fault
text_part kind b k = look_answer kind b k with λ s. Ok (part b (s.text, s.size))
