-- Reading at a level: the conditions of the questions. A level is what a reader knows of the
-- format; a question is refused by the first of its conditions that fails, and all these refusals
-- are of the call.
use Rattle.std.specs.Prelude.{ℕ, min, cond, ◌&&◌, List, [], ◌∷◌, Some, None, Ok, Err, Option, Result, nat_le}
use Rattle.faults.specs.declared.fault.Fault.{Fault}
use Rattle.faults.specs.declared.refusal.Refusal.TheVariants.{NoFile, Level, LevelTooLow, VersionLacksIt, NoSuchCellOrRow, NoSuchBlock, LayoutUnknown, ListOrTableTooShort}
use Rattle.faults.specs.Faults.{fault}
use Rattle.format.specs.declared.judging.Layout.{Layout}
use Rattle.format.specs.declared.sizes.Sizes.{Sizes}
use Rattle.format.specs.Checks.{Check, unless}
use Rattle.format.specs.Conditions.{field_known}
use Rattle.format.specs.Header.{the_field}
use Rattle.format.specs.Judging.{judged}
use Rattle.format.specs.Rows.{is_row}

-- the layout that judging answers, if it accepts
abbrev pub accepted_layout : Result Layout Fault → Option Layout
accepted_layout (Ok l) = Some l
accepted_layout (Err f) = None

-- the layout of a file; bytes that judging refuses are no file
unfoldable pub file_layout : List ℕ → Option Layout
file_layout b = accepted_layout (judged b)

-- every question asks for the layout first, and is refused by 31 where there is no file
abbrev pub or_no_file : Option Layout → Result Layout Fault
or_no_file (Some l) = Ok l
or_no_file None = Err (fault NoFile 0)

unfoldable pub layout_of_file : List ℕ → Result Layout Fault
layout_of_file b = or_no_file (file_layout b)

-- the numbers of a layout, which tell it from every other
abbrev pub layout_numbers : Option Layout → List ℕ
layout_numbers (Some l) =
    l.version ∷ l.start ∷ l.sizes.ranges ∷ l.sizes.bins ∷ l.sizes.channels ∷ l.sizes.first
    ∷ cond l.sizes.quality 1 0
    ∷ l.section ∷ l.blocks ∷ []
layout_numbers None = []

-- a level is one of 1 to 6
abbrev pub level_known : ℕ → Check
level_known level = unless (nat_le 1 level && nat_le level 6) (fault Level 0)

-- a level sees the fields of its own and of the levels below
abbrev pub field_seen : ℕ → ℕ → Check
field_seen level n = unless (nat_le (the_field n).level level) (fault LevelTooLow 0)

-- a file has the fields of its version and of those before
abbrev pub field_present : ℕ → ℕ → Check
field_present v n = unless (nat_le (the_field n).level v) (fault VersionLacksIt 0)

-- a level below the file's, counted up to 4, does not know how the data are laid out
abbrev pub layout_known : ℕ → ℕ → Check
layout_known v level = unless (nat_le (min v 4) level) (fault LayoutUnknown 0)

-- the cell is one of the file's, and the row one of a cell's
abbrev pub row_known : Sizes → ℕ → ℕ → Check
row_known s cell row = unless (is_row s cell row) (fault NoSuchCellOrRow 0)

-- a list or table of `room` places has room for n
abbrev pub enough_room : ℕ → ℕ → Check
enough_room n room = unless (nat_le n room) (fault ListOrTableTooShort n)

-- level 6 is the first that knows of blocks
abbrev pub blocks_seen : ℕ → Check
blocks_seen level = unless (nat_le 6 level) (fault LevelTooLow 0)

-- version 6 is the first that has blocks
abbrev pub blocks_present : ℕ → Check
blocks_present v = unless (nat_le 6 v) (fault VersionLacksIt 0)

-- the block is one of the file's n
abbrev pub block_known : ℕ → ℕ → Check
block_known n k = unless (nat_le 1 k && nat_le k n) (fault NoSuchBlock 0)

-- what is asked of a row, in order, in a file of version v and those sizes
abbrev pub row_conditions : ℕ → Sizes → ℕ → ℕ → ℕ → List Check
row_conditions v s level cell row =
    level_known level ∷ layout_known v level ∷ row_known s cell row ∷ []

-- what is asked of a field, in order, in a file of version v
abbrev pub field_conditions : ℕ → ℕ → ℕ → List Check
field_conditions v level n =
    level_known level ∷ field_known n ∷ field_seen level n ∷ field_present v n ∷ []

-- what is asked of a block, in order, without a level, in a file of version v with n blocks
abbrev pub block_conditions : ℕ → ℕ → ℕ → List Check
block_conditions v n k = blocks_present v ∷ block_known n k ∷ []
