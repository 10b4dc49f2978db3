-- The rows of a cell: the one list of their widths, and where each row stands.
use Rattle.std.specs.Prelude.{ℕ, ◌+◌, ◌-◌, ◌*◌, Bool, ◌&&◌, List, [], ◌∷◌, length, take, sum, nat_le, slice_index, if◌then◌else◌}
use Rattle.format.specs.declared.judging.Layout.{Layout}
use Rattle.format.specs.declared.sizes.Sizes.{Sizes}
use Rattle.format.specs.Sizes.{most_bins}

-- the bytes that each row of a cell has for one bin, in order: the self spectra of antennas 1 to 3,
-- the cross spectra 1-2, 1-3 and 2-3, and the quality where it is present
abbrev pub row_widths : Sizes → List ℕ
row_widths s = 4 ∷ 4 ∷ 4 ∷ 8 ∷ 8 ∷ 8 ∷ (if s.quality then 4 ∷ [] else [])

-- how many rows a cell has
abbrev pub row_count : Sizes → ℕ
row_count s = length (row_widths s)

-- the bytes that a bin has in the rows before a row, in the row itself, and in the whole cell
abbrev pub width_before : Sizes → ℕ → ℕ
width_before s row = sum (take (row - 1) (row_widths s))

abbrev pub width_of : Sizes → ℕ → ℕ
width_of s row = slice_index (row_widths s) (row - 1)

abbrev pub bin_width : Sizes → ℕ
bin_width s = sum (row_widths s)

-- the bytes of one cell, which are at most 40 for each bin, and of all cells
abbrev pub cell_size : Sizes → ℕ
cell_size s = s.bins * bin_width s

abbrev pub most_cell_size : ℕ
most_cell_size = most_bins * 40

abbrev pub cells_size : Sizes → ℕ
cells_size s = s.ranges * cell_size s

-- the cell is one of the file's, and the row one of a cell's
abbrev pub is_row : Sizes → ℕ → ℕ → Bool
is_row s cell row =
    (nat_le 1 cell && nat_le cell s.ranges) && (nat_le 1 row && nat_le row (row_count s))

-- where a row of a cell begins in the cells, and how many bytes it has: cells follow each other,
-- and rows in a cell
abbrev pub row_in : Sizes → ℕ → ℕ → ℕ × ℕ
row_in s cell row =
    ((cell - 1) * cell_size s + s.bins * width_before s row, s.bins * width_of s row)

-- where it begins in a file, whose cells begin at D
abbrev pub row_span : Layout → ℕ → ℕ → ℕ × ℕ
row_span l cell row = (l.start + (row_in l.sizes cell row).0, (row_in l.sizes cell row).1)
