-- The numbers of a file's rows, all rows of all cells in order, and how they are copied to a list.
use Rattle.std.specs.Prelude.{ℕ, ◌+◌, ◌-◌, ◌*◌, ◌/◌, cond, nat_le, Ok, Err, Result}
use Rattle.std.specs.Prelude.{List, ◌++◌, map, length, take, drop}
use Rattle.std.specs.List.{range_with_len}
use Rattle.buffers.specs.Words.{word32}
use Rattle.faults.specs.declared.fault.Fault.{Fault}
use Rattle.format.specs.declared.judging.Layout.{Layout}
use Rattle.format.specs.Rows.{cells_size, row_in}
use Rattle.reader.specs.Answers.{filled_list}
use Rattle.reader.specs.Levels.{layout_of_file}

-- number i of the data, from 0
abbrev pub number_at : List ℕ → Layout → ℕ → ℕ
number_at b l i = word32 b (l.start + 4 * i)

-- how many numbers the data have, and all of them
abbrev pub count_of : Layout → ℕ
count_of l = cells_size l.sizes / 4

abbrev pub all_numbers : List ℕ → Layout → List ℕ
all_numbers b l = map (number_at b l) (range_with_len 0 (count_of l))

-- the answer, for a list: how many numbers were copied; none of what is no file, or if they have
-- no room
abbrev pub count_in : List ℕ → Result Layout Fault → ℕ
count_in old (Ok l) = cond (nat_le (count_of l) (length old)) (count_of l) 0
count_in old (Err f) = 0

abbrev pub copy_answer : List ℕ → List ℕ → ℕ
copy_answer b old = count_in old (layout_of_file b)

-- the list then: its first places have all numbers, and the rest is as before; it is as before if
-- none were copied
abbrev pub list_in : List ℕ → List ℕ → Result Layout Fault → List ℕ
list_in b old (Ok l) =
    cond (nat_le (count_of l) (length old)) (filled_list (all_numbers b l) old) old
list_in b old (Err f) = old

abbrev pub copy_list : List ℕ → List ℕ → List ℕ
copy_list b old = list_in b old (layout_of_file b)

-- the bytes of the data before a row of a cell
abbrev pub bytes_before : Layout → ℕ → ℕ → ℕ
bytes_before l cell row = (row_in l.sizes cell row).0

-- a list whose places from `at` to before `end` have the values of a function there, and whose
-- others are as before
abbrev pub copied : (ℕ → ℕ) → ℕ → ℕ → List ℕ → List ℕ
copied f at end old = take at old ++ (map f (range_with_len at (end - at)) ++ drop end old)
