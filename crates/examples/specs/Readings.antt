-- The worked examples of reading, stated of the definitions.
use Rattle.std.specs.Prelude.{◌≡◌, ℕ, ◌≤◌, List, [], ◌∷◌, Ok}
use Rattle.format.specs.declared.judging.Layout.{Layout}
use Rattle.reader.specs.Answers.{start_answer, row_answer, look_answer}
use Rattle.reader.specs.Levels.{layout_of_file}
use Rattle.records.specs.Fill.{fill_kind}
use Rattle.records.specs.Loca.{loca_kind}
use Rattle.examples.specs.FileM.{file_m}
use Rattle.examples.specs.Refused.{Refused}

-- row 6 of cell 1, at levels 4 and 3
pub record RowSix (b : List ℕ) : Type 0 where
  pub found : row_answer b 4 1 6 ≡ Ok (14408, 4096)
  pub unknown : Refused (row_answer b 3 1 6) 37 5 0 0

pub record Readings : Type 0 where
  -- M's data begin at 124, at every level
  pub starts : (level : ℕ) → 1 ≤ level → level ≤ 6 → start_answer file_m level ≡ Ok 124
  -- block 1 read as FILL shows its four numbers, and an empty text at its data; as LOCA it is refused by 12, block, place 104
  pub fill_m : look_answer fill_kind file_m 1 ≡ Ok (record { numbers = 1 ∷ 2 ∷ 2 ∷ 4 ∷ []; text = 112; size = 0; used = 4 })
  pub loca_m : Refused (look_answer loca_kind file_m 1) 12 4 1 104
  -- row 6 of cell 1 of a file of version 4 with data at 72 and 512 bins is at 14408 and has 4096 bytes; level 3 is refused by 37
  pub row_6 : (b : List ℕ) (l : Layout) → layout_of_file b ≡ Ok l → l.version ≡ 4 → l.start ≡ 72 → l.sizes.bins ≡ 512 → RowSix b
