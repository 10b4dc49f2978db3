-- The worked examples of drafts, stated of the definitions.
use Rattle.std.specs.Prelude.{◌≡◌, ℕ, ◌*◌, List, [], ◌∷◌, ◌++◌, length, replicate, Ok, codes}
use Rattle.format.specs.Changes.{with_cells}
use Rattle.format.specs.Content.{Content, write}
use Rattle.kinds.specs.Kind.{payload}
use Rattle.records.specs.Fill.{fill_kind}
use Rattle.texts.specs.Zone.{zone_kind}
use Rattle.draft.specs.declared.start.Start.{Start}
use Rattle.draft.specs.Drafts.{Step, put, carried, lay, begun_content, begin_outcome, step_outcome}
use Rattle.draft.specs.Law.{DraftEvent, called, turned, closing, content_of_run}
use Rattle.draft.specs.Stages.{close_answer}
use Rattle.examples.specs.FileM.{count, file_m}
use Rattle.examples.specs.Refused.{Refused}

abbrev pub starting : ℕ → ℕ → ℕ → ℕ → Start
starting version kind bins ranges = record { version = version; kind = kind; bins = bins; ranges = ranges }

-- file M begins with one bin and one cell, and of its other fields only field 13, the first cell, is not 0
abbrev pub values_m : List ℕ
values_m = replicate 9 0 ++ (1 ∷ replicate 6 0)

-- its FILL is put, its XTRA carried, and its cell laid
abbrev pub fill_m : Step
fill_m = put (payload fill_kind (1 ∷ 2 ∷ 2 ∷ 4 ∷ []) [])

abbrev pub xtra_m : Step
xtra_m = carried (codes "XTRA") []

abbrev pub cell_m : Step
cell_m = lay (count 36 1)

abbrev pub begun_m : Content
begun_m = begun_content (starting 6 1 1 1) values_m

abbrev pub calls_m : List DraftEvent
calls_m = called fill_m (Ok tt) ∷ called xtra_m (Ok tt) ∷ turned ∷ called cell_m (Ok tt) ∷ closing (Ok 160) ∷ []

-- the content after each of these calls
abbrev pub filled_m : Content
filled_m = content_of_run begun_m (called fill_m (Ok tt) ∷ [])

abbrev pub turned_m : Content
turned_m = content_of_run begun_m (called fill_m (Ok tt) ∷ called xtra_m (Ok tt) ∷ [])

-- a draft of version 4, of 31 cells of 512 bins without quality
abbrev pub long_start : Start
long_start = starting 4 1 512 31

pub record Draftings : Type 0 where
  -- file M drafted in a buffer of 160 bytes is the bytes of M
  pub begins_m : begin_outcome 160 (starting 6 1 1 1) values_m ≡ Ok begun_m
  pub fills_m : step_outcome 160 fill_m begun_m ≡ Ok filled_m
  pub carries_m : step_outcome 160 xtra_m filled_m ≡ Ok turned_m
  pub lays_m : step_outcome 160 cell_m turned_m ≡ Ok (content_of_run begun_m calls_m)
  pub bytes_m : write (content_of_run begun_m calls_m) ≡ file_m
  -- a draft of version 4 with 31 cells of 512 bins has 571464 bytes
  pub long : (xs cells : List ℕ) → length cells ≡ 31 * (512 * 36) → length (write (with_cells (begun_content long_start xs) cells)) ≡ 571464
  -- begin is refused by 2, 5 and 6 at the layer call, by 17 with the count wanted, and by 32 with the header's length
  pub version_3 : Refused (begin_outcome 200 (starting 3 1 1 1) values_m) 2 5 0 0
  pub version_7 : Refused (begin_outcome 200 (starting 7 1 1 1) values_m) 2 5 0 0
  pub bins : Refused (begin_outcome 200 (starting 6 1 0 1) values_m) 5 5 0 0
  pub cells : Refused (begin_outcome 200 (starting 6 1 1 8193) values_m) 6 5 0 0
  pub values_4 : Refused (begin_outcome 200 (starting 4 1 1 1) values_m) 17 5 0 11
  pub values_6 : Refused (begin_outcome 200 (starting 6 1 1 1) (replicate 11 0)) 17 5 0 16
  pub header : Refused (begin_outcome 103 (starting 6 1 1 1) values_m) 32 5 0 104
  -- a block is refused by 33 below version 6, by 15 as its kind does, and by 32
  pub early : Refused (step_outcome 200 xtra_m (begun_content (starting 5 1 1 1) values_m)) 33 5 0 0
  pub text : Refused (step_outcome 200 (put (payload zone_kind [] (codes "G" ++ (0 ∷ [])))) begun_m) 15 5 0 1
  pub block_room : Refused (step_outcome 115 fill_m begun_m) 32 5 0 116
  -- a cell is refused by 38 if all are laid, by 17 with the bytes of a cell, and by 32
  pub all_laid : Refused (step_outcome 200 cell_m (content_of_run begun_m calls_m)) 38 5 0 1
  pub short_cell : Refused (step_outcome 200 (lay (count 35 1)) turned_m) 17 5 0 36
  pub cell_room : Refused (step_outcome 159 cell_m turned_m) 32 5 0 160
  -- closing is refused by 38 while cells are missing
  pub missing : Refused (close_answer (record { version = 6; cells = 2; cell = 36; size = 160; laid = 1 })) 38 5 0 1
