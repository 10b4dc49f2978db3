-- The worked examples of file M, stated of the definitions.
use Rattle.std.specs.Prelude.{◌≡◌, true, false, [], ◌∷◌, length, pos, is_ok, Ok, codes}
use Rattle.buffers.specs.Words.{int32}
use Rattle.format.specs.Content.{Content, write, content}
use Rattle.format.specs.Judging.{judged}
use Rattle.examples.specs.FileM.{count, file_m, put32, sample, sample_blocks}
use Rattle.examples.specs.Refused.{Refused}

-- the bytes of a content are accepted, and that content is read from them again
pub record Returns (c : Content) : Type 0 where
  pub accepted : is_ok (judged (write c)) ≡ true
  pub again : content (write c) ≡ c

pub record Worked : Type 0 where
  -- M has 160 bytes
  pub size : length file_m ≡ 160
  -- its extents are 114, 108, 100, 52 and 24
  pub extent_1 : int32 file_m 6 ≡ pos 114
  pub extent_2 : int32 file_m 12 ≡ pos 108
  pub extent_3 : int32 file_m 20 ≡ pos 100
  pub extent_4 : int32 file_m 68 ≡ pos 52
  pub extent_5 : int32 file_m 96 ≡ pos 24
  -- M is accepted: version 6, data at 124, one cell of one bin, three channels, a section of 20 bytes, 2 blocks
  pub accepted : judged file_m ≡ Ok (record {
    version = 6;
    start = 124;
    sizes = record { ranges = 1; bins = 1; channels = 3; first = 1; quality = false };
    section = 20;
    blocks = 2;
  })
  -- its content is read so, and written again it is M
  pub content_m : content file_m ≡ record {
    version = 6;
    fields = 0 ∷ 1 ∷ 0 ∷ 0 ∷ 0 ∷ 0 ∷ 0 ∷ 0 ∷ 0 ∷ 0 ∷ 1 ∷ 1 ∷ 1 ∷ 0 ∷ 0 ∷ 0 ∷ 0 ∷ 0 ∷ 3 ∷ 0 ∷ [];
    blocks = record { key = codes "FILL"; body = 1 ∷ 2 ∷ 2 ∷ 4 ∷ [] } ∷ record { key = codes "XTRA"; body = [] } ∷ [];
    gap = [];
    cells = count 36 1;
    tail = [];
  }
  pub again_m : write (content file_m) ≡ file_m
  -- contents with a gap and a tail, from version 6 on with two blocks, are read as they were written
  pub version_4 : Returns (sample 4 14 [])
  pub version_5 : Returns (sample 5 20 [])
  pub version_6 : Returns (sample 6 20 sample_blocks)
  pub version_7 : Returns (sample 7 20 sample_blocks)
  pub version_32 : Returns (sample 32 20 sample_blocks)
  -- with extent 2 = 107 it is refused by 4, header, place 12
  pub disagree : Refused (judged (put32 file_m 12 107)) 4 2 0 12
  -- with the section's size 19 it is refused by 9, section, block 2, place 116
  pub head_cut : Refused (judged (put32 file_m 100 19)) 9 3 2 116
  -- with the size 13 in block 1 it is refused by 10, section, block 1, place 108
  pub data_cut : Refused (judged (put32 file_m 108 13)) 10 3 1 108
