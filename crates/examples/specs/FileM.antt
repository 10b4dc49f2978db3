-- File M, the smallest file of version 6 with blocks: one range cell of one bin, without quality. And contents to write.
use Rattle.std.specs.Prelude.{ℕ, zero, suc, ◌+◌, List, [], ◌∷◌, ◌++◌, take, drop, codes}
use Rattle.buffers.specs.Words.{be16, be32}
use Rattle.format.specs.Content.{Block, Content}

-- words of 32 bits, one behind the other
abbrev pub words : List ℕ → List ℕ
words [] = []
words (x ∷ xs) = be32 x ++ words xs

-- the numbers from k on, n of them
abbrev pub count : ℕ → ℕ → List ℕ
count zero k = []
count (suc n) k = k ∷ count n (k + 1)

-- levels 1 to 3: version 6, nDateTime, extent 1; nCsKind, extent 2; nSiteCodeName, extent 3
abbrev pub levels_1_to_3 : List ℕ
levels_1_to_3 = be16 6 ++ words (0 ∷ 114 ∷ []) ++ be16 1 ++ words (108 ∷ 0 ∷ 100 ∷ [])

-- level 4: fields 4 to 14, of which 11 to 13 are one bin, one cell and first cell 1; extent 4
abbrev pub level_4 : List ℕ
level_4 = words (0 ∷ 0 ∷ 0 ∷ 0 ∷ 0 ∷ 0 ∷ 0 ∷ 1 ∷ 1 ∷ 1 ∷ 0 ∷ 52 ∷ [])

-- level 5: fields 15 to 20, of which 19 is three channels; extent 5
abbrev pub level_5 : List ℕ
level_5 = words (0 ∷ 0 ∷ 0 ∷ 0 ∷ 3 ∷ 0 ∷ 24 ∷ [])

-- level 6: the section's size, and its blocks: FILL with the data 1, 2, 2, 4, and XTRA, which is empty
abbrev pub level_6 : List ℕ
level_6 = words (20 ∷ []) ++ codes "FILL" ++ words (4 ∷ []) ++ (1 ∷ 2 ∷ 2 ∷ 4 ∷ []) ++ codes "XTRA" ++ words (0 ∷ [])

-- the cell's 36 bytes are the numbers 1 to 36
abbrev pub file_m : List ℕ
file_m = levels_1_to_3 ++ level_4 ++ level_5 ++ level_6 ++ count 36 1

-- the same bytes, with the 32-bit word x at a place
abbrev pub put32 : List ℕ → ℕ → ℕ → List ℕ
put32 b at x = take at b ++ be32 x ++ drop (at + 4) b

-- two blocks, the second of which is empty
abbrev pub sample_blocks : List Block
sample_blocks = record { key = codes "ZONE"; body = 71 ∷ 77 ∷ 84 ∷ 0 ∷ 81 ∷ [] } ∷ record { key = codes "XTRA"; body = [] } ∷ []

-- a content of version v with that many fields and those blocks, a gap of five bytes, one cell of one bin with quality,
-- and a tail of three bytes
abbrev pub sample : ℕ → ℕ → List Block → Content
sample v n ks =
    record {
      version = v;
      fields = take n (4294967295 ∷ 2 ∷ 3 ∷ 4 ∷ 5 ∷ 6 ∷ 7 ∷ 8 ∷ 9 ∷ 10 ∷ 1 ∷ 1 ∷ 13 ∷ 14 ∷ 15 ∷ 16 ∷ 17 ∷ 18 ∷ 3 ∷ 20 ∷ []);
      blocks = ks;
      gap = count 5 200;
      cells = count 40 1;
      tail = count 3 100;
    }
