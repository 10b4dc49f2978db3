-- The worked examples of edits, stated of the definitions.
use Rattle.std.specs.Prelude.{◌≡◌, ℕ, ℤ, pos, List, [], ◌∷◌, ◌++◌, map, take, Ok, codes}
use Rattle.buffers.specs.Words.{int32}
use Rattle.format.specs.Content.{Block, Content, write}
use Rattle.kinds.specs.Kind.{payload}
use Rattle.texts.specs.Zone.{zone_kind}
use Rattle.editor.specs.Edits.{edited_content, raise, replace}
use Rattle.examples.specs.FileM.{count, sample, sample_blocks}
use Rattle.examples.specs.Refused.{Refused}

-- the extents of a file of version v up to 5, and the five of a later one
abbrev pub extents_in : ℕ → List ℕ → List ℤ
extents_in v b = map (int32 b) (take v (6 ∷ 12 ∷ 20 ∷ 68 ∷ 96 ∷ []))

-- a content of version v with those fields, without blocks and without a gap
abbrev pub plain : ℕ → List ℕ → Content
plain v fields = record { version = v; fields = fields; blocks = []; gap = []; cells = count 40 1; tail = count 3 100 }

-- fields 1 to 14, with one cell of one bin and the first cell 13; and fields 15 to 20 of the values 21 to 25 and three channels
abbrev pub fourteen : List ℕ
fourteen = 7 ∷ 2 ∷ 3 ∷ 4 ∷ 5 ∷ 6 ∷ 7 ∷ 8 ∷ 9 ∷ 10 ∷ 1 ∷ 1 ∷ 13 ∷ 14 ∷ []

abbrev pub six_more : List ℕ
six_more = 21 ∷ 22 ∷ 23 ∷ 24 ∷ 3 ∷ 25 ∷ []

-- the blocks of the sample, when the text of the first is EST5: a byte of a newer writer stays behind it
abbrev pub blocks_est5 : List Block
blocks_est5 = record { key = codes "ZONE"; body = codes "EST5" ++ (0 ∷ codes "Q") } ∷ record { key = codes "XTRA"; body = [] } ∷ []

pub record Editings : Type 0 where
  -- a file of version 4 with the extents 62, 56, 48 and 0 is raised with five values, and has the extents 90, 84, 76, 28 and 0
  pub extents_4 : extents_in 4 (write (plain 4 fourteen)) ≡ pos 62 ∷ pos 56 ∷ pos 48 ∷ pos 0 ∷ []
  pub raised_5 : edited_content (raise (21 ∷ 22 ∷ 23 ∷ 24 ∷ 25 ∷ [])) (plain 4 fourteen) ≡ Ok (plain 5 (fourteen ++ six_more))
  pub extents_5 : extents_in 5 (write (plain 5 (fourteen ++ six_more))) ≡ pos 90 ∷ pos 84 ∷ pos 76 ∷ pos 28 ∷ pos 0 ∷ []
  -- and then with none, and has the extents 94, 88, 80, 32 and 4
  pub raised_6 : edited_content (raise []) (plain 5 (fourteen ++ six_more)) ≡ Ok (plain 6 (fourteen ++ six_more))
  pub extents_6 : extents_in 6 (write (plain 6 (fourteen ++ six_more))) ≡ pos 94 ∷ pos 88 ∷ pos 80 ∷ pos 32 ∷ pos 4 ∷ []
  -- four values are refused by 17, which names the five that are wanted; and a gap before the data by 36
  pub few : Refused (edited_content (raise (21 ∷ 22 ∷ 23 ∷ 24 ∷ [])) (plain 4 fourteen)) 17 5 0 5
  pub gap : Refused (edited_content (raise (21 ∷ 22 ∷ 23 ∷ 24 ∷ 25 ∷ [])) (sample 4 14 [])) 36 5 0 0
  -- the ZONE data GMT, zero, Q, replaced by EST5, are EST5, zero, Q
  pub zone : edited_content (replace 1 (payload zone_kind [] (codes "EST5"))) (sample 6 20 sample_blocks) ≡ Ok (sample 6 20 blocks_est5)
