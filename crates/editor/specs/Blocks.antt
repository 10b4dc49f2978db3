-- Blocks: how one is made anew.
use Rattle.std.specs.Prelude.{ℕ, ◌-◌, List, [], ◌++◌, drop, slice_index_or}
use Rattle.format.specs.Content.{Block, block}

-- block k, counted from 1
abbrev pub block_in : List Block → ℕ → Block
block_in ks k = slice_index_or ks (k - 1) (block [] [])

-- a block whose data have more bytes at their end
abbrev pub longer_block : Block → List ℕ → Block
longer_block b more = block b.key (b.body ++ more)

-- a block with other data in the place of the first u bytes: what a newer writer put behind them
-- stays
abbrev pub renewed_block : Block → List ℕ → ℕ → Block
renewed_block b w u = block b.key (w ++ drop u b.body)
