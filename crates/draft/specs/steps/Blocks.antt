-- A block that is put behind a draft, one move after the other.
use Rattle.std.specs.Prelude.{ℕ, ◌-◌, List}
use Rattle.buffers.specs.Moves.{written}
use Rattle.format.specs.Changes.{settled_header}
use Rattle.format.specs.Header.{section_begin}
use Rattle.format.specs.Section.{head_bytes}
use Rattle.draft.specs.Stages.{Numbers, end_with_block}

-- the extents and S follow the block, and its head is written; its data, n bytes, are to come
-- behind that
abbrev pub with_head : List ℕ → Numbers → List ℕ → ℕ → List ℕ
with_head b d key n =
    written (settled_header b (end_with_block d n) (end_with_block d n - section_begin)) d.size (head_bytes (record { key = key; size = n }))
