-- The section of blocks: from its begin on, blocks one behind the other fill it.
use Rattle.std.specs.Prelude.{◌≡◌, ℕ, zero, suc, ◌+◌, ◌-◌, ◌<◌, ◌≤◌, cond, ◌⊎◌, List, [], ◌∷◌, ◌++◌, take, drop, Ok, Result, nat_le, slice_index}
use Rattle.buffers.specs.Words.{word32, be32}
use Rattle.faults.specs.declared.fault.Fault.{Fault}
use Rattle.faults.specs.declared.refusal.Refusal.TheVariants.{BlockHeadCut, BlockDataCut}
use Rattle.faults.specs.Faults.{in_block}
use Rattle.format.specs.declared.head.BlockHead.{BlockHead}
use Rattle.format.specs.Checks.{Check, unless, ◌then◌, all_of}
use Rattle.format.specs.Header.{section_begin}

-- the block that begins at `at`: a key of 4 bytes, a size of 4 bytes, and that many bytes of data
abbrev pub key_at : List ℕ → ℕ → List ℕ
key_at b at =
    slice_index b at ∷ slice_index b (at + 1) ∷ slice_index b (at + 2) ∷ slice_index b (at + 3) ∷ []

abbrev pub size_at : List ℕ → ℕ → ℕ
size_at b at = word32 b (at + 4)

abbrev pub data_at : List ℕ → ℕ → List ℕ
data_at b at = take (size_at b at) (drop (at + 8) b)

-- its head is its key and its size; and the bytes that they are written as
abbrev pub head_at : List ℕ → ℕ → BlockHead
head_at b at = record { key = key_at b at; size = size_at b at }

abbrev pub head_bytes : BlockHead → List ℕ
head_bytes head = head.key ++ be32 head.size

-- where it ends
abbrev pub block_end : List ℕ → ℕ → ℕ
block_end b at = at + 8 + size_at b at

-- the block k, which begins at `at`, fits into a section that ends at `end`
abbrev pub block_fits : List ℕ → ℕ → ℕ → ℕ → Check
block_fits b end at k =
    all_of
    (unless (nat_le 8 (end - at)) (in_block BlockHeadCut k at)
    ∷ unless (nat_le (size_at b at) (end - at - 8)) (in_block BlockDataCut k (at + 4))
    ∷ [])

-- where the block k ends, or why it does not fit
abbrev pub next_block : List ℕ → ℕ → ℕ → ℕ → Result ℕ Fault
next_block b end at k = block_fits b end at k then Ok (block_end b at)

-- the count of the blocks when n of them stand before `at`. Each block takes at least 8 bytes, so
-- that as many steps as there are bytes left suffice
abbrev pub walk_blocks : List ℕ → ℕ → ℕ → ℕ → ℕ → Result ℕ Fault
walk_blocks b end zero at n = Ok n
walk_blocks b end (suc steps) at n =
    cond (nat_le end at) (Ok n) (block_fits b end at (n + 1) then
    walk_blocks b end steps (block_end b at) (n + 1))

abbrev pub blocks_from : List ℕ → ℕ → ℕ → ℕ → Result ℕ Fault
blocks_from b end at n = walk_blocks b end (end - at) at n

-- the count of the blocks that fill the section up to `end`
abbrev pub section_blocks : List ℕ → ℕ → Result ℕ Fault
section_blocks b end = blocks_from b end section_begin 0

-- n blocks stand one behind the other from `at` to `to`, none of them reaching past `end`
pub data IsBlockRow (b : List ℕ) (end : ℕ) : ℕ → ℕ → ℕ → Type 0 where
  none : {at : ℕ} → IsBlockRow b end at at 0
  more : {at to n : ℕ} → block_end b at ≤ end → IsBlockRow b end (block_end b at) to n
      → IsBlockRow b end at to (suc n)

-- n blocks fill the section up to `end`, without gap or overlap
abbrev pub IsTiled : List ℕ → ℕ → ℕ → Type 0
IsTiled b end n = IsBlockRow b end section_begin end n

-- the section's end cuts the head or the data of the block k, which begins at `at`, as f says
abbrev pub IsCutAt : List ℕ → ℕ → ℕ → ℕ → Fault → Type 0
IsCutAt b end at k f =
    ((end < at + 8) × (f ≡ in_block BlockHeadCut k at))
    ⊎ ((at + 8 ≤ end) × (end < block_end b at) × (f ≡ in_block BlockDataCut k (at + 4)))

-- behind some whole blocks there is one that is cut, as f says
pub record IsCut (b : List ℕ) (end : ℕ) (f : Fault) : Type 0 where
  pub whole : ℕ
  pub at : ℕ
  pub blocks : IsBlockRow b end section_begin at whole
  pub inside : at < end
  pub cut : IsCutAt b end at (whole + 1) f
