-- Patches: bytes of a file give way to others, and its header follows.
use Rattle.std.specs.Prelude.{◌≡◌, ℕ, ◌+◌, ◌-◌, ◌≤◌, List, ◌++◌, length, take, drop, Ok, IfOk, IfErr, Result}
use Rattle.buffers.specs.Moves.{written}
use Rattle.buffers.specs.Words.{be32}
use Rattle.faults.specs.declared.fault.Fault.{Fault}
use Rattle.format.specs.declared.judging.Layout.{Layout}
use Rattle.format.specs.Changes.{settled_header}
use Rattle.format.specs.Header.{section_begin}
use Rattle.format.specs.Checks.{◌then◌, ◌with◌, passed, all_of}
use Rattle.format.specs.Section.{head_bytes}
use Rattle.kinds.specs.Kind.{Payload, payload_output, output_length}
use Rattle.reader.specs.Answers.{block_place, entry_at, look_answer}
use Rattle.reader.specs.Levels.{layout_of_file, blocks_present, block_conditions}
use Rattle.reader.specs.declared.blocks.Entry.{Entry}
use Rattle.editor.specs.declared.patch.Patch.{Patch}
use Rattle.kinds.specs.Writing.{payload_bytes}
use Rattle.editor.specs.Edits.{add, carry, lengthen, replace, remove}
use Rattle.editor.specs.Calls.{WorkState, work_state, file, Call, edit, call_answer, state_after}
use Rattle.format.specs.InBuffer.{most_bytes, capacity, within_capacity, with_file}

-- bytes with others in the place of `removed` of them
abbrev pub with_patch : List ℕ → ℕ → ℕ → List ℕ → List ℕ
with_patch b at removed new = take at b ++ (new ++ drop (at + removed) b)

-- a buffer whose file of `size` bytes is opened: `added` bytes, whichever stood there, in the place
-- of `removed`
abbrev pub opened_buffer : List ℕ → ℕ → ℕ → ℕ → ℕ → List ℕ
opened_buffer buffer size at removed added =
    with_file buffer size (with_patch (take size buffer) at removed (take added (drop at buffer)))

-- the same by a patch, with the header settled
abbrev pub with_room_made : List ℕ → ℕ → Patch → List ℕ
with_room_made buffer size p =
    settled_header (opened_buffer buffer size p.at p.removed p.added) p.start p.section

-- a patch that the file has room for, behind its header
pub record IsFittingPatch (s : WorkState) (p : Patch) : Type 0 where
  pub front : section_begin ≤ p.at
  pub inside : p.at + p.removed ≤ s.size
  pub within : s.size ≤ length s.buffer
  pub size_is : p.size ≡ s.size + p.added - p.removed
  pub room : p.size ≤ length s.buffer
  pub small : p.size ≤ most_bytes
  pub start_from : section_begin ≤ p.start
  pub start_to : p.start ≤ p.size
  pub section_to : p.section ≤ p.size
  pub head_in : p.head + 8 ≤ length s.buffer
  pub body_to : p.body ≤ p.size

-- what is planned for a call: its answer, and by a patch, which adds n bytes, the whole buffer
-- after it
pub record IsPlanned (c : Call) (s : WorkState) (n : ℕ) (r : Result Patch Fault) (leaves : Patch
    → List ℕ) : Type 0 where
  pub answers : passed r ≡ call_answer c s
  pub stays : IfErr r (λ f. state_after c s ≡ s)
  pub left : IfOk r (λ p. state_after c s ≡ work_state (leaves p) p.size)
  pub fits : IfOk r (IsFittingPatch s)
  pub adds : IfOk r (λ p. p.added ≡ n)

-- a file of that layout is within the largest capacity, so that sums of its sizes are no larger
-- than a word
pub record IsSmallFile (s : WorkState) (l : Layout) : Type 0 where
  pub file : length (file s) ≤ most_bytes
  pub size : s.size ≤ most_bytes
  pub start : l.start ≤ most_bytes
  pub section : l.section ≤ most_bytes

-- the patch of a file with that layout, in a block that begins at `head` and has `body` bytes of
-- data then; 32 where the file would have more bytes than the capacity
abbrev pub patch_of : WorkState → Layout → ℕ → ℕ → ℕ → ℕ → ℕ → Result Patch Fault
patch_of s l at removed added head body =
    within_capacity (capacity s.buffer) (s.size + added - removed)
    then Ok (record {
      at = at;
      removed = removed;
      added = added;
      size = s.size + added - removed;
      start = l.start + added - removed;
      section = l.section + added - removed;
      head = head;
      body = body;
    })

-- where block k of the file begins
abbrev pub head_of : WorkState → ℕ → ℕ
head_of s k = block_place (file s) (k - 1)

-- the layout of a file that has blocks; and the layout of a file, with block k of it
abbrev pub layout_with_blocks : WorkState → Result Layout Fault
layout_with_blocks s = layout_of_file (file s) with λ l. blocks_present l.version then Ok l

abbrev pub block_to_edit : WorkState → ℕ → Result (Layout × Entry) Fault
block_to_edit s k =
    layout_of_file (file s) with λ l. all_of (block_conditions l.version l.blocks k) then
    Ok (l, entry_at (file s) (head_of s k))

-- n bytes of data in a block behind the last one of a file with that layout
abbrev pub patch_behind : WorkState → Layout → ℕ → Result Patch Fault
patch_behind s l n =
    patch_of s l (section_begin + l.section) 0 (8 + n) (section_begin + l.section) n

-- n bytes of data in a block behind the last one; n bytes more at the end of the data of block k;
-- block k taken out
abbrev pub last_patch : WorkState → ℕ → Result Patch Fault
last_patch s n = layout_with_blocks s with λ l. patch_behind s l n

abbrev pub longer_patch : WorkState → ℕ → ℕ → Result Patch Fault
longer_patch s k n =
    block_to_edit s k with λ f.
    patch_of s f.0 (f.1.place + 8 + f.1.size) 0 n f.1.place (f.1.size + n)

abbrev pub less_patch : WorkState → ℕ → Result Patch Fault
less_patch s k = block_to_edit s k with λ f. patch_of s f.0 f.1.place (8 + f.1.size) 0 f.1.place 0

-- a block that a kind writes behind the last one: 15 where it declines, before 32
abbrev pub add_patch : WorkState → Payload → Result Patch Fault
add_patch s new =
    layout_with_blocks s with λ l. output_length (payload_output new) with λ n. patch_behind s l n

-- what a kind writes, in the place of the bytes that it used in block k
abbrev pub replace_patch : WorkState → ℕ → Payload → Result Patch Fault
replace_patch s k new =
    block_to_edit s k with λ f.
    look_answer new.kind (file s) k with λ seen.
    output_length (payload_output new) with λ n.
    patch_of s f.0 (f.1.place + 8) seen.used n f.1.place (f.1.size + n - seen.used)

-- the buffer when room was made, and the block at `head` says how many bytes of data it has then
abbrev pub with_size_put : WorkState → Patch → List ℕ
with_size_put s p = written (with_room_made s.buffer s.size p) (p.head + 4) (be32 p.body)

-- the buffer when a block was put into the room: its head, and then its data
abbrev pub with_head_put : WorkState → List ℕ → Patch → List ℕ
with_head_put s key p =
    written (with_room_made s.buffer s.size p) p.at (head_bytes (record { key = key; size = p.body }))

abbrev pub with_block_carried : WorkState → List ℕ → List ℕ → Patch → List ℕ
with_block_carried s key body p = written (with_head_put s key p) (p.at + 8) body

-- the buffer when bytes were put into the room that was made in a block
abbrev pub with_data_put : WorkState → List ℕ → Patch → List ℕ
with_data_put s new p = written (with_size_put s p) p.at new

-- what is planned for the edits of blocks
abbrev pub IsAddPlan : WorkState → Payload → Result Patch Fault → Type 0
IsAddPlan s new r =
    IsPlanned (edit (add new)) s (8 + length (payload_bytes new)) r (with_block_carried s new.kind.key (payload_bytes new))

abbrev pub IsCarryPlan : WorkState → List ℕ → List ℕ → Result Patch Fault → Type 0
IsCarryPlan s key body r =
    IsPlanned (edit (carry key body)) s (8 + length body) r (with_block_carried s key body)

abbrev pub IsLengthenPlan : WorkState → ℕ → List ℕ → Result Patch Fault → Type 0
IsLengthenPlan s k more r = IsPlanned (edit (lengthen k more)) s (length more) r (with_data_put s more)

abbrev pub IsReplacePlan : WorkState → ℕ → Payload → Result Patch Fault → Type 0
IsReplacePlan s k new r =
    IsPlanned (edit (replace k new)) s (length (payload_bytes new)) r (with_data_put s (payload_bytes new))

abbrev pub IsRemovePlan : WorkState → ℕ → Result Patch Fault → Type 0
IsRemovePlan s k r = IsPlanned (edit (remove k)) s 0 r (with_room_made s.buffer s.size)
