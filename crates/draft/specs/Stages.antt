-- Stages: what a draft knows, in numbers; what each of its calls answers, and what it leaves in any
-- buffer whatever.
use Rattle.std.specs.Prelude.{ℕ, ◌+◌, ◌-◌, cond, List, length, Ok, Err, Result, nat_lt}
use Rattle.buffers.specs.Moves.{written}
use Rattle.faults.specs.declared.fault.Fault.{Fault}
use Rattle.faults.specs.declared.refusal.Refusal.TheVariants.{CellCount}
use Rattle.faults.specs.Faults.{fault}
use Rattle.format.specs.Changes.{settled_header}
use Rattle.format.specs.Checks.{Check, ◌then◌, ◌with◌, all_of}
use Rattle.format.specs.Content.{Block, Content, block_bytes, write, block}
use Rattle.kinds.specs.Kind.{output_length, payload_output}
use Rattle.format.specs.Header.{section_begin}
use Rattle.reader.specs.Levels.{blocks_present}
use Rattle.kinds.specs.Writing.{payload_bytes}
use Rattle.format.specs.InBuffer.{capacity, within_capacity}
use Rattle.draft.specs.declared.stages.BlockStage.{BlockStage}
use Rattle.draft.specs.declared.stages.CellStage.{CellStage}
use Rattle.draft.specs.Drafts.{Step, put, carried, lay, lay_conditions}

-- what a draft knows: its version, how many cells it is to have, the bytes of each, the bytes
-- written so far, and the cells laid
pub record Numbers : Type 0 where
  pub version : ℕ
  pub cells : ℕ
  pub cell : ℕ
  pub size : ℕ
  pub laid : ℕ

-- the numbers of a stage
abbrev pub of_blocks : BlockStage → Numbers
of_blocks s =
    record {
      version = s.draft.version;
      cells = s.draft.cells;
      cell = s.draft.cell;
      size = s.draft.size;
      laid = 0;
    }

abbrev pub of_cells : CellStage → Numbers
of_cells s =
    record {
      version = s.draft.version;
      cells = s.draft.cells;
      cell = s.draft.cell;
      size = s.draft.size;
      laid = s.laid;
    }

-- the numbers with another size and count of cells laid
abbrev pub grown_numbers : Numbers → ℕ → ℕ → Numbers
grown_numbers n size laid = record n { size = size; laid = laid }

-- a draft, and the buffer that its call is handed
pub record DraftState : Type 0 where
  pub draft : Numbers
  pub buffer : List ℕ

abbrev pub draft_state : Numbers → List ℕ → DraftState
draft_state draft buffer = record { draft = draft; buffer = buffer }

-- where the draft ends with a block more, whose data have n bytes
abbrev pub end_with_block : Numbers → ℕ → ℕ
end_with_block d n = d.size + (8 + n)

-- a block whose data have as many bytes as is said, or cannot be written
abbrev pub block_room_answer : DraftState → Result ℕ Fault → Check
block_room_answer s body = blocks_present s.draft.version then
    (body with λ n. within_capacity (capacity s.buffer) (end_with_block s.draft n))

-- what a call answers
abbrev pub step_answer : Step → DraftState → Check
step_answer (put new) s = block_room_answer s (output_length (payload_output new))
step_answer (carried key body) s = block_room_answer s (Ok (length body))
step_answer (lay bytes) s =
    all_of (lay_conditions s.draft.laid s.draft.cells s.draft.cell (length bytes)) then
    within_capacity (capacity s.buffer) (s.draft.size + s.draft.cell)

-- the buffer with a block more: the extents and S follow it, and its bytes are written where the draft ended
abbrev pub with_block_bytes : List ℕ → Numbers → Block → List ℕ
with_block_bytes b d x =
    let end = end_with_block d (length x.body) in
    written (settled_header b end (end - section_begin)) d.size (block_bytes x)

-- a block more, and nothing else is written
abbrev pub with_block_put : DraftState → List ℕ → List ℕ → DraftState
with_block_put s key body =
    draft_state (grown_numbers s.draft (end_with_block s.draft (length body)) s.draft.laid)
    (with_block_bytes s.buffer s.draft (block key body))

-- what an accepted call leaves; a cell's bytes are written, and nothing else
abbrev pub step_done : Step → DraftState → DraftState
step_done (put new) s = with_block_put s new.kind.key (payload_bytes new)
step_done (carried key body) s = with_block_put s key body
step_done (lay bytes) s =
    draft_state (grown_numbers s.draft (s.draft.size + s.draft.cell) (s.draft.laid + 1)) (written s.buffer s.draft.size bytes)

-- what a call leaves: a refused one leaves everything as it was
abbrev pub if_passed : Check → DraftState → DraftState → DraftState
if_passed (Ok x) t s = t
if_passed (Err f) t s = s

abbrev pub draft_after : Step → DraftState → DraftState
draft_after step s = if_passed (step_answer step s) (step_done step s) s

-- closing: the bytes of the whole file, or 38 with the cells laid while some are missing
abbrev pub close_answer : Numbers → Result ℕ Fault
close_answer d = cond (nat_lt d.laid d.cells) (Err (fault CellCount d.laid)) (Ok d.size)

-- what begin leaves: the header, and everything else as it was; refused, all as it was
abbrev pub begun_buffer : List ℕ → Result Content Fault → List ℕ
begun_buffer b (Ok c) = written b 0 (write c)
begun_buffer b (Err f) = b
