-- The calls of a working file: a buffer that holds a file at its start, and what each call answers
-- and leaves.
use Rattle.std.specs.Prelude.{ℕ, cond, List, [], length, take, Ok, Err, Result, nat_le}
use Rattle.faults.specs.declared.fault.Fault.{Fault}
use Rattle.format.specs.declared.judging.Layout.{Layout}
use Rattle.format.specs.Checks.{Check, ◌then◌, ◌with◌, passed}
use Rattle.format.specs.Content.{Content, write, content}
use Rattle.format.specs.InBuffer.{capacity, room_for, with_file}
use Rattle.format.specs.Judging.{judged}
use Rattle.reader.specs.Levels.{layout_of_file}
use Rattle.editor.specs.declared.working.WorkingFile.{WorkingFile}
use Rattle.editor.specs.Edits.{Edit, edited_content}

-- a working file: its buffer, and how many bytes at the start of it are the file
pub record WorkState : Type 0 where
  pub buffer : List ℕ
  pub size : ℕ

abbrev pub work_state : List ℕ → ℕ → WorkState
work_state buffer size = record { buffer = buffer; size = size }

-- a working file of the library, as such a state
abbrev pub view : WorkingFile → WorkState
view w = work_state w.buffer.now w.size

-- the bytes of the file; none where they would exceed the capacity
abbrev pub file : WorkState → List ℕ
file s = cond (nat_le s.size (capacity s.buffer)) (take s.size s.buffer) []

-- the content of the file; 31 where judging refuses it
abbrev pub file_content : WorkState → Result Content Fault
file_content s = layout_of_file (file s) with λ l. Ok (content (file s))

-- a number where there is a file, else 0
abbrev pub if_held : Result Layout Fault → ℕ → ℕ
if_held (Ok l) n = n
if_held (Err f) n = 0

-- where the file ends, 0 if there is none
abbrev pub file_end : WorkState → ℕ
file_end s = if_held (layout_of_file (file s)) s.size

-- making: the file in the first n bytes of a buffer, or no file
abbrev pub made_state : List ℕ → ℕ → WorkState
made_state buffer n = work_state buffer (file_end (work_state buffer n))

-- a call that may change the file: other bytes are taken over whole, or the file is edited
pub data Call : Type 0 where
  load : List ℕ → Call
  edit : Edit → Call

-- what the file is to say after the call, or why the call is refused
abbrev pub new_content : Call → WorkState → Result Content Fault
new_content (load bytes) s = judged bytes with λ l. Ok (content bytes)
new_content (edit e) s = file_content s with edited_content e

-- the same, with 32 as the last reason
abbrev pub call_outcome : Call → WorkState → Result Content Fault
call_outcome call s = new_content call s with λ c. room_for (capacity s.buffer) c then Ok c

-- an accepted call leaves the writing of its content, and a refused one everything as it was
abbrev pub state_left : WorkState → Result Content Fault → WorkState
state_left s (Ok c) = work_state (with_file s.buffer (file_end s) (write c)) (length (write c))
state_left s (Err f) = s

-- what a call answers, and what it leaves. Both stay shut until a proof unfolds them
unfoldable pub call_answer : Call → WorkState → Check
call_answer call s = passed (call_outcome call s)

unfoldable pub state_after : Call → WorkState → WorkState
state_after call s = state_left s (call_outcome call s)
