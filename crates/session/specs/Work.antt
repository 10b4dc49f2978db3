-- The working file of a run, as the definitions see it.
use Rattle.std.specs.Prelude.{ℕ, List}
use Rattle.editor.specs.Calls.{made_state, file}
use Rattle.session.specs.declared.working.Working.{Working}

-- how many bytes its file has, and the bytes of its buffer
abbrev pub working_size : Working → ℕ
working_size w = w.size

abbrev pub working_buffer : Working → List ℕ
working_buffer w = w.room.bytes.items

-- the file that it holds
abbrev pub file_held : Working → List ℕ
file_held w = file (made_state (working_buffer w) (working_size w))
