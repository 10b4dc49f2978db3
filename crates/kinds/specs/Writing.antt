-- What writing a payload into a buffer gives and leaves.
use Rattle.std.specs.Prelude.{◌≡◌, ℕ, ◌+◌, ◌-◌, ◌≤◌, List, [], length, Ok, Err, Result, nat_le, if◌then◌else◌}
use Rattle.buffers.specs.Moves.{written}
use Rattle.buffers.specs.Words.{Bytes}
use Rattle.faults.specs.declared.fault.Fault.{Fault}
use Rattle.faults.specs.declared.refusal.Refusal.TheVariants.{TextUnfit}
use Rattle.faults.specs.Faults.{fault}
use Rattle.kinds.specs.Kind.{Output, bytes, declined, Payload, payload_output, put_answer}

-- what a kind writes, or 15 with the place that it names
abbrev pub output_bytes : Output → Result (List ℕ) Fault
output_bytes (bytes w) = Ok w
output_bytes (declined p) = Err (fault TextUnfit p)

-- the same as a list, empty where the kind declines
abbrev pub written_bytes : Output → List ℕ
written_bytes (bytes w) = w
written_bytes (declined p) = []

-- the bytes that a payload is written as, none where its kind declines
abbrev pub payload_bytes : Payload → List ℕ
payload_bytes p = written_bytes (payload_output p)

-- what is written at a place of a buffer ends within it
abbrev pub IsRoomAt : List ℕ → ℕ → Payload → Type 0
IsRoomAt b at p = at + length (payload_bytes p) ≤ length b

-- what writing at a place of a buffer answers: as writing into the rest of it does, of which there
-- is none behind the end
abbrev pub put_at_answer : List ℕ → ℕ → Payload → Result ℕ Fault
put_at_answer b at p = put_answer (payload_output p) (length b - at)

-- the bytes of a list stand at a place of a buffer where there is room for them; else it is as it
-- was
abbrev pub written_if_room : List ℕ → ℕ → List ℕ → List ℕ
written_if_room b at w = if nat_le (at + length w) (length b) then written b at w else b

-- the buffer after a payload was written at a place
abbrev pub put_at : List ℕ → ℕ → Payload → List ℕ
put_at b at p = written_if_room b at (payload_bytes p)

-- every number that the kind writes of a payload is a byte
abbrev pub IsBytesWritten : Payload → Type 0
IsBytesWritten p = (w : List ℕ) → payload_output p ≡ bytes w → Bytes w

-- where there is room for them at a place of a buffer
abbrev pub IsBytesIfRoom : List ℕ → ℕ → Payload → Type 0
IsBytesIfRoom b at p = IsRoomAt b at p → IsBytesWritten p
