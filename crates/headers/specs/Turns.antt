-- The turns in which a header is filled, one for each field's number.
use Rattle.std.specs.Prelude.{ℕ, ◌+◌, ◌&&◌, List, if◌then◌else◌, slice_index}
use Rattle.headers.specs.Fields.{FillingSpec, put_header_field}

-- the buffer after the turn of field n, when so many of the caller's values were used before
abbrev pub turn_buffer : FillingSpec → ℕ → List ℕ → List ℕ → ℕ → List ℕ
turn_buffer f n b xs used = if f.has n then
    put_header_field b n (if f.takes n then slice_index xs used else f.given n) else b

-- and how many are used after it
abbrev pub turn_used : FillingSpec → ℕ → ℕ → ℕ
turn_used f n used = if f.has n && f.takes n then used + 1 else used
