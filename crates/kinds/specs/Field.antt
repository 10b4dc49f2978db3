-- Packed numbers with a text after them, which stands in a field of fixed size.
use Rattle.std.specs.Prelude.{ℕ, ◌+◌, ◌-◌, if◌then◌else◌, List, ◌++◌, length, take, drop, replicate, nat_lt, nat_le}
use Rattle.buffers.specs.Moves.{written, zeroed}
use Rattle.faults.specs.declared.refusal.Refusal.TheVariants.{RecordShort, TextWithoutZero}
use Rattle.kinds.specs.Ended.{before_zero}
use Rattle.kinds.specs.Kind.{Outcome, accepted, refused, Output, bytes, declined, KindSpec}
use Rattle.kinds.specs.Packed.{Part, record_size, numbers_at, numbers_fit, record_bytes, put_numbers}

-- the size of the whole, where the text has at most m bytes: the numbers, the text, and a zero
abbrev pub field_size : List Part → ℕ → ℕ
field_size ps m = record_size ps + (m + 1)

-- the text ends before the first zero of the m + 1 bytes of the field, which begins at a place;
-- without a zero they are refused by 14, at that place
abbrev pub field_text : ℕ → ℕ → List ℕ → List ℕ → Outcome
field_text at m ns f =
    if nat_lt (before_zero f) (m + 1) then accepted ns at (before_zero f) (at + (m + 1))
    else refused TextWithoutZero at

-- data that are too short are refused by 13; else numbers are read, and then the text after them
abbrev pub field_reads : List Part → ℕ → List ℕ → Outcome
field_reads ps m b =
    if nat_lt (length b) (field_size ps m) then refused RecordShort (length b)
    else field_text (record_size ps) m (numbers_at ps b 0) (take (m + 1) (drop (record_size ps) b))

-- the bytes of the whole: the packed numbers, the text, and zeros that fill the field up
abbrev pub field_bytes : ℕ → List ℕ → List ℕ → List ℕ
field_bytes m head text = head ++ (text ++ replicate (m + 1 - length text) 0)

-- a text longer than m bytes is declined at m, then one with a zero in it at the first; else it is
-- written after the numbers
abbrev pub field_output : ℕ → List ℕ → List ℕ → Output
field_output m head text =
    if nat_lt m (length text) then declined m
    else if nat_lt (before_zero text) (length text) then declined (before_zero text)
    else bytes (field_bytes m head text)

-- numbers that do not fit are declined
abbrev pub field_writes : List Part → ℕ → List ℕ → List ℕ → Output
field_writes ps m ns text =
    if numbers_fit ps ns then field_output m (record_bytes ps ns) text else declined m

-- the kind with that key, those parts, and a text of at most m bytes
abbrev pub field_kind : List ℕ → List Part → ℕ → KindSpec
field_kind key ps m = record { key = key; reads = field_reads ps m; writes = field_writes ps m }

-- the buffer after numbers, text and zeros were written at its start; where there is no room for
-- the whole it is as it was
abbrev pub put_text_field : List Part → ℕ → List ℕ → List ℕ → List ℕ → List ℕ
put_text_field ps m ns text b =
    if nat_le (field_size ps m) (length b) then
    zeroed (written (put_numbers ps ns b 0) (record_size ps) text)
    (record_size ps + length text) (m + 1 - length text)
    else b
