-- Packed records: numbers of fixed widths, one after the other, without a text.
use Rattle.std.specs.Prelude.{ℕ, ◌+◌, Bool, true, false, if◌then◌else◌, ◌&&◌, List, [], ◌∷◌, ◌++◌, length, Ok, Err, Result, nat_lt, nat_le}
use Rattle.buffers.specs.Moves.{written}
use Rattle.buffers.specs.Words.{Width, two, size, limit, word, be}
use Rattle.faults.specs.declared.fault.Fault.{Fault}
use Rattle.faults.specs.declared.refusal.Refusal.TheVariants.{RecordShort, TextUnfit}
use Rattle.faults.specs.Faults.{fault}
use Rattle.kinds.specs.Kind.{Outcome, accepted, refused, Output, bytes, declined, KindSpec}

-- a part of a record: an unsigned number of some width, or a signed one of 16 bits, which stands in
-- a list of numbers as its bit pattern
pub data Part : Type 0 where
  plain : Width → Part
  signed : Part

abbrev pub part_width : Part → Width
part_width (plain w) = w
part_width signed = two

abbrev pub part_size : Part → ℕ
part_size p = size (part_width p)

-- the number that stands at a place
abbrev pub part_at : Part → List ℕ → ℕ → ℕ
part_at p b at = word (part_width p) b at

-- whether a number fits
abbrev pub part_fits : Part → ℕ → Bool
part_fits p x = nat_lt x (limit (part_width p))

-- the bytes of a number
abbrev pub part_bytes : Part → ℕ → List ℕ
part_bytes p x = be (part_width p) x

-- the size of a whole record
abbrev pub record_size : List Part → ℕ
record_size [] = 0
record_size (p ∷ ps) = part_size p + record_size ps

-- the numbers from a place on
abbrev pub numbers_at : List Part → List ℕ → ℕ → List ℕ
numbers_at [] b at = []
numbers_at (p ∷ ps) b at = part_at p b at ∷ numbers_at ps b (at + part_size p)

-- as many numbers as parts, each of which fits
abbrev pub numbers_fit : List Part → List ℕ → Bool
numbers_fit [] [] = true
numbers_fit [] (x ∷ xs) = false
numbers_fit (p ∷ ps) [] = false
numbers_fit (p ∷ ps) (x ∷ xs) = part_fits p x && numbers_fit ps xs

-- the bytes of a whole record
abbrev pub record_bytes : List Part → List ℕ → List ℕ
record_bytes [] xs = []
record_bytes (p ∷ ps) [] = []
record_bytes (p ∷ ps) (x ∷ xs) = part_bytes p x ++ record_bytes ps xs

-- data shorter than the record are refused by 13; else its numbers are read, with an empty text
abbrev pub record_reads : List Part → List ℕ → Outcome
record_reads ps b =
    if nat_lt (length b) (record_size ps) then refused RecordShort (length b)
    else accepted (numbers_at ps b 0) 0 0 (record_size ps)

-- a record is written where its numbers fit, and with an empty text only
abbrev pub record_writes : List Part → List ℕ → List ℕ → Output
record_writes ps xs text =
    if numbers_fit ps xs then
    (if nat_lt 0 (length text) then declined 0 else bytes (record_bytes ps xs))
    else declined 0

-- the kind of records with that key and those parts
abbrev pub record_kind : List ℕ → List Part → KindSpec
record_kind key ps = record { key = key; reads = record_reads ps; writes = record_writes ps }

-- data shorter than a record are refused by 13
abbrev pub size_check : ℕ → List ℕ → Result (Unit {0}) Fault
size_check n b = if nat_lt (length b) n then Err (fault RecordShort (length b)) else Ok tt

-- the size of a record; any text is refused by 15
abbrev pub textless_size : ℕ → List ℕ → Result ℕ Fault
textless_size n text = if nat_lt 0 (length text) then Err (fault TextUnfit 0) else Ok n

-- the buffer after the numbers were written one after the other, from a place on
abbrev pub put_numbers : List Part → List ℕ → List ℕ → ℕ → List ℕ
put_numbers [] xs b at = b
put_numbers (p ∷ ps) [] b at = b
put_numbers (p ∷ ps) (x ∷ xs) b at =
    put_numbers ps xs (written b at (part_bytes p x)) (at + part_size p)

-- the buffer after a record was written at its start; where there is no room for the record it is
-- as it was
abbrev pub put_record : List Part → List ℕ → List ℕ → List ℕ
put_record ps xs b = if nat_le (record_size ps) (length b) then put_numbers ps xs b 0 else b
