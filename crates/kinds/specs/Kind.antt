-- What a kind of block is: its key, how it reads and writes data, and the conditions that it keeps.
use Rattle.std.specs.Prelude.{◌≡◌, ℕ, ◌+◌, ◌≤◌, if◌then◌else◌, ◌⊎◌, List, ◌++◌, length, take, drop, Ok, Err, Result, nat_le}
use Rattle.buffers.specs.Moves.{written}
use Rattle.faults.specs.declared.fault.Fault.{Fault}
use Rattle.faults.specs.declared.refusal.Refusal.{Refusal}
use Rattle.faults.specs.declared.refusal.Refusal.TheVariants.{RecordShort, TextWithoutZero, TextUnfit, ListOrTableTooShort}
use Rattle.faults.specs.Faults.{fault}
use Rattle.kinds.specs.declared.kind.Reading.{Reading}

-- reading data gives the numbers of a record, the place and the length of a text in the data, and
-- the count of the bytes used; or a refusal with a place in the data
pub data Outcome : Type 0 where
  accepted : List ℕ → ℕ → ℕ → ℕ → Outcome
  refused : Refusal → ℕ → Outcome

-- writing gives bytes, or refusal 15 with a place in the text or its limit
pub data Output : Type 0 where
  bytes : List ℕ → Output
  declined : ℕ → Output

-- a kind: its key, its reading of data, and its writing of numbers and a text
pub record KindSpec : Type 0 where
  pub key : List ℕ
  pub reads : List ℕ → Outcome
  pub writes : List ℕ → List ℕ → Output

-- data that are accepted: u bytes are used, the text lies within them, and all data that begin with
-- them read the same
pub record IsPrefixDetermined (reads : List ℕ
    → Outcome) (b ns : List ℕ) (at len u : ℕ) : Type 0 where
  pub within : u ≤ length b
  pub inside : at + len ≤ u
  pub same : (c : List ℕ) → take u c ≡ take u b → reads c ≡ accepted ns at len u

-- what was written is read back: the same numbers, the same text, and all bytes used
pub record RoundTrips (reads : List ℕ → Outcome) (ns text out : List ℕ) : Type 0 where
  pub at : ℕ
  pub read : reads out ≡ accepted ns at (length text) (length out)
  pub text_is : take (length text) (drop at out) ≡ text

-- the conditions of every kind
pub record IsSoundKind (k : KindSpec) : Type 0 where
  pub key_size : length k.key ≡ 4
  pub steady : (b ns : List ℕ) (at len u : ℕ) → k.reads b ≡ accepted ns at len u
      → IsPrefixDetermined k.reads b ns at len u
  pub back : (ns text out : List ℕ) → k.writes ns text ≡ bytes out → RoundTrips k.reads ns text out
  pub faults : (b : List ℕ) (r : Refusal) (p : ℕ) → k.reads b ≡ refused r p
      → (p ≤ length b) × ((r ≡ RecordShort) ⊎ (r ≡ TextWithoutZero))

-- the law of all kinds: what is written, with any bytes after it, is read back as written
abbrev pub EveryKindReturns : Type 0
EveryKindReturns =
    (k : KindSpec) → IsSoundKind k → (ns text out more : List ℕ) → k.writes ns text ≡ bytes out
    → (at : ℕ) × (k.reads (out ++ more) ≡ accepted ns at (length text) (length out))
    × (take (length text) (drop at (out ++ more)) ≡ text)

-- a result says what an outcome is
abbrev pub IsReading : {R : Type 0} → (R → List ℕ) → Outcome → Result (Reading R) Fault → Type 0
IsReading numbers o (Ok v) = o ≡ accepted (numbers v.record) v.text v.length v.used
IsReading numbers o (Err f) = (o ≡ refused f.refusal f.place) × (f ≡ fault f.refusal f.place)

-- the most bytes that a kind writes, 2 ^ 63, so that sums with their count fit
abbrev pub most_written : ℕ
most_written = 9223372036854775808

-- the length of what is written, or the refusal
abbrev pub output_length : Output → Result ℕ Fault
output_length (bytes w) = Ok (length w)
output_length (declined p) = Err (fault TextUnfit p)

-- what writing into a slice of n bytes answers: the count of bytes, or 22 where the slice is too
-- short
abbrev pub put_answer : Output → ℕ → Result ℕ Fault
put_answer (bytes w) n =
    if nat_le (length w) n then Ok (length w) else Err (fault ListOrTableTooShort (length w))
put_answer (declined p) n = Err (fault TextUnfit p)

-- what it leaves there: the bytes at its start, or what was there
abbrev pub put_buffer : Output → List ℕ → List ℕ
put_buffer (bytes w) b = if nat_le (length w) (length b) then written b 0 w else b
put_buffer (declined p) b = b

-- what a kind is to write into a block: the kind, the numbers of a record, and a text
pub record Payload : Type 0 where
  pub kind : KindSpec
  pub numbers : List ℕ
  pub text : List ℕ

abbrev pub payload : KindSpec → List ℕ → List ℕ → Payload
payload kind numbers text = record { kind = kind; numbers = numbers; text = text }

-- what it comes to: bytes, or the refusal
abbrev pub payload_output : Payload → Output
payload_output p = p.kind.writes p.numbers p.text
