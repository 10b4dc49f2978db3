-- What calls answer, as items, each after a space.
use Rattle.std.specs.Prelude.{ℕ, ◌+◌, ◌-◌, ◌/◌, ◌%◌, if◌then◌else◌, List, ◌++◌, codes, decimal, length, nat_lt}
use Rattle.std.proofs.Math.Utf8.{encode}
use Rattle.std.specs.List.{flat_map}
use Rattle.kinds.specs.Packed.{Part}
use Rattle.hex.specs.Hex.{encode_lower}
use Rattle.reader.specs.declared.blocks.Entry.{Entry}
use Rattle.script.specs.Fields.{arguments_for}

-- a number below 16 as a hexadecimal digit: 0 to 9, whose codes begin at 48, and a to f, whose
-- codes begin at 97
abbrev pub digit_of : ℕ → ℕ
digit_of x = if nat_lt x 10 then 48 + x else 97 + (x - 10)

-- a byte as two digits
abbrev pub byte_text : ℕ → List ℕ
byte_text x = encode (digit_of (x / 16)) ++ encode (digit_of (x % 16))

-- a number of 32 bits as eight digits
abbrev pub word_text : ℕ → List ℕ
word_text x = byte_text (x / 16777216 % 256) ++ (byte_text (x / 65536 % 256) ++ (byte_text (x / 256 % 256) ++ byte_text (x % 256)))

-- such a number after a space
abbrev pub pattern_text : ℕ → List ℕ
pattern_text x = codes " " ++ word_text x

abbrev pub patterns_text : List ℕ → List ℕ
patterns_text xs = flat_map pattern_text xs

-- key, place and size of a block
abbrev pub entry_text : Entry → List ℕ
entry_text e = codes " " ++ (word_text e.key ++ (codes " " ++ (decimal e.place ++ (codes " " ++ decimal e.size))))

-- the count of blocks, and then each of them
abbrev pub entries_text : List Entry → List ℕ
entries_text es = (codes " " ++ decimal (length es)) ++ flat_map entry_text es

-- x, and two hexadecimal digits to a byte
abbrev pub bytes_text : List ℕ → List ℕ
bytes_text bs = codes " x" ++ encode_lower bs

-- what a kind reads in a block, and its numbers as arguments: used 4 text 112 0 1 2 2 4
abbrev pub reading_text : ℕ → ℕ → ℕ → List Part → List ℕ → List ℕ
reading_text used place length parts numbers =
    codes " used " ++ (decimal used ++ (codes " text " ++ (decimal place ++ (codes " " ++ (decimal length
    ++ arguments_for parts numbers)))))
