-- Big-endian words. A byte behind the end counts as 0, so that a word is defined at every place.
use Rattle.std.specs.Prelude.{ℕ, ◌+◌, ◌*◌, ◌/◌, ◌%◌, ◌^◌, ◌<◌, List, [], ◌∷◌, ◌++◌, ℤ, slice_index}
use Rattle.std.specs.List.{AllByRecursion}
use Rattle.std.specs.Int.{w16, w32}
use Rattle.std.proofs.Common.{to_z}

-- the unsigned number in two bytes, the higher one first
abbrev pub word16 : List ℕ → ℕ → ℕ
word16 b at = slice_index b at * 256 + slice_index b (at + 1)

-- the unsigned number in four bytes, the highest one first
abbrev pub word32 : List ℕ → ℕ → ℕ
word32 b at =
    slice_index b at * 16777216 + slice_index b (at + 1) * 65536 + slice_index b (at + 2) * 256 + slice_index b (at + 3)

-- the unsigned number in eight bytes, the highest one first
abbrev pub word64 : List ℕ → ℕ → ℕ
word64 b at = word32 b at * 4294967296 + word32 b (at + 4)

-- the same bits as a signed number, in two's complement
abbrev pub int16 : List ℕ → ℕ → ℤ
int16 b at = to_z w16 (word16 b at)

abbrev pub int32 : List ℕ → ℕ → ℤ
int32 b at = to_z w32 (word32 b at)

-- the bytes of a number, the highest one first
abbrev pub be16 : ℕ → List ℕ
be16 x = x / 256 % 256 ∷ x % 256 ∷ []

abbrev pub be32 : ℕ → List ℕ
be32 x = x / 256 / 256 / 256 % 256 ∷ x / 256 / 256 % 256 ∷ x / 256 % 256 ∷ x % 256 ∷ []

abbrev pub be64 : ℕ → List ℕ
be64 x = be32 (x / 4294967296) ++ be32 (x % 4294967296)

-- the widths of a word, in bytes
pub data Width : Type 0 where
  one : Width
  two : Width
  four : Width
  eight : Width

-- the bytes of a word of that width
abbrev pub size : Width → ℕ
size one = 1
size two = 2
size four = 4
size eight = 8

-- the numbers below this fit that width
abbrev pub limit : Width → ℕ
limit one = 2 ^ 8
limit two = 2 ^ 16
limit four = 2 ^ 32
limit eight = 2 ^ 64

-- the word of that width at a place
abbrev pub word : Width → List ℕ → ℕ → ℕ
word one b at = slice_index b at
word two b at = word16 b at
word four b at = word32 b at
word eight b at = word64 b at

-- the bytes of a number of that width
abbrev pub be : Width → ℕ → List ℕ
be one x = x ∷ []
be two x = be16 x
be four x = be32 x
be eight x = be64 x

-- every number of the list is a byte
abbrev pub Bytes : List ℕ → Type 0
Bytes b = AllByRecursion (λ x. x < 256) b
