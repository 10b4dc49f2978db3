-- Bytes and keys as they are printed.
use Rattle.std.specs.Prelude.{ℕ, ◌/◌, ◌%◌, if◌then◌else◌, ◌&&◌, List, [], ◌∷◌, ◌++◌, codes, nat_le}
use Rattle.std.proofs.Math.Utf8.{encode}
use Rattle.std.specs.List.{flat_map}
use Rattle.reader.specs.declared.blocks.Entry.{Entry}

-- a byte as a letter, given the first and the last byte that are shown as themselves; or a question
-- mark, whose code is 63
abbrev pub letter_of : ℕ → ℕ → ℕ → ℕ
letter_of first last x = if nat_le first x && nat_le x last then x else 63

-- a key, given as the big-endian number of its four bytes, after the first and the last byte shown
abbrev pub key_text : ℕ → ℕ → ℕ → List ℕ
key_text first last key =
    encode (letter_of first last (key / 16777216 % 256))
    ++ (encode (letter_of first last (key / 65536 % 256))
    ++ (encode (letter_of first last (key / 256 % 256)) ++ encode (letter_of first last (key % 256))))

-- the key of one more block, after a comma
abbrev pub more_key : ℕ → ℕ → Entry → List ℕ
more_key first last e = codes ", " ++ key_text first last e.key

-- the keys of blocks, as `: FILL, XTRA`; nothing where there are none
abbrev pub keys_text : ℕ → ℕ → List Entry → List ℕ
keys_text first last [] = []
keys_text first last (e ∷ es) = (codes ": " ++ key_text first last e.key) ++ flat_map (more_key first last) es
