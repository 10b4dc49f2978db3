-- The blocks of a file as they are printed.
use Rattle.std.specs.Prelude.{ℕ, List, ◌++◌, codes, decimal}
use Rattle.std.proofs.Math.Utf8.{encode}
use Rattle.std.specs.List.{flat_map}
use Rattle.reader.specs.declared.blocks.Entry.{Entry}
use Rattle.printed.specs.Keys.{letter_of, key_text}

-- number, key, place and size of a block: block 1 FILL at 104, size 4
abbrev pub head_text : ℕ → Entry → List ℕ
head_text k e =
    codes "block " ++ (decimal k ++ (codes " " ++ (key_text 32 126 e.key ++ (codes " at " ++ (decimal e.place
    ++ (codes ", size " ++ decimal e.size))))))

-- a byte of a text as a letter
abbrev pub letter_text : ℕ → List ℕ
letter_text x = encode (letter_of 32 126 x)

abbrev pub quoted_text : List ℕ → List ℕ
quoted_text text = (codes "\"" ++ flat_map letter_text text) ++ codes "\""
