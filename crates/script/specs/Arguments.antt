-- The arguments of a line.
use Rattle.std.specs.Prelude.{ℕ, ◌+◌, Bool, if◌then◌else◌, List, [], ◌∷◌, Some, None, Option, length, take, drop, ◌==◌, min}
use Rattle.std.specs.List.{position_or_len, prefix_len}

abbrev pub is_space : ℕ → Bool
is_space c = c == 32

abbrev pub is_quote : ℕ → Bool
is_quote c = c == 34

-- a text after the spaces that it begins with
abbrev pub unspaced : List ℕ → List ℕ
unspaced t = drop (prefix_len is_space t) t

-- how many bytes the argument has that a text begins with: those before the first space; where it
-- begins with a quotation mark, those up to the next one, both marks with them. Where no such space
-- or mark stands, all.
abbrev pub argument_length : List ℕ → ℕ
argument_length [] = 0
argument_length (c ∷ t) =
    if is_quote c then min (position_or_len is_quote t + 2) (length t + 1) else position_or_len is_space (c ∷ t)

-- the first argument of a text, which is empty where the text has none
unfoldable pub argument : List ℕ → List ℕ
argument t = take (argument_length (unspaced t)) (unspaced t)

-- what stands after it
unfoldable pub after_argument : List ℕ → List ℕ
after_argument t = drop (argument_length (unspaced t)) (unspaced t)

-- the first argument, unless it is empty
abbrev pub first_argument : List ℕ → Option (List ℕ)
first_argument t = if length (argument t) == 0 then None else Some (argument t)
