-- Pieces of a list: what stands at a place, and what follows it.
use Rattle.std.proofs.Common.{◌≡◌, ℕ, ◌+◌, List, ◌++◌, length, take, drop, sym, ap, ◌∙◌}
use Rattle.std.proofs.lemmas.List.{take_at, drop_at, drop-drop, take-append-drop}

-- a piece, and then the rest
pub piece : (b : List ℕ) (i n : ℕ) → take n (drop i b) ++ drop (i + n) b ≡ drop i b
piece b i n = rw (← drop-drop n i b) (take-append-drop n (drop i b))

pub take_there : (b xs rest : List ℕ) (i n : ℕ) → drop i b ≡ xs ++ rest → length xs ≡ n → take n (drop i b) ≡ xs
take_there b xs rest i n e l = ap (take n) e ∙ take_at xs rest n l

pub drop_there : (b xs rest : List ℕ) (i n : ℕ) → drop i b ≡ xs ++ rest → length xs ≡ n → drop (i + n) b ≡ rest
drop_there b xs rest i n e l = sym (drop-drop n i b) ∙ ap (drop n) e ∙ drop_at xs rest n l
