-- The kinds of block, by their keys.
use Rattle.std.specs.Prelude.{◌≢◌, ℕ, List, Some, None, Option, codes}

-- what comes of an argument that is the key of a kind is what comes of a kind with that key; any
-- other argument is the key of none
abbrev pub GivesByKey : {O : Type 0} → (List ℕ → O → Type 0) → List ℕ → Option O → Type 0
GivesByKey gives argument (Some o) = gives argument o
GivesByKey gives argument None =
    (argument ≢ codes "TIME") × (argument ≢ codes "LOCA") × (argument ≢ codes "RCVI") × (argument ≢ codes "GLRM") × (argument ≢ codes "SUPI")
    × (argument ≢ codes "FWIN") × (argument ≢ codes "FILL") × (argument ≢ codes "ZONE") × (argument ≢ codes "CITY") × (argument ≢ codes "TOOL")
    × (argument ≢ codes "SITD")
