-- A file at the start of a buffer: how long it may be, and what the whole buffer is then.
use Rattle.std.specs.Prelude.{ℕ, ◌-◌, min, max, List, ◌++◌, length, drop, replicate, nat_le}
use Rattle.faults.specs.declared.refusal.Refusal.TheVariants.{Capacity}
use Rattle.faults.specs.Faults.{fault}
use Rattle.format.specs.Checks.{Check, unless}
use Rattle.format.specs.Content.{Content, write}

-- no file that is written has more bytes than this: 2^30
abbrev pub most_bytes : ℕ
most_bytes = 1073741824

-- how many bytes a file in a buffer may have
abbrev pub capacity : List ℕ → ℕ
capacity buffer = min (length buffer) most_bytes

-- 32, with the length that a file would have, where it would exceed that; and the same of the
-- writing of a content
abbrev pub within_capacity : ℕ → ℕ → Check
within_capacity most n = unless (nat_le n most) (fault Capacity n)

abbrev pub room_for : ℕ → Content → Check
room_for most c = within_capacity most (length (write c))

-- the buffer when a file stands in the place of one that ended at `old`: what that one had behind
-- the new end becomes zero, and the bytes behind both stay
abbrev pub with_file : List ℕ → ℕ → List ℕ → List ℕ
with_file buffer old new =
    new ++ (replicate (old - length new) 0 ++ drop (max old (length new)) buffer)
