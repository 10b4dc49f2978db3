use Rattle.std.proofs.Common.{◌≡◌, ℕ, List, ◌++◌, take, string_bytes}
use Rattle.printed.specs.Named.{AreMoreFields}
use Rattle.printed.proofs.named.field_list.Given as goal

-- The fields that the loop has passed follow the first.
abbrev pub invariant-loop-field : goal.invariant-loop-field
invariant-loop-field l =
    (more : List ℕ) × ((string_bytes l.list ≡ string_bytes l.initial.list ++ more) × AreMoreFields (take l.field-index l.rest) more)
