use Rattle.std.proofs.Common.{◌≡◌, ◌++◌, take, string_bytes}
use Rattle.std.specs.List.{flat_map}
use Rattle.printed.specs.Keys.{more_key}
use Rattle.printed.proofs.keys.key_list.Given as goal

-- The keys of the blocks that the loop has passed follow the first.
abbrev pub invariant-loop-entry : goal.invariant-loop-entry
invariant-loop-entry g l = string_bytes l.list ≡ string_bytes l.initial.list ++ flat_map (more_key g.row.FIRST g.row.LAST) (take l.entry-index l.rest)
