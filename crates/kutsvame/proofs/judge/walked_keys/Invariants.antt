use Rattle.std.proofs.Common.{◌≡◌, ◌++◌, string_bytes}
use Rattle.std.specs.List.{flat_map}
use Rattle.printed.specs.Keys.{more_key}
use Rattle.kutsvame.proofs.judge.walked_keys.Given as goal

-- The keys of the blocks that the walk has met follow the first.
abbrev pub invariant-loop-entry : goal.invariant-loop-entry
invariant-loop-entry l = string_bytes l.list ≡ string_bytes l.initial.list ++ flat_map (more_key 33 126) l.yielded
