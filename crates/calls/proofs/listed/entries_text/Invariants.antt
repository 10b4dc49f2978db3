use Rattle.std.proofs.Common.{◌≡◌, string_bytes, take, length, ◌++◌, codes, decimal}
use Rattle.std.specs.List.{flat_map}
use Rattle.calls.specs.Listed.{entry_text}
use Rattle.calls.proofs.listed.entries_text.Given as goal

abbrev pub invariant-loop-entry : goal.invariant-loop-entry
invariant-loop-entry l = string_bytes l.text ≡ (codes " " ++ decimal (length l.entries)) ++ flat_map entry_text (take l.entry-index l.entries)
