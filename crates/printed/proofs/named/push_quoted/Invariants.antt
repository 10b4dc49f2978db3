use Rattle.std.proofs.Common.{◌≡◌, ◌++◌, take, string_bytes}
use Rattle.std.specs.List.{flat_map}
use Rattle.printed.specs.Blocks.{letter_text}
use Rattle.printed.proofs.named.push_quoted.Given as goal

-- The letters that the loop has passed follow the quotation mark.
abbrev pub invariant-loop-byte : goal.invariant-loop-byte
invariant-loop-byte l = string_bytes l.list ≡ string_bytes l.initial.list ++ flat_map letter_text (take l.byte-index l.text)
