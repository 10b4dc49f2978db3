use Rattle.std.proofs.Common.{◌≡◌, string_bytes, take}
use Rattle.calls.specs.Listed.{patterns_text}
use Rattle.calls.proofs.listed.patterns_text.Given as goal

abbrev pub invariant-loop-pattern : goal.invariant-loop-pattern
invariant-loop-pattern l = string_bytes l.text ≡ patterns_text (take l.pattern-index l.patterns)
