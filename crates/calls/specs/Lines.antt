-- The lines of a script.
use Rattle.std.specs.Prelude.{◌≡◌, ℕ, ◌≢◌, ◌⊎◌, List, Some, None, Option, slice_index}
use Rattle.script.specs.Rest.{rest_of}
use Rattle.script.specs.Arguments.{argument, first_argument, after_argument}
use Rattle.calls.specs.declared.lines.Line.{Line}

-- the first argument names the call, and the others follow; a line that has none, or whose first
-- begins with #, which is 35, has no call
abbrev pub IsCallOf : ℕ → List ℕ → Option Line → Type 0
IsCallOf n text (Some line) =
    (line.number ≡ n) × (Some line.verb.now ≡ first_argument text) × (rest_of line.arguments ≡ after_argument text)
    × (slice_index line.verb.now 0 ≢ 35)
IsCallOf n text None = (first_argument text ≡ None) ⊎ (slice_index (argument text) 0 ≡ 35)
