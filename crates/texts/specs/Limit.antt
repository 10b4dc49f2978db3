-- How long a text may be.
use Rattle.std.specs.Prelude.{ℕ, Some, Option}

-- the limit of a text of at most 255 bytes, 256 with its zero
abbrev pub short_text : Option ℕ
short_text = Some 255
