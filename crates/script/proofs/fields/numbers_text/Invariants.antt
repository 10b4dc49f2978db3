use Rattle.std.proofs.Common.{◌≡◌, string_bytes, take}
use Rattle.std.specs.List.{flat_map}
use Rattle.script.specs.Fields.{field_argument}
use Rattle.script.proofs.fields.numbers_text.Given as goal

-- The numbers of the fields that the loop has passed stand in the text.
abbrev pub invariant-loop-field : goal.invariant-loop-field
invariant-loop-field l = string_bytes l.text ≡ flat_map field_argument (take l.field-index l.fields)
