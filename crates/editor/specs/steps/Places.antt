-- Where a field or a row stands that an edit writes, or why it is refused.
use Rattle.std.specs.Prelude.{ℕ, List, Ok, Result}
use Rattle.faults.specs.declared.fault.Fault.{Fault}
use Rattle.format.specs.Checks.{◌then◌, ◌with◌, all_of}
use Rattle.format.specs.Header.{the_field}
use Rattle.reader.specs.Answers.{row_answer}
use Rattle.reader.specs.Levels.{layout_of_file}
use Rattle.editor.specs.Edits.{set_conditions}
use Rattle.format.specs.Conditions.{as_long}

-- a field that may be set
abbrev pub set_place : List ℕ → ℕ → Result ℕ Fault
set_place b n =
    layout_of_file b with λ l. all_of (set_conditions l.version n) then Ok (the_field n).place

-- a row for which m bytes are given, as a reader of level 6 asks for it
abbrev pub store_place : List ℕ → ℕ → ℕ → ℕ → Result ℕ Fault
store_place b cell row m = row_answer b 6 cell row with λ p. as_long p.1 m then Ok p.0
