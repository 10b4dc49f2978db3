-- Raising a file in a buffer: what is asked of its layout, and what is written, one move after the
-- other.
use Rattle.std.specs.Prelude.{ℕ, ◌+◌, ◌-◌, List, [], ◌∷◌, Ok, Result, ◌==◌, nat_lt}
use Rattle.buffers.specs.Moves.{written, shifted}
use Rattle.buffers.specs.Words.{be16, be32}
use Rattle.faults.specs.declared.fault.Fault.{Fault}
use Rattle.faults.specs.declared.refusal.Refusal.TheVariants.{NothingToRaise, Gap}
use Rattle.faults.specs.Faults.{fault}
use Rattle.format.specs.declared.judging.Layout.{Layout}
use Rattle.format.specs.declared.sizes.Sizes.{Sizes}
use Rattle.format.specs.Checks.{Check, unless, ◌then◌, ◌with◌, all_of}
use Rattle.format.specs.Header.{header_end}
use Rattle.headers.specs.Extents.{with_extents}
use Rattle.headers.specs.Fields.{values_wanted, with_fields}
use Rattle.reader.specs.Levels.{layout_of_file}
use Rattle.editor.specs.Edits.{raise_filling}
use Rattle.format.specs.Conditions.{as_long}
use Rattle.format.specs.InBuffer.{capacity, within_capacity}
use Rattle.editor.specs.Calls.{WorkState, file}

-- how many bytes a file of n bytes and version v has when it is raised
abbrev pub raised_size : ℕ → ℕ → ℕ
raised_size n v = n + (header_end (v + 1) - header_end v)

-- what is asked of the layout of a file, in order, where m values are given
abbrev pub layout_conditions : Layout → ℕ → List Check
layout_conditions l m =
    unless (nat_lt l.version 6) (fault NothingToRaise 0)
    ∷ unless (l.start == header_end l.version) (fault Gap 0)
    ∷ as_long (values_wanted (raise_filling l.version l.sizes)) m
    ∷ []

-- the layout of a file that can be raised with m values, and how many bytes it has then
abbrev pub layout_to_raise : WorkState → ℕ → Result (Layout × ℕ) Fault
layout_to_raise s m =
    layout_of_file (file s) with λ l. all_of (layout_conditions l m) then
    (within_capacity (capacity s.buffer) (raised_size s.size l.version) then
    Ok (l, raised_size s.size l.version))

-- the data of a file of n bytes and version v give way to the longer header
abbrev pub with_room : List ℕ → ℕ → ℕ → List ℕ
with_room b n v = shifted b (header_end v) (n - header_end v) (header_end (v + 1))

-- the new level: its fields, and the last word of the header, which is 0, since the data begin
-- right behind it
abbrev pub with_end : List ℕ → ℕ → Sizes → List ℕ → List ℕ
with_end b v s xs = written (with_fields b (raise_filling v s) xs) (header_end (v + 1) - 4) (be32 0)

-- the words that the header had before: the version, and the extents
abbrev pub with_version : List ℕ → ℕ → List ℕ
with_version b v = with_extents (written b 0 (be16 (v + 1))) v (header_end (v + 1))

-- a buffer whose first n bytes were a file of version v, when it is raised
abbrev pub raised_in : List ℕ → ℕ → ℕ → Sizes → List ℕ → List ℕ
raised_in b n v s xs = with_version (with_end (with_room b n v) v s xs) v
