-- The words of a header that follow from where the data begin.
use Rattle.std.specs.Prelude.{ℕ, Bool, ◌&&◌, List, length, nat_le, nat_lt, if◌then◌else◌}
use Rattle.buffers.specs.Moves.{written}
use Rattle.buffers.specs.Words.{be32}
use Rattle.format.specs.Changes.{with_extents_from}
use Rattle.format.specs.Header.{extents, section_size_place, header_end}

-- the extents of version v where the data begin at d
unfoldable pub with_extents : List ℕ → ℕ → ℕ → List ℕ
with_extents b v d = with_extents_from b v d extents

-- the extents, and from version 6 on the size s of the section
unfoldable pub with_following : List ℕ → ℕ → ℕ → ℕ → List ℕ
with_following b v d s =
    if nat_lt v 6 then with_extents b v d else written (with_extents b v d) section_size_place (be32 s)

-- a header of version v lies in the buffer, before data that begin within reach of a word
abbrev pub header_fits : List ℕ → ℕ → ℕ → Bool
header_fits b v d =
    nat_le (header_end v) (length b) && (nat_le (header_end v) d && nat_le d 4294967295)
