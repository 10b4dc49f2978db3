-- The header of a draft in a buffer: what is written, one word after the other.
use Rattle.std.specs.Prelude.{ℕ, List}
use Rattle.buffers.specs.Moves.{written}
use Rattle.buffers.specs.Words.{be16}
use Rattle.format.specs.Header.{header_end}
use Rattle.headers.specs.Extents.{with_following}
use Rattle.headers.specs.Fields.{with_fields}
use Rattle.draft.specs.declared.start.Start.{Start}
use Rattle.draft.specs.Drafts.{begin_filling}

-- a whole header whose data begin right behind it
abbrev pub with_begun : List ℕ → Start → List ℕ → List ℕ
with_begun b s xs =
    with_following (with_fields (written b 0 (be16 s.version)) (begin_filling s) xs) s.version (header_end s.version) 0
