use Rattle.std.proofs.Common.{◌≡◌, drop}
use Rattle.format.specs.declared.extents.TheConstants.{EXTENTS}
use Rattle.format.specs.Changes.{with_extents_from}
use Rattle.headers.proofs.extents.write_extents.Given as goal

-- The extents before this one are written.
abbrev pub invariant-loop-extent : goal.invariant-loop-extent
invariant-loop-extent l =
    with_extents_from l.initial.buffer l.version l.start EXTENTS
    ≡ with_extents_from l.buffer l.version l.start (drop l.extent-index EXTENTS)
