use Rattle.std.proofs.Common.{◌≡◌, drop, map}
use Rattle.format.specs.declared.extents.Extent.{Extent}
use Rattle.format.specs.declared.extents.TheConstants.{EXTENTS}
use Rattle.format.specs.Checks.{all_of}
use Rattle.format.specs.Judging.{covering_checks, extent_covers}
use Rattle.format.proofs.header.Header.check_covering.Given as goal

-- The checks before this one pass.
abbrev pub invariant-loop-extent : goal.invariant-loop-extent
invariant-loop-extent l =
    all_of (covering_checks l.self.bytes.now l.self.version)
    ≡ all_of (drop l.extent-index (map (λ (e : Extent). extent_covers l.self.bytes.now l.self.version e) EXTENTS))
