use Rattle.std.proofs.Common.{◌≡◌, drop, map}
use Rattle.format.specs.declared.extents.Extent.{Extent}
use Rattle.format.specs.declared.extents.TheConstants.{EXTENTS}
use Rattle.format.specs.Checks.{all_of}
use Rattle.format.specs.Judging.{agreeing_checks, extent_agrees}
use Rattle.format.proofs.header.Header.check_agreeing.Given as goal

-- The checks before this one pass.
abbrev pub invariant-loop-extent : goal.invariant-loop-extent
invariant-loop-extent l =
    all_of (agreeing_checks l.self.bytes.now l.self.version)
    ≡ all_of (drop l.extent-index (map (λ (e : Extent). extent_agrees l.self.bytes.now l.self.version e) (drop 1 EXTENTS)))
