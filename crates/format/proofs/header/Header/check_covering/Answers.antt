use Rattle.std.proofs.Common.{sym}
use Rattle.std.proofs.lemmas.Result.{err_from_is_err_and}
use Rattle.format.specs.declared.extents.Extent.{Extent}
use Rattle.format.specs.declared.extents.TheConstants.{EXTENTS}
use Rattle.format.specs.Judging.{extent_covers}
use Rattle.format.proofs.Turns.{turn_fails, turn_passes}
use Rattle.format.proofs.header.Header.check_covering.Goals as goal

pub returns-in_err-check_covers : goal.returns-in_err-check_covers
returns-in_err-check_covers c =
    let header = c.args.self.now in
    let p = err_from_is_err_and c.from_residual.result c.from_residual.ensures.1 in
    rw (p.1, p.2)
    (sym (turn_fails (λ (e : Extent). extent_covers header.bytes.now header.version e) EXTENTS _ c.loop-extent.extent-index _
    c.loop-extent-test.true c.loop-extent.invariant c.in_err-check_covers.field-0.0 c.in_err-check_covers.ensures))

pub loop-extent-preserved : goal.loop-extent-preserved
loop-extent-preserved c =
    let header = c.args.self.now in
    turn_passes (λ (e : Extent). extent_covers header.bytes.now header.version e) EXTENTS _ c.loop-extent.extent-index _
    c.loop-extent-test.true c.loop-extent.invariant c.in_ok-check_covers.ensures
