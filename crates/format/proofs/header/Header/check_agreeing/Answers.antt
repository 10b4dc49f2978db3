use Rattle.std.proofs.Common.{sym, drop}
use Rattle.std.proofs.lemmas.Result.{err_from_is_err_and}
use Rattle.format.specs.declared.extents.Extent.{Extent}
use Rattle.format.specs.declared.extents.TheConstants.{EXTENTS}
use Rattle.format.specs.Judging.{extent_agrees}
use Rattle.format.proofs.Turns.{turn_fails}
use Rattle.format.proofs.header.Header.check_agreeing.Goals as goal

pub returns-in_err-check_agrees : goal.returns-in_err-check_agrees
returns-in_err-check_agrees c =
    let header = c.args.self.now in
    let p = err_from_is_err_and c.from_residual.result c.from_residual.ensures.1 in
    rw (p.1, p.2)
    (sym (turn_fails (λ (e : Extent). extent_agrees header.bytes.now header.version e) (drop 1 EXTENTS) _ c.loop-extent.extent-index _
    c.loop-extent-test.true c.loop-extent.invariant c.in_err-check_agrees.field-0.0 c.in_err-check_agrees.ensures))
