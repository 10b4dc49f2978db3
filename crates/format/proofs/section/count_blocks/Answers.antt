use Rattle.std.proofs.Common.{◌∙◌, arith}
use Rattle.std.proofs.lemmas.Result.{err_from_is_err_and}
use Rattle.format.proofs.Walk.{fitting, unfit}
use Rattle.format.proofs.section.count_blocks.Goals as goal

pub returns-in_err-at : goal.returns-in_err-at
returns-in_err-at c =
    let p = err_from_is_err_and c.from_residual.result c.from_residual.ensures.1 in
    rw (p.1, p.2)
    (unfit c.args.bytes.now c.args.end c.loop-at.at c.loop-at.count c.in_err-at.field-0.0
    c.loop-at-test.true c.in_err-at.ensures.exact ∙ c.loop-at.invariant.3)

pub loop-at-preserved : goal.loop-at-preserved
loop-at-preserved c =
    let h = c.in_ok-at.ensures in
    let f = fitting c.args.bytes.now c.args.end c.loop-at.at c.loop-at.count c.in_ok-at.at
    c.loop-at-test.true h.exact in
    (omega (arith, h.onward), h.onward.1, omega (arith, h.onward), f ∙ c.loop-at.invariant.3)
