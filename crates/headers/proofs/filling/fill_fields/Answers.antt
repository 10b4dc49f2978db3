use Rattle.std.proofs.Common.{rules}
use Rattle.headers.proofs.Turning.{next_turn_as, last_turn}
use Rattle.headers.proofs.filling.fill_fields.Goals as goal

pub loop-number-preserved : goal.loop-number-preserved
loop-number-preserved g c =
    next_turn_as _ (g.F.Filling.filling c.args.filling.now) _ c.loop-number.buffer _ c.loop-number.number _ _ (search rules) c.loop-number.invariant
    c.fill_field-used.ensures.buffer c.fill_field-used.ensures.used

pub returns : goal.returns
returns g c = last_turn _ (g.F.Filling.filling c.args.filling.now) _ _ c.loop-number.number c.loop-number.used (search rules) c.loop-number.invariant
