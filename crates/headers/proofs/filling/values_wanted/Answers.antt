use Rattle.std.proofs.Common.{true, false, sym, ◌∙◌, rules}
use Rattle.headers.proofs.Turning.{next_count_as}
use Rattle.headers.proofs.filling.values_wanted.Goals.{then-takes_value, else-takes_value}
use Rattle.headers.proofs.filling.values_wanted.Goals as goal

pub loop-number-preserved : goal.loop-number-preserved
loop-number-preserved g c =
    elim c.if-takes_value.branch [
      | then-takes_value w ↦
          next_count_as (g.F.Filling.filling c.args.filling.now) c.loop-number.number c.loop-number.wanted _ true (search rules) c.loop-number.invariant
          (sym w.if-takes_value.true ∙ c.takes_value.ensures) w.wanted-is
      | else-takes_value w ↦
          next_count_as (g.F.Filling.filling c.args.filling.now) c.loop-number.number c.loop-number.wanted _ false (search rules) c.loop-number.invariant
          (sym w.if-takes_value.false ∙ c.takes_value.ensures) w.wanted-is
    ]
