use Rattle.std.proofs.Common.{◌-◌, ◌<◌, arith}
use Rattle.format.proofs.Tables.{same_level, same_place, same_size}
use Rattle.format.proofs.field.Field.layout.Goals as goal

pub returns : goal.returns
returns c =
    let n = c.args.self.number in
    let small : n - 1 < 20 = omega (arith, c.args.self.known) in
    record { level = same_level (n - 1) _ small; place = same_place (n - 1) _ small; size = same_size (n - 1) _ small }
