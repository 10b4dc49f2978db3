use Rattle.std.proofs.Common.{◌<◌, arith, rules}
use Rattle.std.proofs.ByRecursion.{All-from_get_or}
use Rattle.editor.proofs.working.WorkingFile.carry.Goals as goal

pub returns-clause-given : goal.returns-clause-given
returns-clause-given c = (
  search rules,
  All-from_get_or (λ x. x < 256) c.args.key 0 (λ i l. search rules),
  All-from_get_or (λ x. x < 256) c.args.body.now 0 (λ i l. omega (arith, c.type_inv.body i)),
)

pub returns-in_err-patch-clause-given : goal.returns-in_err-patch-clause-given
returns-in_err-patch-clause-given c = (
  search rules,
  All-from_get_or (λ x. x < 256) c.args.key 0 (λ i l. search rules),
  All-from_get_or (λ x. x < 256) c.args.body.now 0 (λ i l. omega (arith, c.type_inv.body i)),
)
