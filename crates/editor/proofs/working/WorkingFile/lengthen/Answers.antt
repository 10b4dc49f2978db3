use Rattle.std.proofs.Common.{◌<◌, arith}
use Rattle.std.proofs.ByRecursion.{All-from_get_or}
use Rattle.editor.proofs.working.WorkingFile.lengthen.Goals as goal

pub returns-clause-given : goal.returns-clause-given
returns-clause-given c = All-from_get_or (λ x. x < 256) c.args.more.now 0 (λ i l. omega (arith, c.type_inv.more i))

pub returns-in_err-patch-clause-given : goal.returns-in_err-patch-clause-given
returns-in_err-patch-clause-given c = All-from_get_or (λ x. x < 256) c.args.more.now 0 (λ i l. omega (arith, c.type_inv.more i))
