use Rattle.std.proofs.Common.{rules}
use Rattle.editor.specs.Calls.{view}
use Rattle.editor.proofs.patches.ChangePlans.{remove_planned}
use Rattle.editor.proofs.working.WorkingFile.plan_remove.Goals as goal

pub returns-in_err-layout-clause-planned : goal.returns-in_err-layout-clause-planned
returns-in_err-layout-clause-planned c =
    remove_planned (view c.args.self.now) c.args.number c.from_residual.result c.judged.ensures.read (search rules)

pub returns-clause-planned : goal.returns-clause-planned
returns-clause-planned c =
    remove_planned (view c.args.self.now) c.args.number c.patch.result c.judged.ensures.read (search rules)
