use Rattle.std.proofs.Common.{rules}
use Rattle.editor.specs.Calls.{view}
use Rattle.editor.proofs.patches.BlockPlans.{carry_planned}
use Rattle.editor.proofs.working.WorkingFile.plan_carry.Goals as goal

pub returns-in_err-layout-clause-planned : goal.returns-in_err-layout-clause-planned
returns-in_err-layout-clause-planned c =
    carry_planned (view c.args.self.now) c.args.key c.args.body.now c.from_residual.result c.layout_with_blocks.ensures.read (search rules) (search rules)

pub returns-clause-planned : goal.returns-clause-planned
returns-clause-planned c =
    carry_planned (view c.args.self.now) c.args.key c.args.body.now c.patch_behind.result c.layout_with_blocks.ensures.read (search rules) (search rules)
