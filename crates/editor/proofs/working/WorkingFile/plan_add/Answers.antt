use Rattle.std.proofs.Common.{rules}
use Rattle.kinds.specs.Kind.{payload}
use Rattle.editor.specs.Calls.{view}
use Rattle.editor.proofs.patches.KindPlans.{add_planned}
use Rattle.editor.proofs.working.WorkingFile.plan_add.Goals as goal

pub returns-in_err-layout-clause-planned : goal.returns-in_err-layout-clause-planned
returns-in_err-layout-clause-planned g c =
    let k = g.K.Kind in
    add_planned (view c.args.self.now) (payload k.kind (k.numbers c.args.value) c.args.text.now) c.from_residual.result c.layout_with_blocks.ensures.read g.met.K.Kind.keeps.key_size (search rules)

pub returns-in_err-body-clause-planned : goal.returns-in_err-body-clause-planned
returns-in_err-body-clause-planned g c =
    let k = g.K.Kind in
    add_planned (view c.args.self.now) (payload k.kind (k.numbers c.args.value) c.args.text.now) c.from_residual-in_err-body.result c.layout_with_blocks.ensures.read g.met.K.Kind.keeps.key_size (search rules)

pub returns-clause-planned : goal.returns-clause-planned
returns-clause-planned g c =
    let k = g.K.Kind in
    add_planned (view c.args.self.now) (payload k.kind (k.numbers c.args.value) c.args.text.now) c.patch_behind.result c.layout_with_blocks.ensures.read g.met.K.Kind.keeps.key_size (search rules)
