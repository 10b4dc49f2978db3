use Rattle.std.proofs.Common.{rules}
use Rattle.kinds.specs.Kind.{payload}
use Rattle.editor.specs.Calls.{view}
use Rattle.editor.proofs.patches.ReplacePlans.{replace_planned}
use Rattle.editor.proofs.working.WorkingFile.plan_replace.Goals as goal

pub returns-in_err-layout-clause-planned : goal.returns-in_err-layout-clause-planned
returns-in_err-layout-clause-planned g c =
    let k = g.K.Kind in
    replace_planned (view c.args.self.now) c.args.number (payload k.kind (k.numbers c.args.value) c.args.text.now) c.from_residual.result g.met.K.Kind.keeps c.judged-judged.ensures.read (search rules)

pub returns-in_err-seen-clause-planned : goal.returns-in_err-seen-clause-planned
returns-in_err-seen-clause-planned g c =
    let k = g.K.Kind in
    replace_planned (view c.args.self.now) c.args.number (payload k.kind (k.numbers c.args.value) c.args.text.now) c.from_residual-in_err-seen.result g.met.K.Kind.keeps c.judged-judged.ensures.read (search rules)

pub returns-in_err-added-clause-planned : goal.returns-in_err-added-clause-planned
returns-in_err-added-clause-planned g c =
    let k = g.K.Kind in
    replace_planned (view c.args.self.now) c.args.number (payload k.kind (k.numbers c.args.value) c.args.text.now) c.from_residual-in_err-added.result g.met.K.Kind.keeps c.judged-judged.ensures.read (search rules)

pub returns-clause-planned : goal.returns-clause-planned
returns-clause-planned g c =
    let k = g.K.Kind in
    replace_planned (view c.args.self.now) c.args.number (payload k.kind (k.numbers c.args.value) c.args.text.now) c.patch.result g.met.K.Kind.keeps c.judged-judged.ensures.read (search rules)
