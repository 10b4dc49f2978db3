use Rattle.std.proofs.Common.{◌<◌, rules, arith}
use Rattle.std.proofs.ByRecursion.{All-from_get_or}
use Rattle.editor.specs.Calls.{view, load}
use Rattle.editor.proofs.calls.Done.{refused_stays, load_leaves}
use Rattle.editor.proofs.calls.Held.{end_inside}
use Rattle.editor.proofs.working.WorkingFile.load.Goals as goal

pub returns-in_err-old-clause-after : goal.returns-in_err-old-clause-after
returns-in_err-old-clause-after c =
    let by = refused_stays (load c.args.bytes.now) (view c.args.self.now) _ c.in_err-old.ensures.answer in
    search rules

pub put_file-requires-clause-within : goal.put_file-requires-clause-within
put_file-requires-clause-within c =
    let by = end_inside (view c.args.self.now) in
    search rules

pub returns-clause-after : goal.returns-clause-after
returns-clause-after c =
    let found = c.in_ok-old.ensures in
    let by = load_leaves (view c.args.self.now) c.args.bytes.now found.accepted found.whole found.answer in
    search rules

pub returns-clause-given : goal.returns-clause-given
returns-clause-given c = All-from_get_or (λ x. x < 256) c.args.bytes.now 0 (λ i l. omega (arith, c.type_inv.bytes i))

pub returns-in_err-old-clause-given : goal.returns-in_err-old-clause-given
returns-in_err-old-clause-given c = All-from_get_or (λ x. x < 256) c.args.bytes.now 0 (λ i l. omega (arith, c.type_inv.bytes i))
