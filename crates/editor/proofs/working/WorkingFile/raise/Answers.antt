use Rattle.std.proofs.Common.{◌<◌, rules, arith}
use Rattle.std.proofs.ByRecursion.{All-from_get_or}
use Rattle.editor.specs.Calls.{view}
use Rattle.editor.proofs.raised.RaisedDone.{raise_by}
use Rattle.editor.proofs.working.WorkingFile.raise.Goals as goal

pub returns-in_err-layout-clause-answer : goal.returns-in_err-layout-clause-answer
returns-in_err-layout-clause-answer c =
    let found = c.layout_to_raise in
    let given = All-from_get_or (λ x. x < 4294967296) c.args.values.now 0 (λ i l. omega (arith, c.type_inv.values i)) in
    let by = raise_by (view c.args.self.now) c.args.values.now found.result found.ensures.read found.ensures.layout given in
    search rules

pub returns-in_err-layout-clause-after : goal.returns-in_err-layout-clause-after
returns-in_err-layout-clause-after c =
    let found = c.layout_to_raise in
    let given = All-from_get_or (λ x. x < 4294967296) c.args.values.now 0 (λ i l. omega (arith, c.type_inv.values i)) in
    let by = raise_by (view c.args.self.now) c.args.values.now found.result found.ensures.read found.ensures.layout given in
    search rules

pub put_raised-requires-clause-from : goal.put_raised-requires-clause-from
put_raised-requires-clause-from c =
    let found = c.layout_to_raise in
    let given = All-from_get_or (λ x. x < 4294967296) c.args.values.now 0 (λ i l. omega (arith, c.type_inv.values i)) in
    let by = raise_by (view c.args.self.now) c.args.values.now found.result found.ensures.read found.ensures.layout given in
    search rules

pub put_raised-requires-clause-to : goal.put_raised-requires-clause-to
put_raised-requires-clause-to c =
    let found = c.layout_to_raise in
    let given = All-from_get_or (λ x. x < 4294967296) c.args.values.now 0 (λ i l. omega (arith, c.type_inv.values i)) in
    let by = raise_by (view c.args.self.now) c.args.values.now found.result found.ensures.read found.ensures.layout given in
    search rules

pub put_raised-requires-clause-inside : goal.put_raised-requires-clause-inside
put_raised-requires-clause-inside c =
    let found = c.layout_to_raise in
    let given = All-from_get_or (λ x. x < 4294967296) c.args.values.now 0 (λ i l. omega (arith, c.type_inv.values i)) in
    let by = raise_by (view c.args.self.now) c.args.values.now found.result found.ensures.read found.ensures.layout given in
    search rules

pub put_raised-requires-clause-room : goal.put_raised-requires-clause-room
put_raised-requires-clause-room c =
    let found = c.layout_to_raise in
    let given = All-from_get_or (λ x. x < 4294967296) c.args.values.now 0 (λ i l. omega (arith, c.type_inv.values i)) in
    let by = raise_by (view c.args.self.now) c.args.values.now found.result found.ensures.read found.ensures.layout given in
    search rules

pub returns-clause-answer : goal.returns-clause-answer
returns-clause-answer c =
    let found = c.layout_to_raise in
    let given = All-from_get_or (λ x. x < 4294967296) c.args.values.now 0 (λ i l. omega (arith, c.type_inv.values i)) in
    let by = raise_by (view c.args.self.now) c.args.values.now found.result found.ensures.read found.ensures.layout given in
    search rules

pub returns-clause-after : goal.returns-clause-after
returns-clause-after c =
    let found = c.layout_to_raise in
    let given = All-from_get_or (λ x. x < 4294967296) c.args.values.now 0 (λ i l. omega (arith, c.type_inv.values i)) in
    let by = raise_by (view c.args.self.now) c.args.values.now found.result found.ensures.read found.ensures.layout given in
    search rules

pub returns-in_err-layout-clause-given : goal.returns-in_err-layout-clause-given
returns-in_err-layout-clause-given c = All-from_get_or (λ x. x < 4294967296) c.args.values.now 0 (λ i l. omega (arith, c.type_inv.values i))

pub returns-clause-given : goal.returns-clause-given
returns-clause-given c = All-from_get_or (λ x. x < 4294967296) c.args.values.now 0 (λ i l. omega (arith, c.type_inv.values i))
