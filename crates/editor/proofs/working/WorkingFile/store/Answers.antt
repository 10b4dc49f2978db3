use Rattle.std.proofs.Common.{◌<◌, rules, arith}
use Rattle.std.proofs.ByRecursion.{All-from_get_or}
use Rattle.editor.specs.Calls.{view}
use Rattle.editor.proofs.calls.Done.{store_by}
use Rattle.editor.proofs.working.WorkingFile.store.Goals as goal

pub returns-in_err-place-clause-answer : goal.returns-in_err-place-clause-answer
returns-in_err-place-clause-answer c =
    let found = c.place_to_store in
    let given = All-from_get_or (λ x. x < 256) c.args.bytes.now 0 (λ i l. omega (arith, c.type_inv.bytes i)) in
    let by = store_by (view c.args.self.now) c.args.cell c.args.row c.args.bytes.now found.result found.ensures.read found.ensures.place given in
    search rules

pub returns-in_err-place-clause-after : goal.returns-in_err-place-clause-after
returns-in_err-place-clause-after c =
    let found = c.place_to_store in
    let given = All-from_get_or (λ x. x < 256) c.args.bytes.now 0 (λ i l. omega (arith, c.type_inv.bytes i)) in
    let by = store_by (view c.args.self.now) c.args.cell c.args.row c.args.bytes.now found.result found.ensures.read found.ensures.place given in
    search rules

pub returns-clause-answer : goal.returns-clause-answer
returns-clause-answer c =
    let found = c.place_to_store in
    let given = All-from_get_or (λ x. x < 256) c.args.bytes.now 0 (λ i l. omega (arith, c.type_inv.bytes i)) in
    let by = store_by (view c.args.self.now) c.args.cell c.args.row c.args.bytes.now found.result found.ensures.read found.ensures.place given in
    search rules

pub returns-clause-after : goal.returns-clause-after
returns-clause-after c =
    let found = c.place_to_store in
    let given = All-from_get_or (λ x. x < 256) c.args.bytes.now 0 (λ i l. omega (arith, c.type_inv.bytes i)) in
    let by = store_by (view c.args.self.now) c.args.cell c.args.row c.args.bytes.now found.result found.ensures.read found.ensures.place given in
    search rules

pub returns-clause-given : goal.returns-clause-given
returns-clause-given c = All-from_get_or (λ x. x < 256) c.args.bytes.now 0 (λ i l. omega (arith, c.type_inv.bytes i))

pub returns-in_err-place-clause-given : goal.returns-in_err-place-clause-given
returns-in_err-place-clause-given c = All-from_get_or (λ x. x < 256) c.args.bytes.now 0 (λ i l. omega (arith, c.type_inv.bytes i))
