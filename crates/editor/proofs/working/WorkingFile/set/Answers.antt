use Rattle.std.proofs.Common.{rules}
use Rattle.editor.specs.Calls.{view}
use Rattle.editor.proofs.calls.Done.{set_by}
use Rattle.editor.proofs.working.WorkingFile.set.Goals as goal

pub returns-in_err-place-clause-answer : goal.returns-in_err-place-clause-answer
returns-in_err-place-clause-answer c =
    let found = c.place_to_set in
    let by = set_by (view c.args.self.now) c.args.number c.args.value found.result found.ensures.read found.ensures.place c.ranges.value.fits in
    search rules

pub returns-in_err-place-clause-after : goal.returns-in_err-place-clause-after
returns-in_err-place-clause-after c =
    let found = c.place_to_set in
    let by = set_by (view c.args.self.now) c.args.number c.args.value found.result found.ensures.read found.ensures.place c.ranges.value.fits in
    search rules

pub returns-clause-answer : goal.returns-clause-answer
returns-clause-answer c =
    let found = c.place_to_set in
    let by = set_by (view c.args.self.now) c.args.number c.args.value found.result found.ensures.read found.ensures.place c.ranges.value.fits in
    search rules

pub returns-clause-after : goal.returns-clause-after
returns-clause-after c =
    let found = c.place_to_set in
    let by = set_by (view c.args.self.now) c.args.number c.args.value found.result found.ensures.read found.ensures.place c.ranges.value.fits in
    search rules
