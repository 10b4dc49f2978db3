use Rattle.std.proofs.Common.{Ok, rules}
use Rattle.editor.specs.Calls.{view}
use Rattle.editor.proofs.patches.ChangePlans.{found_inside}
use Rattle.editor.proofs.patches.Planning.{small_of}
use Rattle.editor.proofs.working.WorkingFile.block_to_edit.Goals as goal

pub returns-clause-small : goal.returns-clause-small
returns-clause-small c = small_of (view c.args.self.now) c.in_ok-layout.layout c.requires.read (search rules)

pub returns-clause-inside : goal.returns-clause-inside
returns-clause-inside c =
    let by = found_inside (view c.args.self.now) c.args.number (Ok (c.in_ok-layout.layout, c.in_ok-entry.entry)) (search rules) in
    by.0
