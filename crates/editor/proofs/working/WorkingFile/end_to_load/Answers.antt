use Rattle.std.proofs.Common.{rules}
use Rattle.editor.specs.Calls.{view}
use Rattle.editor.proofs.calls.Done.{load_refused, load_over, load_done}
use Rattle.editor.proofs.working.WorkingFile.end_to_load.Goals as goal

pub returns-in_err-judge-clause-answer : goal.returns-in_err-judge-clause-answer
returns-in_err-judge-clause-answer c =
    let by = load_refused (view c.args.self.now) c.args.bytes.now _ c.in_err-judge.ensures.exact in
    search rules

pub returns-in_err-check_capacity-clause-answer : goal.returns-in_err-check_capacity-clause-answer
returns-in_err-check_capacity-clause-answer c =
    let by = load_over (view c.args.self.now) c.args.bytes.now _ c.in_ok-judge.ensures.exact c.in_ok-judge.ensures.content.written (search rules) in
    search rules

pub returns-clause-answer : goal.returns-clause-answer
returns-clause-answer c = load_done (view c.args.self.now) c.args.bytes.now _ c.in_ok-judge.ensures.exact c.in_ok-judge.ensures.content.written (search rules)
