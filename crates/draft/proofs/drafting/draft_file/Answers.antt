use Rattle.std.proofs.Common.{◌≡◌, Ok, Err, ap, ◌∙◌, rules}
use Rattle.format.specs.Checks.{passed}
use Rattle.kinds.specs.Kind.{payload}
use Rattle.format.specs.InBuffer.{capacity}
use Rattle.draft.specs.Drafts.{begin_outcome}
use Rattle.draft.specs.Stages.{Numbers, draft_state, of_blocks, of_cells}
use Rattle.draft.proofs.Ended.{file_drafted, begin_refused, in_any}
use Rattle.draft.proofs.drafting.draft_file.Goals as goal

pub returns-in_err-draft-clause-answer : goal.returns-in_err-draft-clause-answer
returns-in_err-draft-clause-answer g c =
    let e : passed c.from_residual.result ≡ Err c.in_err-draft.field-0.0 = search rules in
    ◌∙◌ {c = passed (begin_outcome (capacity c.args.buffer.now) c.args.parts.now.start c.args.parts.now.values.now)} e c.in_err-draft.ensures.answer

pub returns-in_err-draft-clause-refused : goal.returns-in_err-draft-clause-refused
returns-in_err-draft-clause-refused g c =
    in_any c.from_residual.result _ (begin_refused c.args.buffer.now c.begin.new.buffer _ c.in_err-draft.field-0.0 c.in_err-draft.ensures.answer c.begin.ensures.buffer)

pub returns-in-Ok-clause-drafted : goal.returns-in-Ok-clause-drafted
returns-in-Ok-clause-drafted g c =
    file_drafted _ (draft_state (of_blocks c.in_ok-draft.draft) c.begin.new.buffer) (draft_state (of_blocks c.put-put.new.self) c.put-put.new.buffer) (draft_state (of_blocks c.carry-carried.new.self) c.carry-carried.new.buffer)
    (draft_state (of_cells c.turn.result) c.carry-carried.new.buffer) (draft_state (of_cells c.lay-laid.result.0) c.lay-laid.new.buffer)
    (payload g.K.Kind.kind (g.K.Kind.numbers c.args.value) c.args.parts.now.text.now) _ _ _ _ _ _ (Ok c.in-Ok.size) c.in_ok-draft.ensures.law
    c.put-put.ensures.answer c.put-put.ensures.after c.put-put.ensures.given
    c.carry-carried.ensures.answer c.carry-carried.ensures.after c.carry-carried.ensures.given (ap (λ (n : Numbers). draft_state n c.carry-carried.new.buffer) c.turn.ensures)
    c.lay-laid.ensures.answer c.lay-laid.ensures.after c.lay-laid.ensures.given c.in-Ok.ensures.closed

pub returns-in-Err-clause-drafted : goal.returns-in-Err-clause-drafted
returns-in-Err-clause-drafted g c =
    file_drafted _ (draft_state (of_blocks c.in_ok-draft.draft) c.begin.new.buffer) (draft_state (of_blocks c.put-put.new.self) c.put-put.new.buffer) (draft_state (of_blocks c.carry-carried.new.self) c.carry-carried.new.buffer)
    (draft_state (of_cells c.turn.result) c.carry-carried.new.buffer) (draft_state (of_cells c.lay-laid.result.0) c.lay-laid.new.buffer)
    (payload g.K.Kind.kind (g.K.Kind.numbers c.args.value) c.args.parts.now.text.now) _ _ _ _ _ _ (Err c.in-Err.refused.0) c.in_ok-draft.ensures.law
    c.put-put.ensures.answer c.put-put.ensures.after c.put-put.ensures.given
    c.carry-carried.ensures.answer c.carry-carried.ensures.after c.carry-carried.ensures.given (ap (λ (n : Numbers). draft_state n c.carry-carried.new.buffer) c.turn.ensures)
    c.lay-laid.ensures.answer c.lay-laid.ensures.after c.lay-laid.ensures.given c.in-Err.ensures.refused.0
