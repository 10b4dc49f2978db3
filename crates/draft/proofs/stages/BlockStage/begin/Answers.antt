use Rattle.std.proofs.Common.{◌≡◌, ◌+◌, Err, refl, arith, rules, ap, sym, ◌∙◌}
use Rattle.format.specs.Checks.{passed}
use Rattle.format.specs.Header.{header_end}
use Rattle.format.specs.InBuffer.{capacity}
use Rattle.draft.specs.Stages.{of_blocks, begun_buffer}
use Rattle.draft.proofs.Beginning.{refused, cramped, accepted, begun_law}
use Rattle.draft.proofs.Opened.{opens, stands_begun, header_written}
use Rattle.draft.proofs.stages.BlockStage.begin.Goals as goal

pub returns-in_err-check-clause-answer : goal.returns-in_err-check-clause-answer
returns-in_err-check-clause-answer c =
    let e : passed c.from_residual.result ≡ Err c.in_err-check.field-0.0 = search rules in
    e ∙ sym (ap passed (refused (capacity c.args.buffer.now) c.args.start c.args.values.now c.in_err-check.field-0.0 c.in_err-check.ensures.refuses))

pub returns-in_err-check-clause-buffer : goal.returns-in_err-check-clause-buffer
returns-in_err-check-clause-buffer c =
    sym (ap (begun_buffer c.args.buffer.now) (refused (capacity c.args.buffer.now) c.args.start c.args.values.now c.in_err-check.field-0.0 c.in_err-check.ensures.refuses))

pub returns-in_err-check_room-clause-answer : goal.returns-in_err-check_room-clause-answer
returns-in_err-check_room-clause-answer c =
    let o = opens c.args.start c.args.values.now c.in_ok-check.ensures.version (search rules) c.in_ok-check.ensures.bins c.in_ok-check.ensures.ranges (λ i. omega (arith, c.type_inv.values i)) in
    let e : passed c.from_residual-in_err-check_room.result ≡ Err c.in_err-check_room.field-0.0 = search rules in
    let size : c.draft-draft.result.size + 0 ≡ header_end c.args.start.version = search rules in
    e ∙ sym (ap passed (cramped (capacity c.args.buffer.now) c.args.start c.args.values.now o c.in_ok-check.ensures.refuses (c.draft-draft.result.size + 0) size c.in_err-check_room.field-0.0 c.in_err-check_room.ensures.refuses))

pub returns-in_err-check_room-clause-buffer : goal.returns-in_err-check_room-clause-buffer
returns-in_err-check_room-clause-buffer c =
    let o = opens c.args.start c.args.values.now c.in_ok-check.ensures.version (search rules) c.in_ok-check.ensures.bins c.in_ok-check.ensures.ranges (λ i. omega (arith, c.type_inv.values i)) in
    let size : c.draft-draft.result.size + 0 ≡ header_end c.args.start.version = search rules in
    sym (ap (begun_buffer c.args.buffer.now) (cramped (capacity c.args.buffer.now) c.args.start c.args.values.now o c.in_ok-check.ensures.refuses (c.draft-draft.result.size + 0) size c.in_err-check_room.field-0.0 c.in_err-check_room.ensures.refuses))

pub returns-clause-answer : goal.returns-clause-answer
returns-clause-answer c =
    let o = opens c.args.start c.args.values.now c.in_ok-check.ensures.version (search rules) c.in_ok-check.ensures.bins c.in_ok-check.ensures.ranges (λ i. omega (arith, c.type_inv.values i)) in
    let size : c.draft-draft.result.size + 0 ≡ header_end c.args.start.version = search rules in
    sym (ap passed (accepted (capacity c.args.buffer.now) c.args.start c.args.values.now o c.in_ok-check.ensures.refuses (c.draft-draft.result.size + 0) size c.in_ok-check_room.ensures.refuses))

pub returns-clause-buffer : goal.returns-clause-buffer
returns-clause-buffer c =
    let o = opens c.args.start c.args.values.now c.in_ok-check.ensures.version (search rules) c.in_ok-check.ensures.bins c.in_ok-check.ensures.ranges (λ i. omega (arith, c.type_inv.values i)) in
    let size : c.draft-draft.result.size + 0 ≡ header_end c.args.start.version = search rules in
    let w = header_written c.args.buffer.now c.args.start c.args.values.now c.in_ok-check.ensures.version.0 c.in_ok-check.ensures.version.1 (search rules) o in
    c.put_header.ensures ∙ w ∙ sym (ap (begun_buffer c.args.buffer.now) (accepted (capacity c.args.buffer.now) c.args.start c.args.values.now o c.in_ok-check.ensures.refuses (c.draft-draft.result.size + 0) size c.in_ok-check_room.ensures.refuses))

pub returns-clause-stage : goal.returns-clause-stage
returns-clause-stage c =
    let o = opens c.args.start c.args.values.now c.in_ok-check.ensures.version (search rules) c.in_ok-check.ensures.bins c.in_ok-check.ensures.ranges (λ i. omega (arith, c.type_inv.values i)) in
    let e = c.draft-draft.ensures in
    stands_begun c.args.start c.args.values.now (of_blocks (record { draft = c.draft-draft.result })) c.in_ok-check.ensures.version.0 c.in_ok-check.ensures.version.1 c.in_ok-check.ensures.bins c.in_ok-check.ensures.ranges o e.version e.cells e.cell e.size refl

pub returns-clause-law : goal.returns-clause-law
returns-clause-law c =
    let o = opens c.args.start c.args.values.now c.in_ok-check.ensures.version (search rules) c.in_ok-check.ensures.bins c.in_ok-check.ensures.ranges (λ i. omega (arith, c.type_inv.values i)) in
    let w = header_written c.args.buffer.now c.args.start c.args.values.now c.in_ok-check.ensures.version.0 c.in_ok-check.ensures.version.1 (search rules) o in
    begun_law c.args.buffer.now c.put_header.new.buffer c.args.start c.args.values.now (of_blocks (record { draft = c.draft-draft.result })) refl (returns-clause-stage c) (c.put_header.ensures ∙ w)
