use Rattle.std.proofs.Common.{refl, ◌<◌, arith, rules}
use Rattle.std.proofs.ByRecursion.{All-from_get_or}
use Rattle.draft.specs.Drafts.{carried}
use Rattle.draft.specs.Stages.{draft_state, of_blocks}
use Rattle.draft.proofs.Blocks.{carry_put}
use Rattle.draft.proofs.Follows.{follows_given}
use Rattle.draft.proofs.stages.BlockStage.carry.Goals as goal

pub returns-clause-given : goal.returns-clause-given
returns-clause-given c = (
  search rules,
  All-from_get_or (λ x. x < 256) c.args.key 0 (λ i l. search rules),
  All-from_get_or (λ x. x < 256) c.args.body.now 0 (λ i l. omega (arith, c.type_inv.body i)),
)

pub returns-in_err-check_room-clause-given : goal.returns-in_err-check_room-clause-given
returns-in_err-check_room-clause-given c = (
  search rules,
  All-from_get_or (λ x. x < 256) c.args.key 0 (λ i l. search rules),
  All-from_get_or (λ x. x < 256) c.args.body.now 0 (λ i l. omega (arith, c.type_inv.body i)),
)

pub returns-in_err-check_room-clause-content : goal.returns-in_err-check_room-clause-content
returns-in_err-check_room-clause-content c =
    follows_given (carried c.args.key c.args.body.now) (draft_state (of_blocks c.args.self.now) c.args.buffer.now) (search rules) refl (returns-in_err-check_room-clause-given c)

pub returns-clause-content : goal.returns-clause-content
returns-clause-content c =
    follows_given (carried c.args.key c.args.body.now) (draft_state (of_blocks c.args.self.now) c.args.buffer.now) (search rules) refl (returns-clause-given c)

pub returns-clause-after : goal.returns-clause-after
returns-clause-after c =
    carry_put (draft_state (of_blocks c.args.self.now) c.args.buffer.now) (of_blocks c.open-place.new.self) c.write_bytes.new.buf c.args.key c.args.body.now
    (search rules) (search rules) (search rules) (search rules) c.open-place.ensures.stage (search rules)
