use Rattle.std.proofs.Common.{◌<◌, arith}
use Rattle.std.proofs.ByRecursion.{All-from_get_or}
use Rattle.draft.specs.Drafts.{lay}
use Rattle.draft.specs.Stages.{of_cells, draft_state}
use Rattle.draft.proofs.Follows.{follows_given}
use Rattle.draft.proofs.stages.CellStage.lay.Goals as goal

pub returns-then-is_err-clause-given : goal.returns-then-is_err-clause-given
returns-then-is_err-clause-given c = All-from_get_or (λ x. x < 256) c.args.bytes.now 0 (λ i l. omega (arith, c.type_inv.bytes i))

pub returns-clause-given : goal.returns-clause-given
returns-clause-given c = All-from_get_or (λ x. x < 256) c.args.bytes.now 0 (λ i l. omega (arith, c.type_inv.bytes i))

pub returns-then-is_err-clause-content : goal.returns-then-is_err-clause-content
returns-then-is_err-clause-content c =
    follows_given (lay c.args.bytes.now) (draft_state (of_cells c.args.self) c.args.buffer.now) tt tt (All-from_get_or (λ x. x < 256) c.args.bytes.now 0 (λ i l. omega (arith, c.type_inv.bytes i)))

pub returns-clause-content : goal.returns-clause-content
returns-clause-content c =
    follows_given (lay c.args.bytes.now) (draft_state (of_cells c.args.self) c.args.buffer.now) tt tt (All-from_get_or (λ x. x < 256) c.args.bytes.now 0 (λ i l. omega (arith, c.type_inv.bytes i)))
