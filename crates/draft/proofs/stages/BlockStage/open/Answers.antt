use Rattle.std.proofs.Common.{◌-◌, rules}
use Rattle.headers.proofs.Written.{following_written}
use Rattle.draft.specs.Stages.{of_blocks, end_with_block}
use Rattle.draft.proofs.stages.BlockStage.open.Goals as goal

pub returns-clause-buffer : goal.returns-clause-buffer
returns-clause-buffer c =
    let end = end_with_block (of_blocks c.args.self.now) c.args.body in
    let settled = following_written c.args.buffer.now c.write_following.new.buffer end (end - 104) (search rules) (search rules) (search rules) c.write_following.ensures.buffer in
    search rules
