use Rattle.std.proofs.Common.{rules}
use Rattle.headers.proofs.Written.{extent_turn}
use Rattle.headers.proofs.extents.write_extents.Goals as goal

pub loop-extent-preserved : goal.loop-extent-preserved
loop-extent-preserved c =
    extent_turn c.args.buffer.now c.loop-extent.buffer c.write_extent.new.buffer c.args.version c.args.start c.loop-extent.extent-index _ (search rules)
    c.loop-extent.invariant c.write_extent.ensures
