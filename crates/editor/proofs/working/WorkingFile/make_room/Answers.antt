use Rattle.std.proofs.Common.{rules}
use Rattle.headers.proofs.Written.{following_written}
use Rattle.editor.proofs.working.WorkingFile.make_room.Goals as goal

pub returns-clause-buffer : goal.returns-clause-buffer
returns-clause-buffer c =
    let settled = following_written c.open.new.buffer c.write_following.new.buffer c.args.patch.start c.args.patch.section (search rules) c.requires.start_from (search rules) c.write_following.ensures.buffer in
    search rules
