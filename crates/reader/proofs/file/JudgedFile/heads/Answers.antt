use Rattle.reader.proofs.Place.{walk_meets}
use Rattle.reader.proofs.file.JudgedFile.heads.Goals as goal

pub returns-clause-all : goal.returns-clause-all
returns-clause-all c = walk_meets c.args.self.now.bytes.now c.args.layout.blocks
