-- A walk over the blocks of a file, as the definitions see it.
use Rattle.std.specs.Prelude.{List}
use Rattle.reader.specs.declared.blocks.Entry.{Entry}
use Rattle.reader.specs.declared.blocks.Heads.{Heads}
use Rattle.reader.specs.Answers.{entries_from}

-- the entries of the blocks that are left to a walk
abbrev pub entries_left : Heads → List Entry
entries_left heads = entries_from heads.bytes.now heads.at heads.left
