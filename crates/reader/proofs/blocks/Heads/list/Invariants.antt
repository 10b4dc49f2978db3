use Rattle.std.proofs.Common.{◌≡◌, length, ◌++◌, take, drop}
use Rattle.reader.specs.Answers.{entries_from}
use Rattle.reader.proofs.blocks.Heads.list.Given as goal

abbrev pub invariant-loop-i : goal.invariant-loop-i
invariant-loop-i l = l.table ≡ take (length l.yielded) (entries_from l.fn.self.bytes.now l.fn.self.at l.fn.self.left) ++ drop (length l.yielded) l.initial.table
