use Rattle.std.proofs.Common.{◌≡◌, length, ◌++◌, take, drop}
use Rattle.reader.specs.Answers.{patterns}
use Rattle.reader.proofs.rows.copy_numbers.Given as goal

abbrev pub invariant-loop-i : goal.invariant-loop-i
invariant-loop-i l = l.list ≡ take (length l.yielded) (patterns l.bytes) ++ drop (length l.yielded) l.initial.list
