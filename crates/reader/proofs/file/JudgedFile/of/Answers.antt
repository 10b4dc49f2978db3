use Rattle.std.proofs.Common.{◌<◌, arith}
use Rattle.std.proofs.ByRecursion.{All-from_get_or}
use Rattle.reader.proofs.Written.{read_file}
use Rattle.reader.proofs.Agree.{agreed}
use Rattle.reader.proofs.file.JudgedFile.of.Goals as goal

pub returns-clause-agree : goal.returns-clause-agree
returns-clause-agree c = agreed c.args.bytes.now

pub returns-clause-read : goal.returns-clause-read
returns-clause-read c = read_file c.args.bytes.now (All-from_get_or (λ x. x < 256) c.args.bytes.now 0 (λ i l. omega (arith, c.type_inv.bytes i)))
