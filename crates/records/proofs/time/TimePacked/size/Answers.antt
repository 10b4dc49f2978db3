-- The numbers of a TIME fit their parts.
use Rattle.std.proofs.Common.{rules}
use Rattle.std.proofs.lemmas.Bool.{and_from, lt-ltb}
use Rattle.records.proofs.time.TimePacked.size.Goals as goal

pub returns-clause-fits : goal.returns-clause-fits
returns-clause-fits c = search (rules, and_from, lt-ltb)
