use Rattle.headers.proofs.Turning.{Turn}
use Rattle.headers.proofs.filling.fill_fields.Given as goal

abbrev pub invariant-loop-number : goal.invariant-loop-number
invariant-loop-number g l = Turn l.initial.buffer (g.F.Filling.filling l.filling) l.values l.buffer l.number l.used
