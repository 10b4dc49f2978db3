use Rattle.headers.proofs.Turning.{Counted}
use Rattle.headers.proofs.filling.values_wanted.Given as goal

abbrev pub invariant-loop-number : goal.invariant-loop-number
invariant-loop-number g l = Counted (g.F.Filling.filling l.filling) l.number l.wanted
