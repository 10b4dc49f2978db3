use Rattle.std.proofs.Common.{◌<◌, rules, subst}
use Rattle.std.proofs.ByRecursion.{All-from_get_or}
use Rattle.buffers.specs.Words.{Bytes}
use Rattle.editor.proofs.working.WorkingFile.add.Goals as goal

pub returns-clause-given : goal.returns-clause-given
returns-clause-given g c = (
  g.met.K.Kind.keeps.key_size,
  subst Bytes c.key.ensures (All-from_get_or (λ x. x < 256) c.key.result 0 (λ i l. search rules)),
  c.write_at.ensures.bytes (search rules),
)
