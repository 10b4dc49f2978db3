-- A text is written as its label's kind writes it.
use Rattle.std.proofs.Common.{[], sym, ap, rules}
use Rattle.kinds.specs.Kind.{put_buffer}
use Rattle.texts.proofs.text.TextKind.write.Goals as goal

pub returns-clause-buffer : goal.returns-clause-buffer
returns-clause-buffer g c =
    let writes = ap (λ k. put_buffer (k.writes [] c.args.text.now) c.args.out.now) (sym g.L.Label.ends) in search rules
