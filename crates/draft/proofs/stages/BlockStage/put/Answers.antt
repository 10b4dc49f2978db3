use Rattle.std.proofs.Common.{refl, ◌<◌, subst, rules}
use Rattle.std.proofs.ByRecursion.{All-from_get_or}
use Rattle.buffers.specs.Words.{Bytes}
use Rattle.kinds.specs.Kind.{payload}
use Rattle.draft.specs.Drafts.{put}
use Rattle.draft.specs.Stages.{draft_state, of_blocks}
use Rattle.draft.proofs.Blocks.{kind_put}
use Rattle.draft.proofs.Follows.{follows_refused, follows_given}
use Rattle.draft.proofs.stages.BlockStage.put.Goals as goal

pub returns-clause-given : goal.returns-clause-given
returns-clause-given g c = (
  g.met.K.Kind.keeps.key_size,
  subst Bytes c.key.ensures (All-from_get_or (λ x. x < 256) c.key.result 0 (λ i l. search rules)),
  c.write_at.ensures.bytes (search rules),
)

pub returns-clause-after : goal.returns-clause-after
returns-clause-after g c =
    kind_put (draft_state (of_blocks c.args.self.now) c.args.buffer.now) (of_blocks c.open-place.new.self) c.write_at.new.buf c.key.result (payload g.K.Kind.kind (g.K.Kind.numbers c.args.value) c.args.text.now) c.in_ok-body.body
    c.in_ok-body.ensures.body c.key.ensures g.met.K.Kind.keeps.key_size (search rules) (search rules) (search rules) c.open-place.ensures.stage (search rules)

pub returns-in_err-body-clause-content : goal.returns-in_err-body-clause-content
returns-in_err-body-clause-content g c =
    follows_refused (put (payload g.K.Kind.kind (g.K.Kind.numbers c.args.value) c.args.text.now)) (draft_state (of_blocks c.args.self.now) c.args.buffer.now) _ g.met.K.Kind.keeps.key_size refl c.in_err-body.ensures.refuses

pub returns-clause-content : goal.returns-clause-content
returns-clause-content g c =
    follows_given (put (payload g.K.Kind.kind (g.K.Kind.numbers c.args.value) c.args.text.now)) (draft_state (of_blocks c.args.self.now) c.args.buffer.now) g.met.K.Kind.keeps.key_size refl (returns-clause-given g c)
