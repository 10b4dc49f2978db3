-- A kind that writes into the rest of a buffer writes at the place where the rest begins.
use Rattle.kinds.specs.Kind.{payload, payload_output}
use Rattle.kinds.proofs.Places.{put_in_rest, bytes_written}
use Rattle.kinds.proofs.writing.write_at.Goals as goal

pub returns-clause-buffer : goal.returns-clause-buffer
returns-clause-buffer g c =
    put_in_rest c.args.buf.now c.write.new.out
    (payload_output (payload g.K.Kind.kind (g.K.Kind.numbers c.args.value) c.args.text.now))
    c.args.at c.min-start.result c.min-start.ensures c.write.ensures.buffer

pub returns-clause-bytes : goal.returns-clause-bytes
returns-clause-bytes g c =
    bytes_written c.args.buf.now c.args.at
    (payload g.K.Kind.kind (g.K.Kind.numbers c.args.value) c.args.text.now) _
    (returns-clause-buffer g c) (λ i. (c.type_inv.buf i).fits)
