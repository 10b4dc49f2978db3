use Rattle.std.proofs.Common.{arith, rules}
use Rattle.format.proofs.Heads.{head_put}
use Rattle.format.proofs.head.BlockHead.write.Goals as goal

pub returns-then-write_bytes-clause-buffer : goal.returns-then-write_bytes-clause-buffer
returns-then-write_bytes-clause-buffer c =
    let key = c.as_slice.ensures in
    head_put c.args.buffer.now c.write_bytes.new.buf c.write_word.new.buf c.args.self.key c.args.at c.args.self.size
    (search rules) (omega (arith, c.if-at-buffer.false, c.if-buffer-at-lt-SIZE.false)) (rw key at c.write_bytes.ensures.buffer) c.write_word.ensures.buffer
