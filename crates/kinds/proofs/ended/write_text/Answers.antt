-- A text and its zero, written one after the other, are what writing the text leaves.
use Rattle.std.proofs.Common.{◌≡◌, ◌+◌, length, arith, rules}
use Rattle.kinds.proofs.Texts.{text_wrote, text_size}
use Rattle.kinds.proofs.ended.write_text.Goals as goal

pub returns-clause-buffer : goal.returns-clause-buffer
returns-clause-buffer c =
    let text = c.args.text.now in
    let out = c.args.out.now in
    let size : c.in_ok-size.size ≡ length text + 1 = text_size c.args.most text c.in_ok-size.size c.in_ok-size.ensures.exact in
    (text_wrote c.args.most text out c.write_word.new.buf c.in_ok-size.size c.in_ok-size.ensures.exact (omega arith) (search rules)).1
