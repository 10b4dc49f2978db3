-- Numbers, text and zeros, written one after the other, are what the kind writes.
use Rattle.std.proofs.Common.{sym}
use Rattle.kinds.proofs.Fields.{field_wrote}
use Rattle.records.specs.Rcvi.{rcvi_parts, rcvi_numbers, rcvi_most}
use Rattle.records.proofs.rcvi.RcviKind.write.Goals as goal

pub returns : goal.returns
returns c =
    let p = field_wrote rcvi_parts rcvi_most (rcvi_numbers c.args.value) c.args.text.now c.args.out.now c.put.new.out c.in_ok-size.size
    c.in_ok-size.ensures.answer c.put.ensures.buffer (sym c.if-not-put.ensures.answer) in
    record { answer = p.0; buffer = p.1 }
