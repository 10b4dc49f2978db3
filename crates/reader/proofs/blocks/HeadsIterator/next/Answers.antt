use Rattle.std.proofs.Common.{◌<◌, rules}
use Rattle.reader.proofs.Place.{rest_inside}
use Rattle.reader.proofs.blocks.HeadsIterator.next.Goals as goal

pub invariant_of-self : goal.invariant_of-self
invariant_of-self c =
    let heads = c.args.self.now in
    let less : c.in_ok-self.field-0 < heads.left = search rules in
    record { inside = rest_inside heads.bytes.now heads.at heads.left c.in_ok-self.field-0 c.read_entry-entry.result heads.inside less c.read_entry-entry.ensures }
