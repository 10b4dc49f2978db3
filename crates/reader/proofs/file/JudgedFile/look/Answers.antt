use Rattle.reader.proofs.Sights.{text_inside}
use Rattle.reader.proofs.file.JudgedFile.look.Goals as goal

pub returns-clause-inside : goal.returns-clause-inside
returns-clause-inside g c =
    let b = c.args.self.now.bytes.now in
    let at = c.in_ok-entry.entry.place in
    let r = c.look_at.result in
    let numbers = g.K.Kind.numbers in
    let kind = g.K.Kind.kind in
    let room = c.in_ok-entry.ensures.inside in
    text_inside numbers kind g.met.K.Kind.keeps _ at b r room c.look_at.ensures
