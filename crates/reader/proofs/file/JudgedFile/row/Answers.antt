use Rattle.reader.proofs.Agree.{row_inside_if}
use Rattle.reader.proofs.file.JudgedFile.row.Goals as goal

pub returns-clause-inside : goal.returns-clause-inside
returns-clause-inside c =
    row_inside_if c.args.self.now.bytes.now c.in_ok-layout.layout c.args.at.level c.args.at.cell c.args.at.row c.span_of.result
    c.in_ok-layout.ensures.exact c.span_of.ensures
