-- What is copied when a row or a cell begins: all numbers before it.
use Rattle.std.proofs.Common.{◌≡◌, ◌*◌, ◌≤◌}
use Rattle.reader.specs.Judged.{judged_bytes}
use Rattle.exports.specs.Rows.{number_at, count_of, bytes_before, copied}
use Rattle.exports.proofs.copy_rows.Given as goal

abbrev pub invariant-loop-cell : goal.invariant-loop-cell
invariant-loop-cell l =
    (4 * l.end ≡ bytes_before l.layout l.cell 1) × (l.end ≤ count_of l.layout)
    × (l.list ≡ copied (number_at (judged_bytes l.file) l.layout) 0 l.end l.fn.list)

abbrev pub invariant-loop-row : goal.invariant-loop-row
invariant-loop-row l =
    (4 * l.end ≡ bytes_before l.layout l.cell l.row) × (l.end ≤ count_of l.layout)
    × (l.list ≡ copied (number_at (judged_bytes l.file) l.layout) 0 l.end l.fn.list)
