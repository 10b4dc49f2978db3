use Rattle.std.proofs.Common.{ℕ, List, Ok, sym, ap, ◌∙◌, rules}
use Rattle.std.proofs.lemmas.List.{take_at}
use Rattle.printed.proofs.Reading.{row_read}
use Rattle.printed.proofs.rows.row_patterns.Goals as goal

pub returns : goal.returns
returns c =
    let answered = sym c.row.ensures.answer ∙ c.in_ok-length.was in
    let fits = sym c.numbers.ensures.answer ∙ c.in_ok-numbers.was in
    let kept = take_at c.numbers.new.list _ c.in_ok-list.list.len (search rules) in
    row_read c.args.file.now.bytes.now c.args.at.level c.args.at.cell c.args.at.row _ c.as_mut_slice.result.now
    c.numbers.new.list answered (search rules) (search rules) fits c.numbers.ensures.list
    ∙ ap (λ (l : List ℕ). Ok l) (sym kept)
