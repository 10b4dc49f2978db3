use Rattle.std.proofs.Common.{ap, ◌∙◌, arith}
use Rattle.std.specs.Option.{ok_or}
use Rattle.reader.proofs.Spans.{row_placed}
use Rattle.reader.proofs.rows.span_of.Goals as goal

pub overflow_cast-result : goal.overflow_cast-result
overflow_cast-result c =
    let t = row_placed c.args.layout c.args.at.cell c.args.at.row (c.in_ok-place.place, c.in_ok-place.length) c.at-none.result
    (c.in_ok-place.ensures.value ∙ ap (λ x. ok_or x c.at-none.result) c.row_in.ensures) in
    omega (arith, t, c.requires)

pub overflow_add-result : goal.overflow_add-result
overflow_add-result c =
    let t = row_placed c.args.layout c.args.at.cell c.args.at.row (c.in_ok-place.place, c.in_ok-place.length) c.at-none.result
    (c.in_ok-place.ensures.value ∙ ap (λ x. ok_or x c.at-none.result) c.row_in.ensures) in
    omega (arith, t, c.requires)
