-- A packed record is as long as what its kind writes.
use Rattle.std.proofs.Common.{◌≡◌, sym, ◌∙◌, subst}
use Rattle.kinds.specs.Kind.{output_length}
use Rattle.kinds.proofs.Records.{record_measured}
use Rattle.kinds.proofs.packed.AnyKind.measure.Goals as goal

pub returns-clause-answer : goal.returns-clause-answer
returns-clause-answer g c =
    let xs = g.R.Packed.numbers c.args.value in
    let text = c.args.text.now in
    subst (λ k. c.measure_record.result ≡ output_length (k.writes xs text)) (sym g.met.R.Packed.packs)
    (c.measure_record.ensures.exact ∙ record_measured g.R.Packed.parts xs text c.size.result c.size.ensures.fits c.size.ensures.exact)
