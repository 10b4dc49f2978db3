-- A packed record is written as its kind writes it.
use Rattle.std.proofs.Common.{◌≡◌, length, Ok, Err, sym, ap, ◌∙◌, subst}
use Rattle.faults.specs.declared.refusal.Refusal.TheVariants.{ListOrTableTooShort}
use Rattle.faults.specs.Faults.{fault}
use Rattle.kinds.specs.Kind.{output_length, put_answer, put_buffer}
use Rattle.kinds.proofs.Records.{record_wrote, record_short}
use Rattle.kinds.proofs.packed.AnyKind.write.Goals as goal

pub returns : goal.returns
returns g c =
    let xs = g.R.Packed.numbers c.args.value in
    let text = c.args.text.now in
    let out = c.args.out.now in
    let after = c.pack.new.out in
    let n = c.in_ok-size.size in
    let e = subst (λ k. Ok n ≡ output_length (k.writes xs text)) g.met.R.Packed.packs c.in_ok-size.ensures.answer in
    let p = record_wrote g.R.Packed.parts xs text out after n e c.pack.ensures.buffer (sym c.if-not-pack.ensures.answer) in
    let q =
    subst
    (λ k. (Ok n ≡ put_answer (k.writes xs text) (length out)) × (after ≡ put_buffer (k.writes xs text) out))
    (sym g.met.R.Packed.packs) p in
    record { answer = q.0; buffer = q.1 }

pub returns-then-not-pack : goal.returns-then-not-pack
returns-then-not-pack g c =
    let xs = g.R.Packed.numbers c.args.value in
    let text = c.args.text.now in
    let out = c.args.out.now in
    let after = c.pack.new.out in
    let n = c.in_ok-size.size in
    let e = subst (λ k. Ok n ≡ output_length (k.writes xs text)) g.met.R.Packed.packs c.in_ok-size.ensures.answer in
    let p = record_short g.R.Packed.parts xs text out after n e c.pack.ensures.buffer (sym c.if-not-pack.ensures.answer) in
    let q =
    subst
    (λ k. (Err (fault ListOrTableTooShort n) ≡ put_answer (k.writes xs text) (length out))
    × (after ≡ put_buffer (k.writes xs text) out))
    (sym g.met.R.Packed.packs) p in
    record { answer = ap Err c.at.ensures ∙ q.0; buffer = q.1 }
