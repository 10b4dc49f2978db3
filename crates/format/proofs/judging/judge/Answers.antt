use Rattle.std.proofs.Common.{◌<◌, ◌∙◌, arith}
use Rattle.std.proofs.ByRecursion.{All-from_get_or}
use Rattle.format.proofs.InOrder.{in_one, first_refusal, says_of_blocks}
use Rattle.format.proofs.Trip.{told}
use Rattle.format.proofs.Writing.{writing_changes}
use Rattle.format.proofs.judging.judge.Goals as goal

pub returns : goal.returns
returns c =
    let b = c.args.bytes.now in
    let bytes = All-from_get_or (λ x. x < 256) b 0 (λ i l. omega (arith, c.type_inv.bytes i)) in
    let exact = c.run_checks.ensures ∙ in_one b in
    record {
      exact = exact;
      first = rw exact (first_refusal b);
      blocks = rw exact (says_of_blocks b);
      content = told b bytes c.run_checks.result exact;
      changes = writing_changes;
    }
