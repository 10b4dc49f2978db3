use Rattle.std.proofs.Common.{sym, ap, ◌∙◌}
use Rattle.reader.specs.Answers.{blocks_answer}
use Rattle.kutsvame.proofs.Blocks.{not_walked}
use Rattle.kutsvame.proofs.judge.block_keys.Goals as goal

pub returns-in-Err : goal.returns-in-Err
returns-in-Err c =
    not_walked c.args.bytes.now c.args.verdict c.in-Err.field-0 _ c.requires
    (ap blocks_answer (sym c.of.ensures.bytes) ∙ c.in-Err.ensures) c.new-in-Err.ensures.bytes
