use Rattle.std.proofs.Common.{◌≡◌, length, get_or, set, sym, ap, ◌∙◌, subst, rules, arith}
use Rattle.std.proofs.lemmas.Iterator.{YieldsList}
use Rattle.std.proofs.lemmas.List.{length_push}
use Rattle.std.specs.Slice.Iter.{chunks_exact_steps}
use Rattle.buffers.specs.Words.{word32}
use Rattle.reader.specs.Answers.{patterns}
use Rattle.reader.proofs.Fill.{fill_more, fill_all, numbered_turn, numbered_end}
use Rattle.reader.proofs.Numbers.{chunks_are, pattern_count}
use Rattle.reader.proofs.rows.copy_numbers.Goals.{After-into_iter-i-iterator}
use Rattle.reader.proofs.rows.copy_numbers.Goals as goal

-- the loop goes over the numbers of the bytes
road : (c : After-into_iter-i-iterator) → YieldsList chunks_exact_steps (λ w. word32 w.now 0) c.into_iter-i-iterator.result.iter (patterns c.args.bytes.now)
road c =
    let rest : c.into_iter-i-iterator.result.iter.rest.now ≡ c.args.bytes.now = search rules in
    subst (λ b. YieldsList chunks_exact_steps (λ w. word32 w.now 0) c.into_iter-i-iterator.result.iter (patterns b)) rest (chunks_are c.into_iter-i-iterator.result.iter (search rules))

from_zero : (c : After-into_iter-i-iterator) → c.into_iter-i-iterator.result.count ≡ 0
from_zero c = search rules

pub loop-i-preserved : goal.loop-i-preserved
loop-i-preserved c =
    let made = (goal.at.loop-i-preserved c).After-into_iter-i-iterator in
    let new = patterns c.args.bytes.now in
    let k = length c.loop-i.yielded in
    let turn = numbered_turn new (road made) (from_zero made) c.loop-i.yielded c.loop-i.i-iterator c.loop-i.yielded_by c.next.result c.next.new.self c.in-Some.i c.in-Some.word c.in-Some.is c.next.ensures.steps in
    let count = pattern_count c.args.bytes.now in
    let here = subst (λ x. x ≡ get_or new k x) (sym c.at.ensures) turn.2 in
    let more = fill_more new c.args.list.now c.loop-i.list k c.at.result turn.1 (omega arith) c.loop-i.invariant here in
    let next = length_push c.loop-i.yielded (c.in-Some.i, c.in-Some.word) in
    ap (λ i. set c.loop-i.list i c.at.result) turn.0 ∙ (rw next more)

pub returns : goal.returns
returns c =
    let made = (goal.at.returns c).After-into_iter-i-iterator in
    let new = patterns c.args.bytes.now in
    let all = numbered_end new (road made) (from_zero made) c.loop-i.yielded c.loop-i.i-iterator c.loop-i.yielded_by c.next.result c.next.new.self c.in-None.is c.next.ensures.steps in
    fill_all new c.args.list.now c.loop-i.list (length c.loop-i.yielded) all c.loop-i.invariant
