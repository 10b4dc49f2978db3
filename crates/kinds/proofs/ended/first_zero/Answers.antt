-- The place that the search stops at is the count of bytes before the first zero.
use Rattle.std.proofs.Common.{◌≡◌, ◌<◌, refl, sym, ◌∙◌, arith, rules}
use Rattle.std.proofs.lemmas.Iterator.{YieldsList-from_slice, IsFirst-from_position, index_from_first}
use borrow.Author.Tests.{tests}
use Rattle.kinds.specs.Ended.{before_zero}
use Rattle.kinds.proofs.ended.first_zero.Goals as goal

pub returns : goal.returns
returns c =
    let first =
    IsFirst-from_position _ _ _ (λ x. x ≡ 0) (λ x. 0 < x)
    c.position.ensures.ran (YieldsList-from_slice c.args.bytes.now cc)
    (λ x q k. search (rules, tests)) (λ x q k. search (rules, tests)) in
    c.unwrap_or.ensures
    ∙ sym (index_from_first before_zero (λ x. x ≡ 0) (λ x. 0 < x) refl (λ x xs e. grind arith) (λ x xs h. grind arith) c.args.bytes.now _ first)
