use Rattle.std.proofs.Common.{◌++◌, codes, string_bytes, rules}
use Rattle.std.proofs.lemmas.List.{append_assoc, take_all}
use Rattle.printed.proofs.MoreFields.{one_more, whole_list}
use Rattle.printed.proofs.named.field_list.Goals as goal

pub loop-field-preserved : goal.loop-field-preserved
loop-field-preserved c =
    (c.loop-field.invariant.0 ++ (codes ", " ++ string_bytes c.in_ok-more.more), (search (rules, append_assoc), search (rules, one_more)))

pub returns : goal.returns
returns c =
    whole_list c.args.fields.now c.in-Some.rest.now c.in-Some.first.now (string_bytes c.in_ok-list.list) c.loop-field.invariant.0
    (string_bytes c.loop-field.list) (search rules) c.loop-field.invariant.1.0 (search rules) (search (rules, take_all))
