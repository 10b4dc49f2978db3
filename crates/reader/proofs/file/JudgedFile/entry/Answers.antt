use Rattle.std.proofs.Common.{◌≡◌, ◌-◌, ◌≤◌, Ok, sym, ◌∙◌, rules}
use Rattle.std.proofs.lemmas.Iterator.Adapters.{option_map_id}
use Rattle.std.proofs.lemmas.Iterator.Consumers.{nth_from_yields_List, YieldsList-from_first}
use Rattle.std.specs.List.{slice_get}
use Rattle.std.specs.Option.{ok_or}
use Rattle.format.specs.Checks.{all_of, ◌then◌}
use Rattle.reader.specs.declared.blocks.Entry.{Entry}
use Rattle.reader.specs.declared.blocks.Heads.{Heads}
use Rattle.reader.specs.Answers.{block_place, entry_at, entries, entries_from}
use Rattle.reader.specs.Levels.{block_conditions}
use Rattle.reader.proofs.Asked.{entry_found, entry_inside}
use Rattle.reader.proofs.file.JudgedFile.entry.Goals as goal

pub returns : goal.returns
returns c =
    let b = c.args.self.now.bytes.now in
    let l = c.args.layout in
    let k = c.args.number in
    let before = c.in_ok-before.before in
    let from : 1 ≤ k = search rules in
    let is : before ≡ k - 1 = search rules in
    let met : c.nth.result ≡ slice_get (entries b l.blocks) before =
    sym (option_map_id c.nth.result)
    ∙ nth_from_yields_List c.nth.result c.nth.new.self before c.nth.ensures.ran
    (YieldsList-from_first (λ (x : Entry). x) (λ (heads : Heads). entries_from heads.bytes.now heads.at heads.left) (entries b l.blocks) c.heads.ensures.all) in
    let exact : c.ok_or-2.result ≡ (all_of (block_conditions l.version l.blocks k) then Ok (entry_at b (block_place b (k - 1)))) =
    c.ok_or-2.ensures.value
    ∙ (λ i. ok_or (met i) (c.at-none.ensures i))
    ∙ entry_found b l k before c.if-layout-lt6.false from is in
    record { exact = exact; inside = entry_inside b l k c.ok_or-2.result c.requires exact }
