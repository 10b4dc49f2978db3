use Rattle.std.proofs.Common.{◌≡◌, ℕ, ◌<◌, List, length, get_or, set, ap, ◌∙◌, rules, arith}
use Rattle.std.proofs.lemmas.Iterator.Consumers.{YieldsList-from_first}
use Rattle.std.proofs.lemmas.List.{length_push}
use Rattle.reader.specs.declared.blocks.Entry.{Entry}
use Rattle.reader.specs.declared.blocks.Heads.{Heads}
use Rattle.reader.specs.Answers.{entries_from}
use Rattle.reader.proofs.Fill.{fill_more, fill_all, numbered_turn, numbered_end}
use Rattle.reader.proofs.Place.{walk_length}
use Rattle.reader.proofs.blocks.Heads.list.Goals.{In-Some}
use Rattle.reader.proofs.blocks.Heads.list.Goals as goal

-- the entries that are left to a walk
abbrev walk : Heads → List Entry
walk heads = entries_from heads.bytes.now heads.at heads.left

-- a turn's entry is that of the walk at its number, and has room in the table
turn : (c : In-Some) → (c.in-Some.i ≡ length c.loop-i.yielded) × (c.in-Some.i < length c.args.table.now) × (length c.loop-i.yielded < length (walk c.args.self))
    × (c.in-Some.entry ≡ get_or (walk c.args.self) (length c.loop-i.yielded) c.in-Some.entry)
turn c =
    let t =
    numbered_turn (walk c.args.self) (YieldsList-from_first (λ (x : Entry). x) walk (walk c.args.self) (search rules)) (search rules)
    c.loop-i.yielded c.loop-i.i-iterator c.loop-i.yielded_by c.next.result c.next.new.self c.in-Some.i c.in-Some.entry c.in-Some.is c.next.ensures.steps in
    let count = walk_length c.args.self.bytes.now c.args.self.at c.args.self.left in
    (t.0, omega (arith, t.0, t.1), t.1, t.2)

pub offset_bounds-table-i : goal.offset_bounds-table-i
offset_bounds-table-i c =
    let room = (turn (goal.at.offset_bounds-table-i c).In-Some).1 in
    search rules

pub bounds-table-i : goal.bounds-table-i
bounds-table-i c =
    let room = (turn (goal.at.bounds-table-i c).In-Some).1 in
    search rules

pub loop-i-preserved : goal.loop-i-preserved
loop-i-preserved c =
    let t = turn (goal.at.loop-i-preserved c).In-Some in
    let k = length c.loop-i.yielded in
    let count = walk_length c.args.self.bytes.now c.args.self.at c.args.self.left in
    let more = fill_more (walk c.args.self) c.args.table.now c.loop-i.table k c.in-Some.entry t.2 (omega arith) c.loop-i.invariant t.3 in
    let next = length_push c.loop-i.yielded (c.in-Some.i, c.in-Some.entry) in
    ap (λ (i : ℕ). set c.loop-i.table i c.in-Some.entry) t.0 ∙ (rw next more)

pub returns : goal.returns
returns c =
    let all =
    numbered_end (walk c.args.self) (YieldsList-from_first (λ (x : Entry). x) walk (walk c.args.self) (search rules)) (search rules)
    c.loop-i.yielded c.loop-i.i-iterator c.loop-i.yielded_by c.next.result c.next.new.self c.in-None.is c.next.ensures.steps in
    fill_all (walk c.args.self) c.args.table.now c.loop-i.table (length c.loop-i.yielded) all c.loop-i.invariant
