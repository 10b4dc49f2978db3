use Rattle.std.proofs.Common.{◌≡◌, ◌-◌, ◌≤◌}
use Rattle.format.specs.Section.{blocks_from, section_blocks}
use Rattle.format.proofs.section.count_blocks.Given as goal

-- The walk from here on has the outcome of the whole walk.
abbrev pub invariant-loop-at : goal.invariant-loop-at
invariant-loop-at l =
    (104 ≤ l.at) × (l.at ≤ l.end) × (l.count ≤ l.at) × (blocks_from l.bytes l.end l.at l.count ≡ section_blocks l.bytes l.end)

abbrev pub decreases-loop-at : goal.decreases-loop-at
decreases-loop-at l = l.end - l.at
