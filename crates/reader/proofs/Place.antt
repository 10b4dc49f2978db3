-- Where the parts of an accepted file stand.
use Rattle.std.proofs.Common.{◌≡◌, ℕ, zero, suc, ◌+◌, ◌-◌, ◌<◌, ◌≤◌, cond, ltb, List, ◌∷◌, map, length, is_ok, IfOk, Ok, Err, Result, sym, refl, ap, ◌∙◌, subst, ⊎_elim, add-one, arith}
use Rattle.std.proofs.lemmas.Result.{MatchResult-at_ok}
use Rattle.std.proofs.lemmas.Bool.{cases_lt, lt-ltb}
use Rattle.std.proofs.lemmas.Bool.Decides.{nat_tests}
use Rattle.std.specs.List.{range_with_len}
use Rattle.faults.specs.declared.fault.Fault.{Fault}
use Rattle.format.specs.declared.judging.Layout.{Layout}
use Rattle.format.specs.Checks.{IsPassed, IsFirstFault}
use Rattle.format.specs.Header.{version, header_end, data_start, section_size}
use Rattle.format.specs.Judging.{judged, layout_of, checks, IsFilled, IsCutThere}
use Rattle.format.specs.Section.{block_end, IsBlockRow, none, more}
use Rattle.format.proofs.InOrder.{first_refusal, says_of_blocks}
use Rattle.format.specs.Sizes.{early_ranges, early_bins, most_ranges, most_bins}
use Rattle.format.proofs.Rules.{Rules, first_covers, judged_tells}
use Rattle.reader.specs.declared.blocks.Entry.{Entry}
use Rattle.reader.specs.Answers.{place_after, block_place, IsBlocksInside, entry_at, entries_from, entries}
use Rattle.reader.specs.Laws.{IsPlaced}
use Rattle.reader.specs.Levels.{accepted_layout, or_no_file, file_layout, layout_of_file}

-- the layout that is held is the one that judging answers
judged_by : (r : Result Layout Fault) (l : Layout) → or_no_file (accepted_layout r) ≡ Ok l → r ≡ Ok l
judged_by (Ok m) l e = e
judged_by (Err f) l e = let z : ◌≡◌ {A = ℕ} 0 1 = cc in absurd (omega arith)

pub held_judged : (b : List ℕ) (l : Layout) → layout_of_file b ≡ Ok l → judged b ≡ Ok l
unfolding layout_of_file file_layout
held_judged b l e = judged_by (judged b) l e

-- one block before n others, or behind them
pub shift : (b : List ℕ) (at n : ℕ) → place_after b (block_end b at) n ≡ block_end b (place_after b at n)
shift b at zero = refl
shift b at (suc n) = ap (block_end b) (shift b at n)

-- the blocks behind the first lie in the bytes too
pub rest_inside : (b : List ℕ) (at n left : ℕ) (e : Entry) → IsBlocksInside b at n → left < n → e ≡ entry_at b at → IsBlocksInside b (at + (8 + e.size)) left
rest_inside b at n left e inside less is k l =
    let next : at + (8 + e.size) ≡ block_end b at = ap (λ (x : Entry). at + (8 + x.size)) is ∙ (omega arith) in
    let there : place_after b (at + (8 + e.size)) k ≡ block_end b (place_after b at k) = ap (λ (x : ℕ). place_after b x k) next ∙ shift b at k in
    subst (λ (x : ℕ). block_end b x ≤ length b) (sym there) (inside (suc k) (omega arith))

-- it lists as many entries as there are blocks
pub walk_length : (b : List ℕ) (at n : ℕ) → length (entries_from b at n) ≡ n
walk_length b at zero = refl
walk_length b at (suc n) = ap suc (walk_length b (block_end b at) n)

-- a walk from block k on meets that block and the next ones
along : (b : List ℕ) (k at n : ℕ) → at ≡ block_place b k → entries_from b at n ≡ map (λ i. entry_at b (block_place b i)) (range_with_len k n)
along b k at zero e = refl
along b k at (suc n) e =
    let head = ap (entry_at b) e in
    let rest = along b (k + 1) (block_end b at) n (ap (block_end b) e ∙ ap (block_place b) (sym (add-one k))) in
    λ i. head i ∷ rest i

pub walk_meets : (b : List ℕ) (n : ℕ) → entries_from b 104 n ≡ entries b n
walk_meets b n = along b 0 104 n refl

-- blocks that stand one behind the other end where the last does, and each within the bounds
pub reaches : {b : List ℕ} {end at to n : ℕ} → IsBlockRow b end at to n → place_after b at n ≡ to
reaches none = refl
reaches {b} {end} {at} (more {n = n} h r) = sym (shift b at n) ∙ reaches r

pub within : {b : List ℕ} {end at to n : ℕ} → IsBlockRow b end at to n → (k : ℕ) → k < n → block_end b (place_after b at k) ≤ end
within none k l = absurd (omega arith)
within (more h r) zero l = h
within {b} {end} {at} (more h r) (suc k) l = subst (λ (x : ℕ). block_end b x ≤ end) (shift b at k) (within r k (omega arith))

-- what judging says of an accepted file
pub layout_is : (b : List ℕ) (l : Layout) → judged b ≡ Ok l → l ≡ layout_of b
layout_is b l e = (MatchResult-at_ok (λ m. (m ≡ layout_of b) × IsPassed (checks b)) (IsFirstFault (checks b)) l e (first_refusal b)).0

pub rules_of : (b : List ℕ) (l : Layout) → judged b ≡ Ok l → Rules b (version b)
rules_of b l e = (judged_tells b).0 (ap is_ok e)

pub filled_of : (b : List ℕ) (l : Layout) → judged b ≡ Ok l → IsFilled b l
filled_of b l e = MatchResult-at_ok (IsFilled b) (IsCutThere b) l e (says_of_blocks b)

-- the data begin behind the header and the section
starts_behind : (b : List ℕ) (v : ℕ) → Rules b v → header_end v + section_size b v ≤ data_start b
starts_behind b v rules =
    let reach = (first_covers b v rules).1 in
    ⊎_elim
    (λ (l : v < 6). let none : section_size b v ≡ 0 = rw (lt-ltb v 6 l) in omega arith)
    (λ (l : 6 ≤ v). let room = rules.section_inside l in let end : header_end v ≡ 104 = grind (arith, nat_tests) in omega arith)
    (cases_lt v 6)

-- sizes that are read lie in the range that is asked of them, and so do those that are assumed
sized : (b : List ℕ) (v read assumed most : ℕ) → (4 ≤ v → (1 ≤ cond (ltb v 4) assumed read) × (cond (ltb v 4) assumed read ≤ most)) → 1 ≤ assumed → assumed ≤ most
    → (1 ≤ cond (ltb v 4) assumed read) × (cond (ltb v 4) assumed read ≤ most)
sized b v read assumed most h from to =
    ⊎_elim (λ (l : v < 4). rw (lt-ltb v 4 l) (from, to)) (λ (l : 4 ≤ v). h l) (cases_lt v 4)

-- the blocks end before the data begin
blocks_before : (b : List ℕ) (l : Layout) → IsFilled b l → header_end l.version + l.section ≤ l.start → (k : ℕ) → k < l.blocks → block_end b (block_place b k) ≤ l.start
blocks_before b l f room k lt =
    ⊎_elim
    (λ (early : l.version < 6). let none = f.early (omega arith) in absurd (omega arith))
    (λ (late : 6 ≤ l.version).
    let w = within (f.tiled late) k lt in
    let end : header_end l.version ≡ 104 = grind (arith, nat_tests) in
    omega arith)
    (cases_lt l.version 6)

pub placed : (b : List ℕ) (l : Layout) → layout_of_file b ≡ Ok l → IsPlaced b l
placed b l h =
    let e = held_judged b l h in
    let is = layout_is b l e in
    let v = version b in
    let rules = rules_of b l e in
    let f : IsFilled b (layout_of b) = subst (IsFilled b) is (filled_of b l e) in
    let front = starts_behind b v rules in
    let few = sized b v _ early_bins most_bins rules.bins (omega arith) (omega arith) in
    let short = sized b v _ early_ranges most_ranges rules.ranges (omega arith) (omega arith) in
    subst (IsPlaced b) (sym is) (record {
      version_is = refl;
      version_from = rules.version_from;
      start_is = refl;
      bins_from = few.0;
      bins_to = few.1;
      ranges_from = short.0;
      ranges_to = short.1;
      cells_inside = rules.cells_inside;
      behind = front;
      blocks_inside = blocks_before b (layout_of b) f front;
    })

pub placed_if : (b : List ℕ) (r : Result Layout Fault) → r ≡ layout_of_file b → IfOk r (IsPlaced b)
placed_if b (Ok l) e = placed b l (sym e)
placed_if b (Err f) e = tt

-- a block of the file lies in its bytes
pub block_room : (b : List ℕ) (l : Layout) (k at : ℕ) → IsPlaced b l → 1 ≤ k → k ≤ l.blocks → at ≡ block_place b (k - 1) → block_end b at ≤ length b
block_room b l k at p from to e =
    let before = p.blocks_inside (k - 1) (omega arith) in
    let room : block_end b (block_place b (k - 1)) ≤ length b = omega (arith, p.cells_inside) in
    subst (λ (x : ℕ). block_end b x ≤ length b) (sym e) room
