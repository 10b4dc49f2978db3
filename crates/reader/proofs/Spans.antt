-- Where the rows of a cell stand.
use Rattle.std.proofs.Common.{◌≡◌, ℕ, ◌+◌, ◌-◌, ◌*◌, ◌<◌, ◌≤◌, Bool, true, false, ◌&&◌, leb, Some, None, Ok, Result, if◌then◌else◌, sym, refl, subst, List, length, get_or, take, sum, add-mul, mul-add, arith}
use Rattle.std.proofs.lemmas.Bool.{and_parts, leb-true}
use Rattle.std.proofs.lemmas.Nat.{mul-le}
use Rattle.std.specs.Option.{ok_or}
use Rattle.faults.specs.declared.fault.Fault.{Fault}
use Rattle.std.proofs.lemmas.List.{take_all, take-take}
use Rattle.std.proofs.lemmas.List.Sums.{sum_by_more, sum_by-take-le}
use Rattle.format.specs.declared.judging.Layout.{Layout}
use Rattle.format.specs.declared.sizes.Sizes.{Sizes}
use Rattle.format.specs.Rows.{row_widths, row_count, width_before, width_of, bin_width, cells_size, is_row, row_in, row_span}

-- the part k of a list of widths ends before any later part begins
pub parts_in_order : (ws : List ℕ) (k m : ℕ) → k < length ws → k < m → sum (take k ws) + get_or ws k 0 ≤ sum (take m ws)
parts_in_order ws k m inside h =
    let same : ℕ → ℕ = λ x. x in
    let more : sum (take (k + 1) ws) ≡ sum (take k ws) + get_or ws k 0 = sum_by_more same ws k 0 inside in
    let front : take (k + 1) (take m ws) ≡ take (k + 1) ws = take-take (k + 1) m ws (omega arith) in
    rw more at (rw front at (sum_by-take-le same (take m ws) (k + 1)))

-- a row of a bin ends within the bin
pub row_within : (s : Sizes) (row : ℕ) → 1 ≤ row → row ≤ row_count s → width_before s row + width_of s row ≤ bin_width s
row_within s row from to =
    let ws = row_widths s in
    let all : take (length ws) ws ≡ ws = take_all (length ws) ws (omega arith) in
    rw all at (parts_in_order ws (row - 1) (length ws) (omega arith) (omega arith))

-- a row of a cell ends within the cells
pub span_within : (cell ranges bins before width all : ℕ) → 1 ≤ cell → cell ≤ ranges → before + width ≤ all
    → (cell - 1) * (bins * all) + bins * before + bins * width ≤ ranges * (bins * all)
span_within cell ranges bins before width all from to fits =
    let row : bins * before + bins * width ≤ bins * all = omega (arith, mul-add bins before width, mul-le bins (before + width) bins all (omega arith) fits) in
    let one_more : (cell - 1) * (bins * all) + bins * all ≡ (cell - 1 + 1) * (bins * all) = omega (arith, add-mul (cell - 1) 1 (bins * all)) in
    let whole : (cell - 1 + 1) * (bins * all) ≤ ranges * (bins * all) = mul-le (cell - 1 + 1) (bins * all) ranges (bins * all) (omega arith) (omega arith) in
    omega arith

-- a row of the file ends within the cells
pub row_inside : (l : Layout) (cell row : ℕ) → (1 ≤ cell) × (cell ≤ l.sizes.ranges) → (1 ≤ row) × (row ≤ row_count l.sizes)
    → (row_span l cell row).0 + (row_span l cell row).1 ≤ l.start + cells_size l.sizes
row_inside l cell row cells rows =
    let s = l.sizes in
    let t =
    span_within cell s.ranges s.bins (width_before s row) (width_of s row) (bin_width s) cells.0 cells.1 (row_within s row rows.0 rows.1) in
    omega arith

-- a choice that is taken
chosen : (t : Bool) (p q : ℕ × ℕ) (f : Fault) → ◌≡◌ {A = Result (ℕ × ℕ) Fault} (Ok p) (ok_or (if t then Some q else None) f) → (t ≡ true) × (p ≡ q)
chosen true p q f e = (refl, cc)
chosen false p q f e = let z : ◌≡◌ {A = ℕ} 0 1 = cc in absurd (omega arith)

between : (a n m : ℕ) → (leb a n && leb n m) ≡ true → (a ≤ n) × (n ≤ m)
between a n m e = let p = and_parts (leb a n) (leb n m) e in (leb-true a n p.0, leb-true n m p.1)

-- a row that is placed ends within the cells
pub row_placed : (l : Layout) (cell row : ℕ) (p : ℕ × ℕ) (f : Fault)
    → Ok p ≡ ok_or (if is_row l.sizes cell row then Some (row_in l.sizes cell row) else None) f
    → l.start + p.0 + p.1 ≤ l.start + cells_size l.sizes
row_placed l cell row p f e =
    let q = chosen (is_row l.sizes cell row) p (row_in l.sizes cell row) f e in
    let both = and_parts (leb 1 cell && leb cell l.sizes.ranges) (leb 1 row && leb row (row_count l.sizes)) q.0 in
    let t = row_inside l cell row (between 1 cell l.sizes.ranges both.0) (between 1 row (row_count l.sizes) both.1) in
    subst (λ (x : ℕ × ℕ). l.start + x.0 + x.1 ≤ l.start + cells_size l.sizes) (sym q.1) (omega arith)
