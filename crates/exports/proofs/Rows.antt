-- Where a row's numbers stand among all numbers, and how they are copied.
use borrow.Rule.Slice.PartMut.{put_mid}
use Rattle.std.proofs.Common.{◌≡◌, ℕ, ◌+◌, ◌-◌, ◌*◌, ◌/◌, ◌<◌, ◌≤◌, ◌⊎◌, Bool, true, false, cond}
use Rattle.std.proofs.Common.{List, [], ◌∷◌, ◌++◌, map, length, take, drop, Ok, sum, Result}
use Rattle.std.proofs.Common.{sym, refl, ap, subst, ◌∙◌, inl, inr, ⊎_elim, add-mul, mul-add, arith}
use Rattle.std.proofs.lemmas.List.FromFn.{length-map-range_with_len, get_or-map-range_with_len}
use Rattle.std.proofs.lemmas.List.{same_lists, take_all, length-take-le, length-drop, drop-drop}
use Rattle.std.proofs.lemmas.List.{drop_all, take_rest, append-nil}
use Rattle.std.proofs.lemmas.List.Elements.{All-from_recursion}
use Rattle.std.proofs.lemmas.List.Sums.{sum_by_more}
use Rattle.std.proofs.lemmas.Bool.{le-leb}
use Rattle.std.specs.List.{AllByRecursion, range_with_len}
use Rattle.buffers.specs.Words.{word32}
use Rattle.faults.specs.declared.fault.Fault.{Fault}
use Rattle.format.specs.declared.judging.Layout.{Layout}
use Rattle.format.specs.Checks.{◌with◌}
use Rattle.format.specs.declared.sizes.Sizes.{Sizes}
use Rattle.format.specs.Rows.{row_widths, row_count, bin_width, cell_size, cells_size, width_before}
use Rattle.format.specs.Rows.{width_of, row_in, row_span}
use Rattle.reader.specs.Answers.{part, patterns, filled_list, row_answer, numbers_answer, numbers_list}
use Rattle.reader.specs.Levels.{layout_of_file, enough_room}
use Rattle.reader.proofs.Agree.{part_word, agreed}
use Rattle.reader.proofs.Asked.{row_asked, row_answered}
use Rattle.reader.proofs.Place.{placed}
use Rattle.reader.proofs.Spans.{row_inside}
use Rattle.exports.specs.Rows.{number_at, count_of, count_in, copy_answer, list_in, copy_list}
use Rattle.exports.specs.Rows.{bytes_before, copied}
use Rattle.exports.proofs.Copied.{written_all, written_more}

-- the cell is one of the file's, and the row one of a cell's
abbrev pub CellOf : Layout → ℕ → Type 0
CellOf l cell = (1 ≤ cell) × (cell ≤ l.sizes.ranges)

abbrev pub RowOf : Layout → ℕ → Type 0
RowOf l row = (1 ≤ row) × (row ≤ row_count l.sizes)

-- the bytes of the data before the end of a row of a cell
abbrev pub bytes_to : Layout → ℕ → ℕ → ℕ
bytes_to l cell row = (row_in l.sizes cell row).0 + (row_in l.sizes cell row).1

-- a row ends within the cells
pub row_ends : (l : Layout) (cell row : ℕ) → CellOf l cell → RowOf l row
    → bytes_to l cell row ≤ cells_size l.sizes
row_ends l cell row cells rows = let inside = row_inside l cell row cells rows in omega arith

-- the next row begins there
pub next_row : (l : Layout) (cell row : ℕ) → RowOf l row
    → bytes_before l cell (row + 1) ≡ bytes_to l cell row
next_row l cell row rows =
    let s = l.sizes in
    let ws = row_widths s in
    let same : ℕ → ℕ = λ x. x in
    let is : row + 1 - 1 ≡ row - 1 + 1 = omega arith in
    let before = width_before s row in
    let width = width_of s row in
    let more : sum (take (row - 1 + 1) ws) ≡ before + width =
    sum_by_more same ws (row - 1) 0 (omega arith) in
    let step : width_before s (row + 1) ≡ before + width =
    ap (λ (x : ℕ). sum (take x ws)) is ∙ more in
    let times : s.bins * width_before s (row + 1) ≡ s.bins * (before + width) =
    ap (λ (x : ℕ). s.bins * x) step in
    omega (arith, mul-add s.bins before width)

-- behind the last row of a cell begins the next cell
pub next_cell : (l : Layout) (cell : ℕ) → 1 ≤ cell
    → bytes_before l cell (row_count l.sizes + 1) ≡ bytes_before l (cell + 1) 1
next_cell l cell from =
    let s = l.sizes in
    let n = row_count s in
    let w = cell_size s in
    let all = take_all (n + 1 - 1) (row_widths s) (omega arith) in
    let whole : width_before s (n + 1) ≡ bin_width s = ap sum all in
    let times : s.bins * width_before s (n + 1) ≡ w = ap (λ (x : ℕ). s.bins * x) whole in
    let is : cell + 1 - 1 ≡ cell - 1 + 1 = omega arith in
    let more : (cell + 1 - 1) * w ≡ (cell - 1 + 1) * w = ap (λ (x : ℕ). x * w) is in
    omega (arith, add-mul (cell - 1) 1 w)

-- the patterns of a part of the data are numbers of the data
patterns_are : (b : List ℕ) (l : Layout) (at place n m : ℕ) → place ≡ l.start + 4 * at
    → n ≡ 4 * m → place + n ≤ length b
    → patterns (take n (drop place b)) ≡ map (number_at b l) (range_with_len at m)
patterns_are b l at place n m here size inside =
    let row = take n (drop place b) in
    let long : length row ≡ n = length-take-le n (drop place b) (simp length-drop (omega arith)) in
    let word : ℕ → ℕ = λ k. word32 row (4 * k) in
    let quarter : length row / 4 ≡ m = ap (λ (x : ℕ). x / 4) long ∙ omega arith in
    let count : length (patterns row) ≡ length row / 4 =
    length-map-range_with_len word 0 (length row / 4) in
    same_lists (patterns row) (map (number_at b l) (range_with_len at m))
    (count ∙ quarter ∙ sym (length-map-range_with_len (number_at b l) at m))
    (λ k d less.
    let near : k < m = omega arith in
    let spot : place + 4 * k ≡ l.start + 4 * (at + k) = omega arith in
    get_or-map-range_with_len word 0 (length row / 4) k k d (omega arith) (omega arith)
    ∙ part_word b place n (4 * k) (omega arith)
    ∙ ap (word32 b) spot
    ∙ sym (get_or-map-range_with_len (number_at b l) at m k (at + k) d near refl))

-- what `numbers` makes of the list from the row's place on
pub row_copied : (b : List ℕ) (l : Layout) (cell row at end : ℕ) (old : List ℕ) → layout_of_file b ≡ Ok l
    → CellOf l cell → RowOf l row → 4 * at ≡ bytes_before l cell row
    → 4 * end ≡ bytes_to l cell row → end ≤ length old
    → numbers_list b 6 cell row (drop at old)
    ≡ map (number_at b l) (range_with_len at (end - at)) ++ drop end old
row_copied b l cell row at end old h cells rows begin stop fits =
    let p = row_span l cell row in
    let new = map (number_at b l) (range_with_len at (end - at)) in
    let size : p.1 ≡ 4 * (end - at) = omega arith in
    let place : p.0 ≡ l.start + 4 * at = omega arith in
    let in_cells = row_ends l cell row cells rows in
    let inside : p.0 + p.1 ≤ length b = omega (arith, (placed b l h).cells_inside) in
    let answered = row_answered b l cell row h cells.0 cells.1 rows.0 rows.1 in
    let enough : p.1 / 4 ≤ length (drop at old) = simp length-drop (omega arith) in
    let room : numbers_answer b 6 cell row (length (drop at old)) ≡ Ok tt =
    ap (λ (x : Result (ℕ × ℕ) Fault). x with λ q. enough_room (q.1 / 4) (length (drop at old)))
    answered
    ∙ rw (le-leb (p.1 / 4) (length (drop at old)) enough) refl in
    let whole = ((agreed b l h).numbers_of_rows 6 cell row p (drop at old) answered room).whole in
    let is : patterns (part b p) ≡ new = patterns_are b l at p.0 p.1 (end - at) place size inside in
    let count : at + length new ≡ end =
    omega (arith, length-map-range_with_len (number_at b l) at (end - at)) in
    whole ∙ ap (λ (x : List ℕ). filled_list x (drop at old)) is
    ∙ ap (λ (x : List ℕ). new ++ x)
    (drop-drop (length new) at old ∙ ap (λ (x : ℕ). drop x old) count)

-- and of the whole list
pub row_written : (b : List ℕ) (l : Layout) (cell row at end : ℕ) (old new : List ℕ)
    → layout_of_file b ≡ Ok l → CellOf l cell → RowOf l row
    → 4 * at ≡ bytes_before l cell row → 4 * end ≡ bytes_to l cell row → end ≤ length old
    → new ≡ numbers_list b 6 cell row (take (length old - at) (drop at old))
    → put_mid at (length old - at) old new ≡ copied (number_at b l) at end old
row_written b l cell row at end old new h cells rows begin stop fits e =
    let copied = row_copied b l cell row at end old h cells rows begin stop fits in
    let whole : new ≡ numbers_list b 6 cell row (drop at old) =
    e ∙ ap (numbers_list b 6 cell row) (take_rest old at) in
    let none : drop (length old - at) (drop at old) ≡ [] =
    drop_all (length old - at) (drop at old) (simp length-drop (omega arith)) in
    let behind = ap (λ (x : List ℕ). new ++ x) none ∙ append-nil new ∙ whole ∙ copied in
    ap (λ (x : List ℕ). take at old ++ x) behind

-- behind the last cell the data end
pub cells_end : (l : Layout) → bytes_before l (l.sizes.ranges + 1) 1 ≡ cells_size l.sizes
cells_end l =
    let s = l.sizes in
    let is : s.ranges + 1 - 1 ≡ s.ranges = omega arith in
    let all : (s.ranges + 1 - 1) * cell_size s ≡ cells_size s =
    ap (λ (x : ℕ). x * cell_size s) is in
    omega arith

-- every row has 4 or 8 bytes to a bin
abbrev FourOrEight : ℕ → Type 0
FourOrEight width = (width ≡ 4) ⊎ (width ≡ 8)

quality_width : (quality : Bool) → AllByRecursion FourOrEight (cond quality (4 ∷ []) [])
quality_width true = (inl refl, tt)
quality_width false = tt

four_or_eight : (s : Sizes) → AllByRecursion FourOrEight (row_widths s)
four_or_eight s =
    (inl refl, (inl refl, (inl refl, (inr refl, (inr refl, (inr refl, quality_width s.quality))))))

-- so its bytes are whole numbers
whole_numbers : (l : Layout) (row : ℕ) → RowOf l row
    → 4 * (l.sizes.bins * width_of l.sizes row / 4) ≡ l.sizes.bins * width_of l.sizes row
whole_numbers l row rows =
    let s = l.sizes in
    let every = All-from_recursion FourOrEight (row_widths s) (four_or_eight s) in
    ⊎_elim
    (λ (e : width_of s row ≡ 4). rw e (omega arith))
    (λ (e : width_of s row ≡ 8). rw e (omega arith))
    (every (row - 1) 0 (omega arith))

-- a row that is copied from a place on ends there
answered_ends : (l : Layout) (cell row at : ℕ) (p : ℕ × ℕ) → CellOf l cell → RowOf l row
    → row_span l cell row ≡ p → 4 * at ≡ bytes_before l cell row
    → (4 * (at + p.1 / 4) ≡ bytes_to l cell row) × (at + p.1 / 4 ≤ count_of l)
answered_ends l cell row at p cells rows span begin =
    let size : l.sizes.bins * width_of l.sizes row ≡ p.1 = ap (λ (x : ℕ × ℕ). x.1) span in
    let whole = whole_numbers l row rows in
    let quarter : l.sizes.bins * width_of l.sizes row / 4 ≡ p.1 / 4 = ap (λ (x : ℕ). x / 4) size in
    let ends = row_ends l cell row cells rows in
    (omega arith, omega arith)

-- a turn of the loop: a row that is answered, to be copied to a list that has room for all numbers,
-- behind those of the rows before it
pub record Turn (b : List ℕ) (l : Layout) (old : List ℕ) (cell row at : ℕ) (now : List ℕ)
    (p : ℕ × ℕ) : Type 0 where
  pub known : layout_of_file b ≡ Ok l
  pub answered : Ok p ≡ row_answer b 6 cell row
  pub begins : 4 * at ≡ bytes_before l cell row
  pub fits : count_of l ≤ length old
  pub long : length now ≡ length old
  pub before : now ≡ copied (number_at b l) 0 at old

-- its numbers have room in the rest of the list
pub turn_fits : (b : List ℕ) (l : Layout) (old : List ℕ) (cell row at : ℕ) (now : List ℕ)
    (p : ℕ × ℕ) → Turn b l old cell row at now p
    → numbers_answer b 6 cell row (length (take (length now - at) (drop at now))) ≡ Ok tt
turn_fits b l old cell row at now p t =
    let o = row_asked b l 6 cell row p t.known (sym t.answered) in
    let cells : CellOf l cell = (o.cell_from, o.cell_to) in
    let ends = answered_ends l cell row at p cells (o.row_from, o.row_to) o.span t.begins in
    let behind = length-drop at now in
    let rest = length-take-le (length now - at) (drop at now) (omega arith) in
    let room = length (take (length now - at) (drop at now)) in
    ap (λ (x : Result (ℕ × ℕ) Fault). x with λ q. enough_room (q.1 / 4) room) (sym t.answered)
    ∙ rw (le-leb (p.1 / 4) room (omega (arith, ends.1, t.fits, t.long))) refl

-- the row, copied
pub turn_copied : (b : List ℕ) (l : Layout) (old : List ℕ) (cell row at : ℕ) (now : List ℕ)
    (p : ℕ × ℕ) (new : List ℕ) → Turn b l old cell row at now p
    → new ≡ numbers_list b 6 cell row (take (length now - at) (drop at now))
    → (4 * (at + p.1 / 4) ≡ bytes_before l cell (row + 1)) × (at + p.1 / 4 ≤ count_of l)
    × (put_mid at (length now - at) now new ≡ copied (number_at b l) 0 (at + p.1 / 4) old)
turn_copied b l old cell row at now p new t f =
    let o = row_asked b l 6 cell row p t.known (sym t.answered) in
    let cells : CellOf l cell = (o.cell_from, o.cell_to) in
    let rows : RowOf l row = (o.row_from, o.row_to) in
    let ends = answered_ends l cell row at p cells rows o.span t.begins in
    let end = at + p.1 / 4 in
    let inside : end ≤ length old = omega (arith, ends.1, t.fits) in
    let room : end ≤ length now = omega (arith, inside, t.long) in
    let written =
    row_written b l cell row at end now new t.known cells rows t.begins ends.0 room f in
    let f = number_at b l in (
      ends.0 ∙ sym (next_row l cell row rows),
      ends.1,
      written_more f 0 at end old now _ t.before written (omega arith) (omega arith) inside,
    )

-- the last row of a cell, copied
pub cell_copied : (b : List ℕ) (l : Layout) (old : List ℕ) (cell row at : ℕ) (now : List ℕ)
    (p : ℕ × ℕ) (new next : List ℕ) (end : ℕ) → Turn b l old cell row at now p
    → new ≡ numbers_list b 6 cell row (take (length now - at) (drop at now))
    → 1 ≤ cell → row ≡ row_count l.sizes
    → end ≡ at + p.1 / 4 → next ≡ put_mid at (length now - at) now new
    → (4 * end ≡ bytes_before l (cell + 1) 1) × (end ≤ count_of l)
    × (next ≡ copied (number_at b l) 0 end old)
cell_copied b l old cell row at now p new next end t f from last ends whole =
    let turn = turn_copied b l old cell row at now p new t f in
    let next_begins = ap (λ (x : ℕ). bytes_before l cell (x + 1)) last ∙ next_cell l cell from in (
      ap (λ (x : ℕ). 4 * x) ends ∙ turn.0 ∙ next_begins,
      omega (arith, turn.1),
      whole ∙ turn.2 ∙ ap (λ (x : ℕ). copied (number_at b l) 0 x old) (sym ends),
    )

-- behind the last cell all are copied
pub all_copied : (l : Layout) (cell end : ℕ) → 4 * end ≡ bytes_before l (cell + 1) 1
    → cell ≡ l.sizes.ranges → end ≡ count_of l
all_copied l cell end is last =
    let at-end : bytes_before l (cell + 1) 1 ≡ bytes_before l (l.sizes.ranges + 1) 1 =
    ap (λ (x : ℕ). bytes_before l (x + 1) 1) last in
    omega (arith, is, cells_end l)

-- the count of the numbers, as it is computed
pub has_room : (l : Layout) (size room : ℕ) → size ≡ cell_size l.sizes
    → l.sizes.ranges * size / 4 ≤ room → count_of l ≤ room
has_room l size room e fits = subst (λ (n : ℕ). l.sizes.ranges * n / 4 ≤ room) e fits

-- a list that has room for all numbers
pub copied_answer : (b : List ℕ) (l : Layout) (old : List ℕ) (end : ℕ) → layout_of_file b ≡ Ok l
    → count_of l ≤ length old → end ≡ count_of l → end ≡ copy_answer b old
copied_answer b l old end h fits e =
    let is : end ≡ count_in old (Ok l) = rw (le-leb (count_of l) (length old) fits) e in
    is ∙ ap (count_in old) (sym h)

pub copied_list : (b : List ℕ) (l : Layout) (old new : List ℕ) (end : ℕ) → layout_of_file b ≡ Ok l
    → count_of l ≤ length old → end ≡ count_of l → new ≡ copied (number_at b l) 0 end old
    → new ≡ copy_list b old
copied_list b l old new end h fits e is =
    let f = number_at b l in
    let all = ap (λ (n : ℕ). copied f 0 n old) e ∙ written_all f (count_of l) old in
    let whole : new ≡ list_in b old (Ok l) =
    rw (le-leb (count_of l) (length old) fits) (is ∙ all) in
    whole ∙ ap (list_in b old) (sym h)
