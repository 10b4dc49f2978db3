-- The readers of all levels agree: what holds of every accepted file.
use Rattle.std.proofs.Common.{◌≡◌, ℕ, zero, suc, ◌+◌, ◌-◌, ◌*◌, ◌/◌, ◌<◌, ◌≤◌, min, ◌⊎◌, List, length, get_or, take, drop, Ok, Err, IfOk, Result, sym, refl, ap, ◌∙◌, subst, inl, inr, ⊎_elim, add_assoc, add-mul, mul-add, arith}
use Rattle.std.proofs.lemmas.Nat.{mul-le}
use Rattle.std.proofs.lemmas.List.FromFn.{length-map-range_with_len, get_or-map-range_with_len}
use Rattle.std.proofs.lemmas.List.{get_or-take, get_or-drop, get_or_append_left, length-take-le, length-drop}
use Rattle.std.proofs.lemmas.Bool.{cases_order, cases_lt}
use Rattle.buffers.specs.Words.{word32}
use Rattle.faults.specs.declared.fault.Fault.{Fault}
use Rattle.format.specs.declared.judging.Layout.{Layout}
use Rattle.format.specs.Checks.{all_of, ◌then◌, ◌with◌}
use Rattle.format.specs.Header.{version}
use Rattle.format.specs.Rows.{row_widths, width_before, width_of, bin_width, cells_size, row_span}
use Rattle.format.specs.Section.{block_end}
use Rattle.format.proofs.Rules.{each_agrees}
use Rattle.reader.specs.declared.blocks.Entry.{Entry}
use Rattle.reader.specs.Answers.{part, patterns, filled_list, block_place, entry_at, entries, row_part, numbers_answer, list_after, numbers_list, table_after, table_list}
use Rattle.reader.specs.Laws.{OneStart, FieldsAgree, RowsAgree, RowsInside, IsRowsApart, NumbersOfRows, BlocksFill, TableOfBlocks, AgreedFile}
use Rattle.reader.specs.Levels.{layout_of_file, row_conditions}
use Rattle.reader.proofs.Asked.{RowOf, field_asked, row_asked, block_asked, block_answered, start_answered, table_answered}
use Rattle.reader.proofs.Place.{held_judged, rules_of, filled_of, placed, reaches}
use Rattle.reader.proofs.Spans.{parts_in_order, row_within, row_inside}

one_start : (b : List ℕ) (l : Layout) → layout_of_file b ≡ Ok l → OneStart b l
one_start b l h level from to =
    let p = placed b l h in
    let i = min (min level l.version) 5 in
    let least : 1 ≤ i = omega (arith, p.version_from) in
    let most : i ≤ 5 = omega arith in
    let has : i ≤ version b = omega (arith, p.version_is) in
    start_answered b l level h from to
    ∙ ap Ok (each_agrees b (version b) i (rules_of b l (held_judged b l h)) least most has ∙ sym p.start_is)

fields_agree : (b : List ℕ) (l : Layout) → layout_of_file b ≡ Ok l → FieldsAgree b
fields_agree b l h n i j x y e f = sym (field_asked b l i n x h e) ∙ field_asked b l j n y h f

rows_agree : (b : List ℕ) (l : Layout) → layout_of_file b ≡ Ok l → RowsAgree b
rows_agree b l h cell row i j p q e f = sym (row_asked b l i cell row p h e).span ∙ (row_asked b l j cell row q h f).span

-- a row ends within the cells
span_inside : (l : Layout) (cell row : ℕ) (p : ℕ × ℕ) → RowOf l cell row p → (l.start ≤ p.0) × (p.0 + p.1 ≤ l.start + cells_size l.sizes)
span_inside l cell row p o =
    let s = l.sizes in
    let t = row_inside l cell row (o.cell_from, o.cell_to) (o.row_from, o.row_to) in
    subst (λ (x : ℕ × ℕ). (l.start ≤ x.0) × (x.0 + x.1 ≤ l.start + cells_size s)) o.span (omega arith, t)

rows_inside : (b : List ℕ) (l : Layout) → layout_of_file b ≡ Ok l → RowsInside b l
rows_inside b l h level cell row p e =
    let at = placed b l h in
    let t = span_inside l cell row p (row_asked b l level cell row p h e) in
    (omega (arith, at.behind, t.0), omega (arith, at.cells_inside, t.1))

-- a row that is answered lies in the file
pub row_inside_if : (b : List ℕ) (l : Layout) (level cell row : ℕ) (r : Result (ℕ × ℕ) Fault) → Ok l ≡ layout_of_file b
    → r ≡ (all_of (row_conditions l.version l.sizes level cell row) then Ok (row_span l cell row)) → IfOk r (λ p. p.0 + p.1 ≤ length b)
row_inside_if b l level cell row (Ok p) h e =
    let asked = ap (λ (x : Result Layout Fault). x with λ m. all_of (row_conditions m.version m.sizes level cell row) then Ok (row_span m cell row)) (sym h) in
    (rows_inside b l (sym h) level cell row p (asked ∙ sym e)).1
row_inside_if b l level cell row (Err f) h e = tt

-- rows of one cell, the one before the other
rows_in_order : (start cell bins all before width later : ℕ) → before + width ≤ later
    → start + (cell * (bins * all) + bins * before) + bins * width ≤ start + (cell * (bins * all) + bins * later)
rows_in_order start cell bins all before width later h =
    omega (arith, mul-add bins before width, mul-le bins (before + width) bins later (omega arith) h)

-- rows of two cells, the one before the other
cells_in_order : (start cell other bins all before width later : ℕ) → 1 ≤ cell → cell < other → before + width ≤ all
    → start + ((cell - 1) * (bins * all) + bins * before) + bins * width ≤ start + ((other - 1) * (bins * all) + bins * later)
cells_in_order start cell other bins all before width later from less h =
    let row : bins * before + bins * width ≤ bins * all = omega (arith, mul-add bins before width, mul-le bins (before + width) bins all (omega arith) h) in
    let one_more : (cell - 1) * (bins * all) + bins * all ≡ (cell - 1 + 1) * (bins * all) = omega (arith, add-mul (cell - 1) 1 (bins * all)) in
    let whole : (cell - 1 + 1) * (bins * all) ≤ (other - 1) * (bins * all) = mul-le (cell - 1 + 1) (bins * all) (other - 1) (bins * all) (omega arith) (omega arith) in
    omega arith

-- of two cells, or of two rows of one cell, the one before comes first
pub span_before : (l : Layout) (cell row other-cell other_row : ℕ) (p q : ℕ × ℕ) → RowOf l cell row p → RowOf l other-cell other_row q
    → (cell < other-cell) ⊎ ((cell ≡ other-cell) × (row < other_row)) → p.0 + p.1 ≤ q.0
span_before l cell row other-cell other_row p q o m (inl less) =
    let s = l.sizes in
    let fits = row_within s row o.row_from o.row_to in
    let t = cells_in_order l.start cell other-cell s.bins (bin_width s) (width_before s row) (width_of s row) (width_before s other_row) o.cell_from less fits in
    subst (λ (x : ℕ × ℕ). p.0 + p.1 ≤ x.0) m.span (subst (λ (x : ℕ × ℕ). x.0 + x.1 ≤ (row_span l other-cell other_row).0) o.span t)
span_before l cell row other-cell other_row p q o m (inr same) =
    let s = l.sizes in
    let less = same.1 in
    let order = parts_in_order (row_widths s) (row - 1) (other_row - 1) (omega (arith, o.row_from, o.row_to)) (omega (arith, o.row_from)) in
    let t = rows_in_order l.start (cell - 1) s.bins (bin_width s) (width_before s row) (width_of s row) (width_before s other_row) order in
    let u : (row_span l cell row).0 + (row_span l cell row).1 ≤ (row_span l other-cell other_row).0 = subst (λ (x : ℕ). (row_span l cell row).0 + (row_span l cell row).1 ≤ (row_span l x other_row).0) same.0 t in
    subst (λ (x : ℕ × ℕ). p.0 + p.1 ≤ x.0) m.span (subst (λ (x : ℕ × ℕ). x.0 + x.1 ≤ (row_span l other-cell other_row).0) o.span u)

rows_apart : (b : List ℕ) (l : Layout) → layout_of_file b ≡ Ok l → IsRowsApart b
rows_apart b l h i cell row j other-cell other_row p q e f differ =
    let o = row_asked b l i cell row p h e in
    let m = row_asked b l j other-cell other_row q h f in
    ⊎_elim
    (λ (same : cell ≡ other-cell).
    ⊎_elim (λ (also : row ≡ other_row). absurd (differ same also))
    (⊎_elim (λ (less : row < other_row). inl (span_before l cell row other-cell other_row p q o m (inr (same, less))))
    (λ (more : other_row < row). inr (span_before l other-cell other_row cell row q p m o (inr (sym same, more)))))
    (cases_order row other_row))
    (⊎_elim (λ (less : cell < other-cell). inl (span_before l cell row other-cell other_row p q o m (inl less)))
    (λ (more : other-cell < cell). inr (span_before l other-cell other_row cell row q p m o (inl more))))
    (cases_order cell other-cell)

-- a word in a part of the bytes
pub part_word : (b : List ℕ) (at n j : ℕ) → j + 4 ≤ n → word32 (take n (drop at b)) j ≡ word32 b (at + j)
part_word b at n j h =
    let byte = λ (k : ℕ) (l : k < n). get_or-take n (drop at b) k 0 l ∙ get_or-drop at b k 0 in
    let b0 : get_or (take n (drop at b)) j 0 ≡ get_or b (at + j) 0 = byte j (omega arith) in
    let b1 : get_or (take n (drop at b)) (j + 1) 0 ≡ get_or b (at + j + 1) 0 = byte (j + 1) (omega arith) ∙ ap (λ (x : ℕ). get_or b x 0) (sym (add_assoc at j 1)) in
    let b2 : get_or (take n (drop at b)) (j + 2) 0 ≡ get_or b (at + j + 2) 0 = byte (j + 2) (omega arith) ∙ ap (λ (x : ℕ). get_or b x 0) (sym (add_assoc at j 2)) in
    let b3 : get_or (take n (drop at b)) (j + 3) 0 ≡ get_or b (at + j + 3) 0 = byte (j + 3) (omega arith) ∙ ap (λ (x : ℕ). get_or b x 0) (sym (add_assoc at j 3)) in
    rw (b0, b1, b2, b3) refl

-- number i of a row's patterns
pattern_at : (b old : List ℕ) (at n i : ℕ) → at + n ≤ length b → i < n / 4
    → get_or (filled_list (patterns (take n (drop at b))) old) i 0 ≡ word32 b (at + 4 * i)
pattern_at b old at n i inside less =
    let row = take n (drop at b) in
    let long : length row ≡ n = length-take-le n (drop at b) (simp length-drop (omega arith)) in
    let word : ℕ → ℕ = λ k. word32 row (4 * k) in
    let count : length (patterns row) ≡ length row / 4 = length-map-range_with_len word 0 (length row / 4) in
    let quarter : length row / 4 ≡ n / 4 = ap (λ (x : ℕ). x / 4) long in
    let near : i < length (patterns row) = omega arith in
    get_or_append_left (patterns row) (drop (length (patterns row)) old) 0 i near
    ∙ get_or-map-range_with_len word 0 (length row / 4) i i 0 (omega arith) (omega arith)
    ∙ part_word b at n (4 * i) (omega arith)

numbers_of_rows : (b : List ℕ) (l : Layout) → layout_of_file b ≡ Ok l → NumbersOfRows b
numbers_of_rows b l h level cell row p old e f =
    let part-is : row_part b level cell row ≡ Ok (part b p) = ap (λ (x : Result (ℕ × ℕ) Fault). x with λ q. Ok (part b q)) e in
    let whole : numbers_list b level cell row old ≡ filled_list (patterns (part b p)) old =
    ap (λ (x : Result (List ℕ) Fault). list_after old x (numbers_answer b level cell row (length old))) part-is
    ∙ ap (λ (x : Result (Unit {0}) Fault). list_after old (Ok (part b p)) x) f in
    let inside = (rows_inside b l h level cell row p e).1 in
    record {
      whole = whole;
      each = λ i less. ap (λ (x : List ℕ). get_or x i 0) whole ∙ pattern_at b old p.0 p.1 i inside less;
    }

-- where the blocks end
section_ends : (b : List ℕ) (l : Layout) → layout_of_file b ≡ Ok l → 6 ≤ l.version → block_place b l.blocks ≡ 104 + l.section
section_ends b l h late = reaches ((filled_of b l (held_judged b l h)).tiled late)

-- the block behind k others ends where the block behind k + 1 others begins
ends_at_next : (b : List ℕ) (k : ℕ) → 1 ≤ k → block_end b (block_place b (k - 1)) ≡ block_place b k
ends_at_next b zero from = absurd (omega arith)
ends_at_next b (suc k) from = let is : suc k - 1 ≡ k = omega arith in ap (λ (x : ℕ). block_end b (block_place b x)) is

blocks_fill : (b : List ℕ) (l : Layout) → layout_of_file b ≡ Ok l → BlocksFill b l
blocks_fill b l h =
    record {
      each = λ late k from to. (entry_at b (block_place b (k - 1)), block_answered b l k h late from to);
      first = λ e q. let o = block_asked b l 6 1 e h q in ap (λ (x : Entry). x.place) (sym o.entry);
      next = λ k e f q r.
          let o = block_asked b l 6 k e h q in
          let m = block_asked b l 6 (k + 1) f h r in
          let is : k + 1 - 1 ≡ k = omega arith in
          ap (λ (x : Entry). x.place) (sym m.entry) ∙ ap (block_place b) is ∙ sym (ends_at_next b k o.from)
          ∙ ap (λ (x : Entry). x.place + 8 + x.size) o.entry;
      last = λ e q.
          let o = block_asked b l 6 l.blocks e h q in
          ap (λ (x : Entry). x.place + 8 + x.size) (sym o.entry) ∙ ends_at_next b l.blocks o.from ∙ section_ends b l h o.late;
      none = λ late no. let t = section_ends b l h late in let z : block_place b l.blocks ≡ 104 = ap (block_place b) no in omega arith;
    }

table_of_blocks : (b : List ℕ) (l : Layout) → layout_of_file b ≡ Ok l → TableOfBlocks b l
table_of_blocks b l h old fits =
    let answer = table_answered b l (length old) h fits in
    let entry : ℕ → Entry = λ i. entry_at b (block_place b i) in
    let whole : table_list b old ≡ filled_list (entries b l.blocks) old = ap (table_after b old) answer in
    let count : length (entries b l.blocks) ≡ l.blocks = length-map-range_with_len entry 0 l.blocks in (
      answer,
      λ k d from to.
          let near : k - 1 < length (entries b l.blocks) = omega arith in
          let late : 6 ≤ l.version =
          ⊎_elim (λ (early : l.version < 6). let none = (filled_of b l (held_judged b l h)).early (omega arith) in absurd (omega arith)) (λ (x : 6 ≤ l.version). x) (cases_lt l.version 6) in
          let got : get_or (table_list b old) (k - 1) d ≡ entry (k - 1) =
          ap (λ (x : List Entry). get_or x (k - 1) d) whole ∙ get_or_append_left (entries b l.blocks) (drop (length (entries b l.blocks)) old) d (k - 1) near
          ∙ get_or-map-range_with_len entry 0 l.blocks (k - 1) (k - 1) d (omega arith) (omega arith) in
          block_answered b l k h late from to ∙ ap Ok (sym got),
    )

pub agreed : (b : List ℕ) → AgreedFile b
agreed b l h =
    record {
      one_start = one_start b l h;
      fields_agree = fields_agree b l h;
      rows_agree = rows_agree b l h;
      rows_inside = rows_inside b l h;
      rows_apart = rows_apart b l h;
      numbers_of_rows = numbers_of_rows b l h;
      blocks_fill = blocks_fill b l h;
      table_of_blocks = table_of_blocks b l h;
    }
