-- What an answer tells of its question: the conditions that were passed, and what is answered then.
use Rattle.std.proofs.Common.{◌≡◌, ℕ, ◌-◌, ◌<◌, ◌≤◌, min, Bool, true, false, ◌&&◌, leb, List, ◌∷◌, length, Some, Ok, Err, Option, Result, IfOk, sym, refl, ap, ◌∙◌, ⊎_elim, arith}
use Rattle.std.proofs.lemmas.Bool.{and_parts, leb-true, le-leb, lt-leb, cases_lt}
use Rattle.std.proofs.lemmas.List.FromFn.{length-map-range_with_len, get_or-map-range_with_len}
use Rattle.std.proofs.lemmas.Option.{slice_get_past, slice_get-get_or}
use Rattle.std.specs.List.{slice_get}
use Rattle.std.specs.Option.{ok_or}
use Rattle.faults.specs.declared.fault.Fault.{Fault}
use Rattle.faults.specs.declared.refusal.Refusal.TheVariants.{NoSuchBlock}
use Rattle.faults.specs.Faults.{fault}
use Rattle.format.specs.declared.judging.Layout.{Layout}
use Rattle.format.specs.Checks.{Check, unless, all_of, ◌then◌, ◌with◌}
use Rattle.format.specs.Header.{the_extent, start_by, field_pattern}
use Rattle.format.specs.Rows.{row_count, row_span}
use Rattle.format.specs.Section.{block_end}
use Rattle.reader.specs.declared.blocks.Entry.{Entry}
use Rattle.reader.specs.Answers.{block_place, entry_at, entries, start_answer, field_answer, row_answer, block_answer, table_answer}
use Rattle.reader.specs.Laws.{IsPlaced}
use Rattle.reader.specs.Levels.{layout_of_file, level_known, layout_known, row_known, field_conditions, row_conditions, enough_room, blocks_seen, blocks_present, block_known, block_conditions}
use Rattle.reader.proofs.Place.{block_room}

-- an answer behind a check: the check passed
pub then_ok : {X : Type 0} (c : Check) (r : Result X Fault) (x : X) → (c then r) ≡ Ok x → (c ≡ Ok tt) × (r ≡ Ok x)
then_ok (Ok u) r x e = (refl, e)
then_ok (Err f) r x e = let z : ◌≡◌ {A = ℕ} 0 1 = cc in absurd (omega arith)

pub unless_ok : (t : Bool) (f : Fault) → unless t f ≡ Ok tt → t ≡ true
unless_ok true f e = refl
unless_ok false f e = let z : ◌≡◌ {A = ℕ} 0 1 = cc in absurd (omega arith)

same_ok : {X : Type 0} (x y : X) → ◌≡◌ {A = Result X Fault} (Ok x) (Ok y) → x ≡ y
same_ok x y e = cc

-- where there is a file
asked : {X : Type 0} (r : Result Layout Fault) (l : Layout) (next : Layout → Result X Fault) (x : X) → r ≡ Ok l → (r with next) ≡ Ok x → next l ≡ Ok x
asked r l next x h e = ap (λ (y : Result Layout Fault). y with next) (sym h) ∙ e

pub within : (a n m : ℕ) → (leb a n && leb n m) ≡ true → (a ≤ n) × (n ≤ m)
within a n m e = let p = and_parts (leb a n) (leb n m) e in (leb-true a n p.0, leb-true n m p.1)

pub field_asked : (b : List ℕ) (l : Layout) (level n x : ℕ) → layout_of_file b ≡ Ok l → field_answer b level n ≡ Ok x → field_pattern b n ≡ x
field_asked b l level n x h e =
    same_ok (field_pattern b n) x (then_ok (all_of (field_conditions l.version level n)) (Ok (field_pattern b n)) x (asked (layout_of_file b) l (λ m. all_of (field_conditions m.version level n) then Ok (field_pattern b n)) x h e)).1

-- a row that is answered is one of the file's
pub record RowOf (l : Layout) (cell row : ℕ) (p : ℕ × ℕ) : Type 0 where
  pub cell_from : 1 ≤ cell
  pub cell_to : cell ≤ l.sizes.ranges
  pub row_from : 1 ≤ row
  pub row_to : row ≤ row_count l.sizes
  pub span : row_span l cell row ≡ p

pub row_asked : (b : List ℕ) (l : Layout) (level cell row : ℕ) (p : ℕ × ℕ) → layout_of_file b ≡ Ok l → row_answer b level cell row ≡ Ok p → RowOf l cell row p
row_asked b l level cell row p h e =
    let q = then_ok (all_of (row_conditions l.version l.sizes level cell row)) (Ok (row_span l cell row)) p
    (asked (layout_of_file b) l (λ m. all_of (row_conditions m.version m.sizes level cell row) then Ok (row_span m cell row)) p h e) in
    let c1 = then_ok (level_known level) _ tt q.0 in
    let c2 = then_ok (layout_known l.version level) _ tt c1.1 in
    let c3 = then_ok (row_known l.sizes cell row) _ tt c2.1 in
    let both = and_parts _ _ (unless_ok _ _ c3.0) in
    let cells = within 1 cell l.sizes.ranges both.0 in
    let rows = within 1 row (row_count l.sizes) both.1 in
    record { cell_from = cells.0; cell_to = cells.1; row_from = rows.0; row_to = rows.1; span = same_ok (row_span l cell row) p q.1 }

-- a row of the file is answered
pub row_answered : (b : List ℕ) (l : Layout) (cell row : ℕ) → layout_of_file b ≡ Ok l → 1 ≤ cell → cell ≤ l.sizes.ranges → 1 ≤ row
    → row ≤ row_count l.sizes → row_answer b 6 cell row ≡ Ok (row_span l cell row)
row_answered b l cell row h cell_from cell_to row_from row_to =
    ap (λ (y : Result Layout Fault). y with λ m. all_of (row_conditions m.version m.sizes 6 cell row) then Ok (row_span m cell row)) h
    ∙ rw (le-leb (min l.version 4) 6 (omega arith), le-leb 1 cell cell_from, le-leb cell l.sizes.ranges cell_to, le-leb 1 row row_from, le-leb row (row_count l.sizes) row_to) refl

-- a block that is answered is one of the file's
pub record BlockOf (b : List ℕ) (l : Layout) (k : ℕ) (e : Entry) : Type 0 where
  pub late : 6 ≤ l.version
  pub from : 1 ≤ k
  pub to : k ≤ l.blocks
  pub entry : entry_at b (block_place b (k - 1)) ≡ e

pub block_asked : (b : List ℕ) (l : Layout) (level k : ℕ) (x : Entry) → layout_of_file b ≡ Ok l → block_answer b level k ≡ Ok x → BlockOf b l k x
block_asked b l level k x h e =
    let entry = entry_at b (block_place b (k - 1)) in
    let q = then_ok (all_of (level_known level ∷ blocks_seen level ∷ block_conditions l.version l.blocks k)) (Ok entry) x
    (asked (layout_of_file b) l (λ m. all_of (level_known level ∷ blocks_seen level ∷ block_conditions m.version m.blocks k) then Ok entry) x h e) in
    let c1 = then_ok (level_known level) _ tt q.0 in
    let c2 = then_ok (blocks_seen level) _ tt c1.1 in
    let c3 = then_ok (blocks_present l.version) _ tt c2.1 in
    let c4 = then_ok (block_known l.blocks k) _ tt c3.1 in
    let among = within 1 k l.blocks (unless_ok _ _ c4.0) in
    record { late = leb-true 6 l.version (unless_ok _ _ c3.0); from = among.0; to = among.1; entry = same_ok entry x q.1 }

-- the walk answers for the block: its entry, or 34 past the last
pub entry_found : (b : List ℕ) (l : Layout) (k before : ℕ) → 6 ≤ l.version → 1 ≤ k → before ≡ k - 1
    → ok_or (slice_get (entries b l.blocks) before) (fault NoSuchBlock 0) ≡ (all_of (block_conditions l.version l.blocks k) then Ok (entry_at b (block_place b (k - 1))))
entry_found b l k before late from e =
    let n = l.blocks in
    let entry : ℕ → Entry = λ i. entry_at b (block_place b i) in
    let count : length (entries b n) ≡ n = length-map-range_with_len entry 0 n in
    ⊎_elim
    (λ (past : n < k).
    rw (le-leb 6 l.version late, le-leb 1 k from, lt-leb k n past)
    (ap (λ (x : Option Entry). ok_or x (fault NoSuchBlock 0)) (slice_get_past (entries b n) before (omega arith))))
    (λ (to : k ≤ n).
    let is : slice_get (entries b n) before ≡ Some (entry (k - 1)) =
    slice_get-get_or (entries b n) before (entry (k - 1)) (omega arith)
    ∙ ap Some (get_or-map-range_with_len entry 0 n before (k - 1) (entry (k - 1)) (omega arith) (omega arith)) in
    rw (le-leb 6 l.version late, le-leb 1 k from, le-leb k n to) (ap (λ (x : Option Entry). ok_or x (fault NoSuchBlock 0)) is))
    (cases_lt n k)

-- an entry that is found is that of the block, which passed its conditions
pub entry_asked : (b : List ℕ) (l : Layout) (k : ℕ) (e : Entry) → Ok e ≡ (all_of (block_conditions l.version l.blocks k) then Ok (entry_at b (block_place b (k - 1))))
    → (all_of (block_conditions l.version l.blocks k) ≡ Ok tt) × (e.place ≡ block_place b (k - 1))
entry_asked b l k e is =
    let entry = entry_at b (block_place b (k - 1)) in
    let q = then_ok (all_of (block_conditions l.version l.blocks k)) (Ok entry) e (sym is) in
    (q.0, ap (λ (x : Entry). x.place) (sym (same_ok entry e q.1)))

-- and it lies in the bytes
pub entry_inside : (b : List ℕ) (l : Layout) (k : ℕ) (r : Result Entry Fault) → IsPlaced b l
    → r ≡ (all_of (block_conditions l.version l.blocks k) then Ok (entry_at b (block_place b (k - 1)))) → IfOk r (λ e. block_end b e.place ≤ length b)
entry_inside b l k (Ok e) p is =
    let q = entry_asked b l k e is in
    let c1 = then_ok (blocks_present l.version) _ tt q.0 in
    let c2 = then_ok (block_known l.blocks k) _ tt c1.1 in
    let among = within 1 k l.blocks (unless_ok _ _ c2.0) in
    block_room b l k e.place p among.0 among.1 q.1
entry_inside b l k (Err f) p is = tt

-- a block of the file is answered
pub block_answered : (b : List ℕ) (l : Layout) (k : ℕ) → layout_of_file b ≡ Ok l → 6 ≤ l.version → 1 ≤ k → k ≤ l.blocks
    → block_answer b 6 k ≡ Ok (entry_at b (block_place b (k - 1)))
block_answered b l k h late from to =
    ap (λ (y : Result Layout Fault). y with λ m. all_of (level_known 6 ∷ blocks_seen 6 ∷ block_conditions m.version m.blocks k) then Ok (entry_at b (block_place b (k - 1)))) h
    ∙ rw (le-leb 6 l.version late, le-leb 1 k from, le-leb k l.blocks to) refl

-- a level of 1 to 6 is answered where the data begin
pub start_answered : (b : List ℕ) (l : Layout) (level : ℕ) → layout_of_file b ≡ Ok l → 1 ≤ level → level ≤ 6
    → start_answer b level ≡ Ok (start_by b (the_extent (min (min level l.version) 5)))
start_answered b l level h from to =
    ap (λ (y : Result Layout Fault). y with λ m. level_known level then Ok (start_by b (the_extent (min (min level m.version) 5)))) h
    ∙ rw (le-leb 1 level from, le-leb level 6 to) refl

-- a table that is long enough is answered the count of the blocks
pub table_answered : (b : List ℕ) (l : Layout) (room : ℕ) → layout_of_file b ≡ Ok l → l.blocks ≤ room → table_answer b room ≡ Ok l.blocks
table_answered b l room h fits =
    ap (λ (y : Result Layout Fault). y with λ m. enough_room m.blocks room then Ok m.blocks) h ∙ rw (le-leb l.blocks room fits) refl
