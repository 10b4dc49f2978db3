-- A page of the ledger agrees with a content, and goes on doing so when both are edited.
use Rattle.std.proofs.Common.{◌≡◌, ℕ, ◌+◌, ◌-◌, ◌<◌, ◌≤◌, ◌≢◌, Bool, List, ◌++◌, length, take, drop, slice_set, sym, refl, ◌∙◌, subst, ⊎_elim, inl, inr, ◌⊎◌, arith, rules}
use Rattle.std.proofs.lemmas.Bool.{eq-eqb, ne_eqb, cases_eq, cases_order}
use Rattle.std.proofs.lemmas.List.{same_lists, places, get_or-set_other, get_or-set_same, length-append}
use Rattle.std.proofs.lemmas.List.FromFn.{length-range_with_len}
use Rattle.buffers.specs.Moves.{written}
use Rattle.format.specs.declared.judging.Layout.{Layout}
use Rattle.format.specs.declared.sizes.Sizes.{Sizes}
use Rattle.format.specs.Changes.{with_field}
use Rattle.format.specs.Content.{Content, field_in, content_sizes, IsSound}
use Rattle.format.specs.Rows.{row_in, row_span, row_count}
use Rattle.format.proofs.Spots.{fields_to}
use Rattle.reader.specs.Answers.{part}
use Rattle.reader.proofs.Agree.{span_before}
use Rattle.reader.proofs.Asked.{RowOf}
use Rattle.reader.proofs.Written.{field_total, within_count}
use Rattle.editor.specs.Edits.{set, store, row_of, with_row}
use Rattle.editor.specs.Ledger.{Page, opened_page, page_after, with_value, with_bytes}
use Rattle.editor.proofs.laws.Marks.{Apart, Below, new_below, new_apart}
use Rattle.editor.proofs.laws.Sounds.{Settable, bins_kept, ranges_kept, quality_kept, Storable, row_among}

-- a row of data of those sizes
pub record Row (s : Sizes) (cell row : ℕ) : Type 0 where
  pub cells : (1 ≤ cell) × (cell ≤ s.ranges)
  pub rows : (1 ≤ row) × (row ≤ row_count s)

pub record Agrees (p : Page) (c : Content) : Type 0 where
  pub version : c.version ≡ p.version
  pub fields : (n : ℕ) → 1 ≤ n → n ≤ fields_to c.version → field_in c.fields n ≡ p.fields n
  pub rows : (cell row : ℕ) → Row (content_sizes c) cell row → row_of c cell row ≡ p.rows cell row
  pub count : length p.marks ≡ length c.blocks
  pub below : Below p.next p.marks
  pub apart : Apart p.marks

-- a new page agrees with its content
pub opens : (n : ℕ) (c : Content) → Agrees (opened_page n c) c
opens n c =
    record {
      version = refl;
      fields = λ k from to. refl;
      rows = λ cell row known. refl;
      count = length-range_with_len n (length c.blocks);
      below = new_below n (length c.blocks) (n + length c.blocks) (omega arith);
      apart = new_apart n (length c.blocks);
    }

-- a field that is set
value_set : (p : Page) (fs : List ℕ) (n x m count : ℕ) → length fs ≡ count → 1 ≤ n → n ≤ count → 1 ≤ m → field_in fs m ≡ p.fields m
    → field_in (slice_set fs (n - 1) x) m ≡ with_value p.fields n x m
value_set p fs n x m count long from to first e =
    ⊎_elim
    (λ (same : m ≡ n).
    let at : m - 1 ≡ n - 1 = omega arith in
    rw (eq-eqb m n same, at) (get_or-set_same fs (n - 1) x 0 (omega arith)))
    (λ (other : m ≢ n).
    let differ : m - 1 ≢ n - 1 = λ q. other (omega arith) in
    rw (ne_eqb m n other) (get_or-set_other fs (n - 1) (m - 1) x 0 differ ∙ e))
    (cases_eq m n)

pub agrees_set : (p : Page) (c : Content) (n x : ℕ) → IsSound c → Settable c.version n → Agrees p c → Agrees (page_after (set n x) p) (with_field c n x)
agrees_set p c n x s k h =
    let few = within_count c.version n k.from k.to k.present in
    let bins = bins_kept c n x k in
    let ranges = ranges_kept c n x k in
    let quality = quality_kept c n x k in
    record {
      version = h.version;
      fields = λ m from to. value_set p c.fields n x m (fields_to c.version) (field_total c s) k.from few from (h.fields m from to);
      rows = λ cell row known.
          let cells : (1 ≤ cell) × (cell ≤ (content_sizes c).ranges) = subst (λ (y : ℕ). (1 ≤ cell) × (cell ≤ y)) ranges known.cells in
          let rows : (1 ≤ row) × (row ≤ row_count (content_sizes c)) = subst (λ (y : Bool). (1 ≤ row) × (row ≤ row_count (record (content_sizes c) { quality = y }))) quality known.rows in
          rw (bins, quality) (h.rows cell row (record { cells = cells; rows = rows }));
      count = h.count;
      below = h.below;
      apart = h.apart;
    }

-- bytes that were written are there, and the bytes beside them are as before
part_there : (b r : List ℕ) (at n : ℕ) → at + n ≤ length b → length r ≡ n → part (written b at r) (at, n) ≡ r
unfolding written
part_there b r at n h l =
    let size_is = length-append (take at b) (r ++ drop (at + length r) b) in
    same_lists _ _ (search (rules, places)) (λ k z w. grind (arith, places))

part_beside : (b r : List ℕ) (at q n : ℕ) → at + length r ≤ length b → q + n ≤ length b → (q + n ≤ at) ⊎ (at + length r ≤ q)
    → part (written b at r) (q, n) ≡ part b (q, n)
unfolding written
part_beside b r at q n h k (inl before) =
    let size_is = length-append (take at b) (r ++ drop (at + length r) b) in
    same_lists _ _ (search (rules, places)) (λ k z w. grind (arith, places))
part_beside b r at q n h k (inr behind) =
    let size_is = length-append (take at b) (r ++ drop (at + length r) b) in
    same_lists _ _ (search (rules, places)) (λ k z w. grind (arith, places))

-- two rows of one file do not overlap
abbrev bare : Sizes → Layout
bare s = record { version = 0; start = 0; sizes = s; section = 0; blocks = 0 }

row_known : (s : Sizes) (cell row : ℕ) → Row s cell row → RowOf (bare s) cell row (row_span (bare s) cell row)
row_known s cell row k = record { cell_from = k.cells.0; cell_to = k.cells.1; row_from = k.rows.0; row_to = k.rows.1; span = refl }

from_zero : (a b c : ℕ) → 0 + a + b ≤ 0 + c → a + b ≤ c
from_zero a b c h = omega arith

rows_apart : (s : Sizes) (cell row i j : ℕ) → Row s cell row → Row s i j → (i ≡ cell → j ≢ row)
    → ((row_in s i j).0 + (row_in s i j).1 ≤ (row_in s cell row).0) ⊎ ((row_in s cell row).0 + (row_in s cell row).1 ≤ (row_in s i j).0)
rows_apart s cell row i j k l differ =
    let l0 = bare s in
    let a = row_known s cell row k in
    let b = row_known s i j l in
    let p = row_span l0 cell row in
    let q = row_span l0 i j in
    ⊎_elim
    (λ (same : i ≡ cell).
    ⊎_elim (λ (also : j ≡ row). absurd (differ same also))
    (⊎_elim (λ (less : j < row). inl (from_zero _ _ _ (span_before l0 i j cell row q p b a (inr (same, less)))))
    (λ (more : row < j). inr (from_zero _ _ _ (span_before l0 cell row i j p q a b (inr (sym same, more))))))
    (cases_order j row))
    (⊎_elim (λ (less : i < cell). inl (from_zero _ _ _ (span_before l0 i j cell row q p b a (inl less))))
    (λ (more : cell < i). inr (from_zero _ _ _ (span_before l0 cell row i j p q a b (inl more)))))
    (cases_order i cell)

-- a row that is stored
row_stored : (c : Content) (rows : ℕ → ℕ → List ℕ) (cell row i j : ℕ) (bytes : List ℕ) → IsSound c → Storable (content_sizes c) cell row (length bytes)
    → Row (content_sizes c) i j → row_of c i j ≡ rows i j → row_of (with_row c cell row bytes) i j ≡ with_bytes rows cell row bytes i j
row_stored c rows cell row i j bytes s k known e =
    let z = content_sizes c in
    let at = row_in z cell row in
    let q = row_in z i j in
    let mine = row_among c cell row s k.cells k.rows in
    let other = row_among c i j s known.cells known.rows in
    let long = k.long in
    ⊎_elim
    (λ (same : i ≡ cell).
    ⊎_elim
    (λ (also : j ≡ row).
    rw (eq-eqb i cell same, eq-eqb j row also)
    (subst (λ (y : ℕ). part (written c.cells at.0 bytes) (row_in z y j) ≡ bytes) (sym same)
    (subst (λ (y : ℕ). part (written c.cells at.0 bytes) (row_in z cell y) ≡ bytes) (sym also) (part_there c.cells bytes at.0 at.1 mine long))))
    (λ (differ : j ≢ row).
    rw (eq-eqb i cell same, ne_eqb j row differ)
    (part_beside c.cells bytes at.0 q.0 q.1 (omega arith) other (subst (λ (y : ℕ). (q.0 + q.1 ≤ at.0) ⊎ (at.0 + y ≤ q.0)) (sym long) (rows_apart z cell row i j (record { cells = k.cells; rows = k.rows }) known (λ _. differ))) ∙ e))
    (cases_eq j row))
    (λ (differ : i ≢ cell).
    rw (ne_eqb i cell differ)
    (part_beside c.cells bytes at.0 q.0 q.1 (omega arith) other (subst (λ (y : ℕ). (q.0 + q.1 ≤ at.0) ⊎ (at.0 + y ≤ q.0)) (sym long) (rows_apart z cell row i j (record { cells = k.cells; rows = k.rows }) known (λ a b. differ a))) ∙ e))
    (cases_eq i cell)

pub agrees_store : (p : Page) (c : Content) (cell row : ℕ) (bytes : List ℕ) → IsSound c → Storable (content_sizes c) cell row (length bytes) → Agrees p c
    → Agrees (page_after (store cell row bytes) p) (with_row c cell row bytes)
agrees_store p c cell row bytes s k h =
    record {
      version = h.version;
      fields = h.fields;
      rows = λ i j known. row_stored c p.rows cell row i j bytes s k known (h.rows i j known);
      count = h.count;
      below = h.below;
      apart = h.apart;
    }
