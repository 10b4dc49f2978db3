-- An edit makes a sound content of a sound one.
use Rattle.std.proofs.Common.{◌≡◌, ℕ, zero, suc, ◌+◌, ◌-◌, ◌^◌, ◌<◌, ◌≤◌, ltb, Bool, true, false, not, cond, List, [], ◌∷◌, length, get_or, set, take, Ok, sym, refl, ap, ◌∙◌, subst, ◌≢◌, arith}
use Rattle.std.proofs.lemmas.Bool.{leb-true, and_parts, eqb-true}
use Rattle.std.proofs.lemmas.Bool.Decides.{nat_tests}
use Rattle.std.proofs.lemmas.List.{length-take-le, get_or-set_other, get_or-map, get_or-take}
use Rattle.std.proofs.ByRecursion.{All-take, All-drop, All-append}
use Rattle.buffers.specs.Moves.{written}
use Rattle.buffers.specs.Words.{four, size, limit, Bytes}
use Rattle.format.specs.declared.sizes.Sizes.{Sizes}
use Rattle.format.specs.Changes.{with_field}
use Rattle.format.specs.Checks.{all_of}
use Rattle.format.specs.Content.{Slot, own, follows, IsFitting, Content, header_slots, section, start, field_in, content_sizes, IsSound}
use Rattle.format.specs.Header.{field, fields, the_field, is_steering}
use Rattle.buffers.proofs.Lists.{written-length}
use Rattle.format.specs.Rows.{bin_width, cells_size, row_in, width_before, width_of, row_count}
use Rattle.format.specs.Sizes.{quality_in}
use Rattle.format.proofs.Spots.{Spot, nowhere, spot, owned, owned_slots, fields_to}
use Rattle.format.proofs.Writing.{few_fields}
use Rattle.reader.specs.Levels.{field_present, row_known}
use Rattle.format.specs.Conditions.{field_known, as_long}
use Rattle.reader.proofs.Asked.{then_ok, unless_ok, within}
use Rattle.reader.proofs.Spans.{row_within, span_within}
use Rattle.reader.proofs.Written.{field_total, within_count}
use Rattle.editor.specs.Edits.{field_free, set_conditions, store_conditions, with_row}

-- a value that fits is put among values that fit
fit_set : (ss : List Slot) (fs : List ℕ) (at i x : ℕ) → IsFitting ss fs → i < length fs → x < limit (get_or (owned ss at) i nowhere).1 → IsFitting ss (set fs i x)
fit_set [] [] at i x h k l = absurd (omega arith)
fit_set [] (f ∷ fs) at i x h k l = absurd h
fit_set (own w ∷ ss) [] at i x h k l = absurd h
fit_set (own w ∷ ss) (f ∷ fs) at zero x h k l = (l, h.1)
fit_set (own w ∷ ss) (f ∷ fs) at (suc i) x h k l = (h.0, fit_set ss fs (at + size w) i x h.1 (omega arith) l)
fit_set (follows w y ∷ ss) fs at i x h k l = fit_set ss fs (at + size w) i x h k l

-- what is known of a field that may be set
pub record Settable (v n : ℕ) : Type 0 where
  pub from : 1 ≤ n
  pub to : n ≤ 20
  pub free : is_steering n ≡ false
  pub present : (the_field n).level ≤ v

not_true : (t : Bool) → not t ≡ true → t ≡ false
not_true true e = let z : ◌≡◌ {A = ℕ} 0 1 = cc in absurd (omega arith)
not_true false e = refl

pub settable : (v n : ℕ) → all_of (set_conditions v n) ≡ Ok tt → Settable v n
settable v n e =
    let c1 = then_ok (field_known n) _ tt e in
    let c2 = then_ok (field_free n) _ tt c1.1 in
    let c3 = then_ok (field_present v n) _ tt c2.1 in
    let known = within 1 n 20 (unless_ok _ _ c1.0) in
    record { from = known.0; to = known.1; free = not_true (is_steering n) (unless_ok _ _ c2.0); present = leb-true _ _ (unless_ok _ _ c3.0) }

-- the steering fields are other fields
pub steering_other : (v n k : ℕ) → Settable v n → 1 ≤ k → is_steering k ≡ true → k - 1 ≢ n - 1
steering_other v n k s from e same =
    let is : k ≡ n = omega (arith, s.from) in
    let clash : true ≡ false = sym e ∙ ap is_steering is ∙ s.free in
    let z : ◌≡◌ {A = ℕ} 0 1 = cc in
    omega arith

-- and keep their values
steering_kept : (fs : List ℕ) (v n x k : ℕ) → Settable v n → 1 ≤ k → is_steering k ≡ true → field_in (set fs (n - 1) x) k ≡ field_in fs k
steering_kept fs v n x k s from e = get_or-set_other fs (n - 1) (k - 1) x 0 (steering_other v n k s from e)

module _ (c : Content) (n x : ℕ) (k : Settable c.version n) where
  pub bins_kept : (content_sizes (with_field c n x)).bins ≡ (content_sizes c).bins
  bins_kept = ap (λ (y : ℕ). cond (ltb c.version 4) 512 y) (steering_kept c.fields c.version n x 11 k (omega arith) refl)

  pub ranges_kept : (content_sizes (with_field c n x)).ranges ≡ (content_sizes c).ranges
  ranges_kept = ap (λ (y : ℕ). cond (ltb c.version 4) 31 y) (steering_kept c.fields c.version n x 12 k (omega arith) refl)

  pub channels_kept : (content_sizes (with_field c n x)).channels ≡ (content_sizes c).channels
  channels_kept = ap (λ (y : ℕ). cond (ltb c.version 5) 3 y) (steering_kept c.fields c.version n x 19 k (omega arith) refl)

  pub quality_kept : (content_sizes (with_field c n x)).quality ≡ (content_sizes c).quality
  quality_kept = ap (λ (y : ℕ). quality_in c.version (λ m. y)) (steering_kept c.fields c.version n x 2 k (omega arith) refl)

  pub cells_kept : cells_size (content_sizes (with_field c n x)) ≡ cells_size (content_sizes c)
  cells_kept = rw (ranges_kept, bins_kept, quality_kept) refl

-- a field that may be set has 32 bits
not_two : (n : ℕ) → is_steering n ≡ false → n ≢ 2
not_two n e is = let clash : true ≡ false = sym (ap is_steering is) ∙ e in let z : ◌≡◌ {A = ℕ} 0 1 = cc in omega arith

wide_field : (n : ℕ) → 1 ≤ n → n ≤ 20 → n ≢ 2 → (the_field n).width ≡ four
wide_field n from to other = grind (arith, nat_tests)

pub wide : (v n : ℕ) → Settable v n → (the_field n).width ≡ four
wide v n k = wide_field n k.from k.to (not_two n k.free)

-- the spot of a field among the slots
there : (c : Content) (n : ℕ) → IsSound c → Settable c.version n → get_or (owned (header_slots c) 0) (n - 1) nowhere ≡ spot (the_field n)
there c n s k =
    let v = c.version in
    let table = take (fields_to v) fields in
    let few = within_count v n k.from k.to k.present in
    let count : length table ≡ fields_to v = length-take-le (fields_to v) fields (few_fields v) in
    let from = k.from in
    let inside : n - 1 < length table = omega arith in
    let among : n - 1 < fields_to v = omega arith in
    ap (λ (l : List Spot). get_or l (n - 1) nowhere) (owned_slots v (start c) (length (section c.blocks)))
    ∙ get_or-map spot table (n - 1) (field 0 0 four) nowhere inside
    ∙ ap spot (get_or-take (fields_to v) fields (n - 1) (field 0 0 four) among)

index : (n m k : ℕ) → 1 ≤ n → n ≤ m → k ≡ m → n - 1 < k
index n m k from to is = omega arith

pub sound_field : (c : Content) (n x : ℕ) → IsSound c → Settable c.version n → x < 2 ^ 32 → IsSound (with_field c n x)
sound_field c n x s k less =
    let d = with_field c n x in
    let inside = index n (fields_to c.version) (length c.fields) k.from (within_count c.version n k.from k.to k.present) (field_total c s) in
    let width : limit (get_or (owned (header_slots c) 0) (n - 1) nowhere).1 ≡ 2 ^ 32 =
    ap (λ (p : Spot). limit p.1) (there c n s k) ∙ ap limit (wide c.version n k) in
    let bins = bins_kept c n x k in
    let ranges = ranges_kept c n x k in
    record {
      version_from = s.version_from;
      version_to = s.version_to;
      fields_fit = fit_set (header_slots c) c.fields 0 (n - 1) x s.fields_fit inside (subst (λ (y : ℕ). x < y) (sym width) less);
      reach = s.reach;
      bins_from = subst (λ (y : ℕ). 1 ≤ y) (sym bins) s.bins_from;
      bins_to = subst (λ (y : ℕ). y ≤ 32768) (sym bins) s.bins_to;
      ranges_from = subst (λ (y : ℕ). 1 ≤ y) (sym ranges) s.ranges_from;
      ranges_to = subst (λ (y : ℕ). y ≤ 8192) (sym ranges) s.ranges_to;
      channels = channels_kept c n x k ∙ s.channels;
      blocks_fit = s.blocks_fit;
      blocks_from_six = s.blocks_from_six;
      gap_bytes = s.gap_bytes;
      cells_bytes = s.cells_bytes;
      tail_bytes = s.tail_bytes;
      cells_whole = s.cells_whole ∙ sym (cells_kept c n x k);
    }

-- a row that is stored is one of the file's, and as long
pub record Storable (s : Sizes) (cell row m : ℕ) : Type 0 where
  pub cells : (1 ≤ cell) × (cell ≤ s.ranges)
  pub rows : (1 ≤ row) × (row ≤ row_count s)
  pub long : m ≡ (row_in s cell row).1

pub storable : (s : Sizes) (cell row m : ℕ) → all_of (store_conditions s cell row m) ≡ Ok tt → Storable s cell row m
storable s cell row m e =
    let c1 = then_ok (row_known s cell row) _ tt e in
    let c2 = then_ok (as_long (row_in s cell row).1 m) _ tt c1.1 in
    let both = and_parts _ _ (unless_ok _ _ c1.0) in
    record { cells = within 1 cell s.ranges both.0; rows = within 1 row (row_count s) both.1; long = eqb-true m _ (unless_ok _ _ c2.0) }

-- bytes that are written among bytes
pub bytes_written : (b : List ℕ) (at : ℕ) (r : List ℕ) → Bytes b → Bytes r → Bytes (written b at r)
unfolding written
bytes_written b at r h k =
    All-append (λ x. x < 256) _ _ (All-take (λ x. x < 256) at b h) (All-append (λ x. x < 256) _ _ k (All-drop (λ x. x < 256) (at + length r) b h))

-- a row lies in the cells
pub row_among : (c : Content) (cell row : ℕ) → IsSound c → (1 ≤ cell) × (cell ≤ (content_sizes c).ranges) → (1 ≤ row) × (row ≤ row_count (content_sizes c))
    → (row_in (content_sizes c) cell row).0 + (row_in (content_sizes c) cell row).1 ≤ length c.cells
row_among c cell row s cells rows =
    let z = content_sizes c in
    let fits = row_within z row rows.0 rows.1 in
    let t = span_within cell z.ranges z.bins (width_before z row) (width_of z row) (bin_width z) cells.0 cells.1 fits in
    omega (arith, s.cells_whole)

pub sound_row : (c : Content) (cell row : ℕ) (bytes : List ℕ) → IsSound c → Storable (content_sizes c) cell row (length bytes) → Bytes bytes → IsSound (with_row c cell row bytes)
sound_row c cell row bytes s k h =
    let at = (row_in (content_sizes c) cell row).0 in
    let inside = row_among c cell row s k.cells k.rows in
    let long = written-length c.cells at bytes (omega (arith, k.long)) in
    record {
      version_from = s.version_from;
      version_to = s.version_to;
      fields_fit = s.fields_fit;
      reach = s.reach;
      bins_from = s.bins_from;
      bins_to = s.bins_to;
      ranges_from = s.ranges_from;
      ranges_to = s.ranges_to;
      channels = s.channels;
      blocks_fit = s.blocks_fit;
      blocks_from_six = s.blocks_from_six;
      gap_bytes = s.gap_bytes;
      cells_bytes = bytes_written c.cells at bytes s.cells_bytes h;
      tail_bytes = s.tail_bytes;
      cells_whole = long ∙ s.cells_whole;
    }
