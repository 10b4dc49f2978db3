-- What is read of a file is what its content says.
use Rattle.std.proofs.Common.{◌≡◌, ℕ, zero, suc, ◌+◌, ◌-◌, ◌<◌, ◌≤◌, true, List, [], ◌∷◌, ◌++◌, length, get_or, take, drop, is_ok, Some, None, Ok, Err, Option, Result, sym, refl, ap, ◌∙◌, subst, ⊎_elim, add-zero, arith, rules}
use Rattle.std.proofs.lemmas.List.{same_lists, places, length-append, length-take-le, length-drop, get_or-drop, length-map}
use Rattle.std.proofs.lemmas.Bool.{cases_lt, lt-ltb, le-leb, lt-leb}
use Rattle.std.proofs.lemmas.Bool.Decides.{nat_tests}
use Rattle.std.proofs.lemmas.Option.{slice_get_within}
use Rattle.std.specs.List.{slice_get}
use Rattle.buffers.specs.Words.{word32, Bytes}
use Rattle.faults.specs.declared.fault.Fault.{Fault}
use Rattle.format.specs.declared.judging.Layout.{Layout}
use Rattle.format.specs.Content.{Block, Content, section, start, header, header_slots, write, field_in, content_sizes, IsSound, blocks_at, content_at, content}
use Rattle.format.specs.Header.{fields, the_field, version, field_pattern, header_end, data_start, section_size}
use Rattle.format.specs.Judging.{blocks_of, block_count_of}
use Rattle.format.specs.Rows.{cells_size, row_in, row_span}
use Rattle.format.specs.Section.{key_at, data_at, block_end, walk_blocks}
use Rattle.format.proofs.Blocks.{walked_count}
use Rattle.format.proofs.Slots.{end}
use Rattle.format.proofs.Spots.{spot, fields_to, owned_slots, owned_length}
use Rattle.format.proofs.Trip.{head_six, no_section, section_is, none_read, walk_is, sizes_same, read_sound}
use Rattle.format.proofs.Writing.{header_long, few_fields, header_words, regrouped}
use Rattle.reader.specs.Answers.{part, place_after, block_place}
use Rattle.reader.specs.Laws.{IsPlaced, ContentRead, ReadFile}
use Rattle.reader.specs.Levels.{layout_of_file}
use Rattle.reader.proofs.Asked.{RowOf, row_asked}
use Rattle.reader.proofs.Place.{shift, held_judged, layout_is, rules_of, placed}
use Rattle.reader.proofs.Spans.{row_inside}

-- a file is the writing of the sound content that is read from it
pub sound_file : (b : List ℕ) (l : Layout) → Bytes b → layout_of_file b ≡ Ok l → IsSound (content b) × (write (content b) ≡ b)
sound_file b l h e = read_sound b (version b) refl h (rules_of b l (held_judged b l e))

-- a content has the fields of its version
pub field_total : (c : Content) → IsSound c → length c.fields ≡ fields_to c.version
field_total c s =
    let v = c.version in
    let table = take (fields_to v) fields in
    owned_length (header_slots c) c.fields 0 s.fields_fit ∙ ap length (owned_slots v (start c) (length (section c.blocks))) ∙ length-map table spot
    ∙ length-take-le (fields_to v) fields (few_fields v)

pub within_count : (v n : ℕ) → 1 ≤ n → n ≤ 20 → (the_field n).level ≤ v → n ≤ fields_to v
within_count v n from to seen = grind (arith, nat_tests)

-- a part of the middle one of three parts
middle : (front cells tail : List ℕ) (m at n : ℕ) → length front ≡ m → at + n ≤ length cells → take n (drop (m + at) (front ++ (cells ++ tail))) ≡ take n (drop at cells)
middle front cells tail m at n l h =
    let size_is = length-append front (cells ++ tail) in
    same_lists _ _ (search (rules, places)) (λ k z w. grind (arith, places))

-- the bytes of a row in the writing of a content are those in its cells
row_written : (c : Content) (at n : ℕ) → IsSound c → at + n ≤ length c.cells → part (write c) (start c + at, n) ≡ part c.cells (at, n)
row_written c at n s h =
    let front = header c ++ (section c.blocks ++ c.gap) in
    let hl = header_long c s.fields_fit in
    let l1 = length-append (header c) (section c.blocks ++ c.gap) in
    let l2 = length-append (section c.blocks) c.gap in
    let long : length front ≡ start c = omega arith in
    let all : write c ≡ front ++ (c.cells ++ c.tail) = regrouped (header c) (section c.blocks) c.gap (c.cells ++ c.tail) in
    ap (λ (x : List ℕ). part x (start c + at, n)) all ∙ middle front c.cells c.tail (start c) at n long h

-- the block behind k others, in what is read as blocks
block_there : (b : List ℕ) (end steps at k : ℕ) (x : Block) → slice_get (blocks_at b end steps at) k ≡ Some x
    → (take 4 (drop (place_after b at k) b) ≡ x.key) × (data_at b (place_after b at k) ≡ x.body)
block_there b end zero at k x e = let z : ◌≡◌ {A = ℕ} 0 1 = cc in absurd (omega arith)
block_there b end (suc steps) at zero x e =
    ⊎_elim
    (λ (p : at < end).
    let t = lt-leb end at p in
    let is : Some (record { key = take 4 (drop at b); body = data_at b at }) ≡ Some x = rw t at e in
    let same : record { key = take 4 (drop at b); body = data_at b at } ≡ x = cc in
    (ap (λ (y : Block). y.key) same, ap (λ (y : Block). y.body) same))
    (λ (p : end ≤ at).
    let t = le-leb end at p in
    let none : ◌≡◌ {A = Option Block} None (Some x) = rw t at e in
    let z : ◌≡◌ {A = ℕ} 0 1 = cc in
    absurd (omega arith))
    (cases_lt at end)
block_there b end (suc steps) at (suc k) x e =
    ⊎_elim
    (λ (p : at < end).
    let t = lt-leb end at p in
    let there : slice_get (blocks_at b end steps (block_end b at)) k ≡ Some x = rw t at e in
    subst (λ (y : ℕ). (take 4 (drop y b) ≡ x.key) × (data_at b y ≡ x.body)) (shift b at k) (block_there b end steps (block_end b at) k x there))
    (λ (p : end ≤ at).
    let t = le-leb end at p in
    let none : ◌≡◌ {A = Option Block} None (Some x) = rw t at e in
    let z : ◌≡◌ {A = ℕ} 0 1 = cc in
    absurd (omega arith))
    (cases_lt at end)

-- four bytes, as a list
first_four : (xs : List ℕ) → 4 ≤ length xs → get_or xs 0 0 ∷ get_or xs 1 0 ∷ get_or xs 2 0 ∷ get_or xs 3 0 ∷ [] ≡ take 4 xs
first_four [] h = absurd (omega arith)
first_four (a ∷ []) h = absurd (omega arith)
first_four (a ∷ b ∷ []) h = absurd (omega arith)
first_four (a ∷ b ∷ c ∷ []) h = absurd (omega arith)
first_four (a ∷ b ∷ c ∷ d ∷ xs) h = refl

key_taken : (b : List ℕ) (at : ℕ) → at + 4 ≤ length b → key_at b at ≡ take 4 (drop at b)
key_taken b at h =
    let byte = λ (k : ℕ). get_or-drop at b k 0 in
    let b0 : get_or (drop at b) 0 0 ≡ get_or b at 0 = byte 0 ∙ ap (λ (x : ℕ). get_or b x 0) (add-zero at) in
    let long : 4 ≤ length (drop at b) = simp length-drop (omega arith) in
    rw (← b0, ← byte 1, ← byte 2, ← byte 3) (first_four (drop at b) long)

-- the count of the blocks
counted_ok : (r : Result ℕ Fault) → is_ok r ≡ true → r ≡ Ok (block_count_of r)
counted_ok (Ok n) ok = refl
counted_ok (Err f) ok = let z : ◌≡◌ {A = ℕ} 0 1 = cc in absurd (omega arith)

counted_blocks : (b : List ℕ) (v : ℕ) → is_ok (blocks_of b v) ≡ true → block_count_of (blocks_of b v) ≡ length (content_at b v).blocks
counted_blocks b v ok =
    ⊎_elim
    (λ (l : v < 6). rw (lt-ltb v 6 l) refl)
    (λ (l : 6 ≤ v).
    let s = section_size b v in
    let head = head_six v l in
    let is : blocks_of b v ≡ walk_blocks b (104 + s) s 104 0 = walk_is b v l in
    let walked : walk_blocks b (104 + s) s 104 0 ≡ Ok (block_count_of (blocks_of b v)) = sym is ∙ counted_ok (blocks_of b v) ok in
    let all = walked_count b (104 + s) s 104 0 (block_count_of (blocks_of b v)) walked in
    let count : block_count_of (blocks_of b v) ≡ length (blocks_at b (104 + s) s 104) = omega arith in
    count ∙ ap (λ (e : ℕ). length (blocks_at b (e + s) s e)) (sym head))
    (cases_lt v 6)

-- the section's size
section_told : (b : List ℕ) (c : Content) → IsSound c → write c ≡ b → section_size b c.version ≡ length (section c.blocks)
section_told b c s w =
    ⊎_elim
    (λ (l : c.version < 6). no_section b c.version l ∙ ap (λ (ks : List Block). length (section ks)) (sym (s.blocks_from_six l)))
    (λ (l : 6 ≤ c.version). section_is b c.version l ∙ ap (λ (y : List ℕ). word32 y 100) (sym w) ∙ (header_words c s).section_at l)
    (cases_lt c.version 6)

-- the fields
field_read : (b : List ℕ) (c : Content) → IsSound c → write c ≡ b → (n : ℕ) → 1 ≤ n → n ≤ 20 → (the_field n).level ≤ c.version
    → (n ≤ length c.fields) × (field_pattern b n ≡ field_in c.fields n)
field_read b c s w n from to seen =
    let few : n ≤ length c.fields = omega (arith, within_count c.version n from to seen, field_total c s) in
    (few, ap (λ (y : List ℕ). field_pattern y n) (sym w) ∙ (header_words c s).field_at n from few)

-- the rows
row_read : (b : List ℕ) (l : Layout) (c : Content) → IsSound c → write c ≡ b → l.start ≡ start c → l.sizes ≡ content_sizes c → (cell row : ℕ) (p : ℕ × ℕ) → RowOf l cell row p
    → part b p ≡ part c.cells (row_in l.sizes cell row)
row_read b l c s w at sized cell row p o =
    let q = row_in l.sizes cell row in
    let inside = row_inside l cell row (o.cell_from, o.cell_to) (o.row_from, o.row_to) in
    let long : length c.cells ≡ cells_size l.sizes = s.cells_whole ∙ ap cells_size (sym sized) in
    let t = row_written c q.0 q.1 s (omega arith) in
    ap (part b) (sym o.span) ∙ ap (λ (y : List ℕ). part y (row_span l cell row)) (sym w) ∙ ap (λ (y : ℕ). part (write c) (y + q.0, q.1)) at ∙ t

-- the blocks
block_read : (b : List ℕ) (l : Layout) → IsPlaced b l → l.version ≡ version b → l.blocks ≡ length (content b).blocks → is_ok (blocks_of b (version b)) ≡ true
    → (k : ℕ) (x : Block) → slice_get (content b).blocks k ≡ Some x → (key_at b (block_place b k) ≡ x.key) × (data_at b (block_place b k) ≡ x.body)
block_read b l p same count ok k x e =
    let v = version b in
    let s = section_size b v in
    let less = slice_get_within (content b).blocks k x e in
    ⊎_elim
    (λ (early : v < 6).
    let none : (content b).blocks ≡ [] = none_read b s (header_end v) (no_section b v early) in
    let long : length (content b).blocks ≡ 0 = ap length none in
    absurd (omega arith))
    (λ (late : 6 ≤ v).
    let head = head_six v late in
    let there : slice_get (blocks_at b (104 + s) s 104) k ≡ Some x = rw head at e in
    let t = block_there b (104 + s) s 104 k x there in
    let room = p.blocks_inside k (omega arith) in
    let inside = p.cells_inside in
    let key : key_at b (block_place b k) ≡ take 4 (drop (block_place b k) b) = key_taken b (block_place b k) (omega arith) in
    (key ∙ t.0, t.1))
    (cases_lt v 6)

-- all of it
pub read_content : (b : List ℕ) (l : Layout) → IsSound (content b) → write (content b) ≡ b → layout_of_file b ≡ Ok l → ContentRead b l (content b)
read_content b l s w e =
    let v = version b in
    let c = content b in
    let j = held_judged b l e in
    let is = layout_is b l j in
    let rules = rules_of b l j in
    let ok : is_ok (blocks_of b v) ≡ true = rules.blocks_pass in
    let words = header_words c s in
    let x1 : word32 b 6 ≡ start c - 10 = subst (λ (y : List ℕ). word32 y 6 ≡ start c - 10) w (words.extent_at 1 (omega arith) (omega arith) s.version_from) in
    let ten : 10 ≤ header_end v = grind (arith, nat_tests) in
    let begins : data_start b ≡ start c = omega arith in
    let version_is : l.version ≡ c.version = ap (λ (m : Layout). m.version) is in
    let start_is : l.start ≡ start c = ap (λ (m : Layout). m.start) is ∙ begins in
    let sizes_are : l.sizes ≡ content_sizes c = ap (λ (m : Layout). m.sizes) is ∙ sizes_same b v in
    let blocks_are : l.blocks ≡ length c.blocks = ap (λ (m : Layout). m.blocks) is ∙ counted_blocks b v ok in
    record {
      sound = s;
      written = w;
      version_is = version_is;
      start_is = start_is;
      sizes_are = sizes_are;
      section_is = ap (λ (m : Layout). m.section) is ∙ section_told b c s w;
      blocks_are = blocks_are;
      fields = field_read b c s w;
      rows = λ cell row q a. row_read b l c s w start_is sizes_are cell row q (row_asked b l 6 cell row q e a);
      blocks = block_read b l (placed b l e) version_is blocks_are ok;
    }

pub read_file : (b : List ℕ) → Bytes b → ReadFile b
read_file b h = record { each = λ l e. let p = sound_file b l h e in read_content b l p.0 p.1 e }
