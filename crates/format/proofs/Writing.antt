-- How the writing of a content changes with the content.
use Rattle.std.proofs.Common.{◌≡◌, ℕ, ◌+◌, ◌-◌, ◌<◌, ◌≤◌, List, [], ◌∷◌, ◌++◌, map, length, get_or, take, drop, sym, refl, ap, ◌∙◌, subst, append_assoc, append-nil, add-zero, arith, rules}
use Rattle.std.proofs.lemmas.List.{same_lists, places, length-append, length-map, length-take-le, drop_at, get_or-map, get_or-take}
use Rattle.std.proofs.lemmas.Bool.{le-ltb}
use Rattle.std.proofs.lemmas.Bool.Decides.{nat_tests}
use Rattle.buffers.proofs.Encoded.{be-length}
use Rattle.buffers.specs.Moves.{written}
use Rattle.buffers.specs.Words.{Width, two, four, size, word, be, be32}
use Rattle.format.specs.Changes.{with_blocks, with_header, settled_header, HeaderWords, BlocksChange, BlockAdded, HeaderChange, FieldChange, CellsChange, VersionChange, WritingChanges}
use Rattle.format.specs.Content.{Slot, own, follows, fields_at, level, slots, pack, unpack, IsFitting, Block, Content, block_bytes, section, start, header_slots, header, write, field_in, IsSound}
use Rattle.format.specs.Header.{FieldEntry, field, fields, the_field, field_pattern, header_end}
use Rattle.format.proofs.Pieces.{take_there, drop_there}
use Rattle.format.proofs.Slots.{end, read_back, words_known, within_slots, end_slots}
use Rattle.format.proofs.Spots.{Spot, nowhere, spot, owned, fields_to, owned_slots, owned_length, unpack_owned, pack_set, pack_put}

-- a packed header is as long as its slots
pack-length : (ss : List Slot) (fs : List ℕ) (at : ℕ) → IsFitting ss fs → at + length (pack ss fs) ≡ end ss at
pack-length [] [] at h = add-zero at
pack-length [] (f ∷ fs) at h = absurd h
pack-length (own w ∷ ss) [] at h = absurd h
pack-length (own w ∷ ss) (f ∷ fs) at h =
    let l = length-append (be w f) (pack ss fs) in
    omega (arith, pack-length ss fs (at + size w) h.1, be-length w f)
pack-length (follows w x ∷ ss) fs at h =
    let l = length-append (be w x) (pack ss fs) in
    omega (arith, pack-length ss fs (at + size w) h, be-length w x)

pub header_long : (c : Content) → IsFitting (header_slots c) c.fields → length (header c) ≡ header_end c.version
header_long c h =
    let e = end_slots c.version (start c) (length (section c.blocks)) in
    let l = pack-length (header_slots c) c.fields 0 h in
    omega arith

before_end : (n m k : ℕ) → 1 ≤ n → n ≤ m → m ≡ k → n - 1 < k
before_end n m k from to is = omega arith

pub few_fields : (v : ℕ) → fields_to v ≤ 20
few_fields v = grind (arith, nat_tests)

-- the value at a field's spot
field_there : (b fs : List ℕ) (v d s n : ℕ) → unpack (slots v d s) b 0 ≡ fs → length fs ≡ length (owned (slots v d s) 0) → 1 ≤ n → n ≤ length fs
    → field_pattern b n ≡ field_in fs n
field_there b fs v d s n e l from to =
    let value : Spot → ℕ = λ p. word p.1 b p.0 in
    let table = take (fields_to v) fields in
    let o : owned (slots v d s) 0 ≡ map spot table = owned_slots v d s in
    let long : length fs ≡ length table = l ∙ ap length o ∙ length-map table spot in
    let count : length table ≡ fields_to v = length-take-le (fields_to v) fields (few_fields v) in
    let inside : n - 1 < length table = before_end n (length fs) (length table) from to long in
    let among : n - 1 < fields_to v = before_end n (length fs) (fields_to v) from to (long ∙ count) in
    let inside' : n - 1 < length (map spot table) = rw (length-map table spot) inside in
    let all : fs ≡ map value (map spot table) = sym e ∙ unpack_owned (slots v d s) b 0 ∙ ap (map value) o in
    let g1 : get_or fs (n - 1) 0 ≡ get_or (map value (map spot table)) (n - 1) 0 = ap (λ (x : List ℕ). get_or x (n - 1) 0) all in
    let g2 = get_or-map value (map spot table) (n - 1) nowhere 0 inside' in
    let g3 = get_or-map spot table (n - 1) (field 0 0 four) nowhere inside in
    let g4 = get_or-take (fields_to v) fields (n - 1) (field 0 0 four) among in
    sym (g1 ∙ g2 ∙ ap value g3 ∙ ap (λ (f : FieldEntry). value (spot f)) g4)

pub header_words : (c : Content) → IsSound c → HeaderWords c
header_words c s =
    let v = c.version in
    let n = length (section c.blocks) in
    let ten : 10 ≤ header_end v = grind (arith, nat_tests) in
    let reach = s.reach in
    let rest = section c.blocks ++ (c.gap ++ (c.cells ++ c.tail)) in
    let h = read_back (header_slots c) c.fields (write c) 0 rest refl s.fields_fit (within_slots v (start c) n s.version_to reach (omega arith)) in
    let w = words_known (write c) v (start c) n h.1 in
    let l = owned_length (header_slots c) c.fields 0 s.fields_fit in
    record {
      version_at = w.version;
      field_at = λ k from to. field_there (write c) c.fields v (start c) n k h.0 l from to;
      extent_at = w.extent_at;
      section_at = w.section;
      header_ends = header_long c s.fields_fit;
    }

section-append : (xs ys : List Block) → section (xs ++ ys) ≡ section xs ++ section ys
section-append [] ys = refl
section-append (x ∷ xs) ys = ap (λ (l : List ℕ). block_bytes x ++ l) (section-append xs ys) ∙ sym (append_assoc (block_bytes x) (section xs) (section ys))

pub regrouped : (a b c d : List ℕ) → a ++ (b ++ (c ++ d)) ≡ (a ++ (b ++ c)) ++ d
regrouped a b c d = simp append_assoc

-- the old writing, cut behind its header and at two blocks
cut_writing : (c : Content) → IsSound c → (xs ks ys : List Block) → c.blocks ≡ xs ++ (ks ++ ys)
    → (take (length (section xs)) (drop (header_end c.version) (write c)) ≡ section xs)
    × (drop (header_end c.version + length (section xs) + length (section ks)) (write c) ≡ section ys ++ (c.gap ++ (c.cells ++ c.tail)))
cut_writing c s xs ks ys e =
    let rest = c.gap ++ (c.cells ++ c.tail) in
    let at = header_end c.version in
    let all : section c.blocks ≡ section xs ++ (section ks ++ section ys) =
    ap section e ∙ section-append xs (ks ++ ys) ∙ ap (λ (l : List ℕ). section xs ++ l) (section-append ks ys) in
    let e1 : drop at (write c) ≡ section c.blocks ++ rest = drop_at (header c) _ at (header_long c s.fields_fit) in
    let e2 : drop at (write c) ≡ section xs ++ (section ks ++ (section ys ++ rest)) = e1 ∙ ap (λ (l : List ℕ). l ++ rest) all ∙ simp append_assoc in
    let e3 = drop_there (write c) (section xs) _ at (length (section xs)) e2 refl in (
      take_there (write c) (section xs) _ at (length (section xs)) e2 refl,
      drop_there (write c) (section ks) _ (at + length (section xs)) (length (section ks)) e3 refl,
    )

-- pieces of the old writing, put together with new blocks
put_together : (head all xs ns ys rest front behind : List ℕ) → all ≡ xs ++ (ns ++ ys) → front ≡ xs → behind ≡ ys ++ rest
    → head ++ (all ++ rest) ≡ head ++ (front ++ (ns ++ behind))
put_together head all xs ns ys rest front behind p q r = rw (p, q, r) (simp append_assoc)

blocks_change : (c : Content) → IsSound c → BlocksChange c
blocks_change c s xs ks ys ns e d is =
    let rest = c.gap ++ (c.cells ++ c.tail) in
    let q = cut_writing c s xs ks ys e in
    let all : section (xs ++ (ns ++ ys)) ≡ section xs ++ (section ns ++ section ys) =
    section-append xs (ns ++ ys) ∙ ap (λ (l : List ℕ). section xs ++ l) (section-append ns ys) in
    subst
    (λ (x : Content). write x ≡ header x ++ (take (length (section xs)) (drop (header_end c.version) (write c))
    ++ (section ns ++ drop (header_end c.version + length (section xs) + length (section ks)) (write c))))
    (sym is)
    (put_together (header (with_blocks c (xs ++ (ns ++ ys)))) (section (xs ++ (ns ++ ys))) (section xs) (section ns) (section ys) rest
    (take (length (section xs)) (drop (header_end c.version) (write c)))
    (drop (header_end c.version + length (section xs) + length (section ks)) (write c)) all q.0 q.1)

-- a writing with one block in the place of none
one_block : (w head front : List ℕ) (old : List ℕ) (n : ℕ) (k : Block)
    → w ≡ head ++ (front ++ (section (k ∷ []) ++ drop (n + 0) old)) → w ≡ head ++ (front ++ (block_bytes k ++ drop n old))
one_block w head front old n k e =
    e ∙ ap (λ (l : List ℕ). head ++ (front ++ (l ++ drop (n + 0) old))) (append-nil (block_bytes k))
    ∙ ap (λ (m : ℕ). head ++ (front ++ (block_bytes k ++ drop m old))) (add-zero n)

block_added : (c : Content) → IsSound c → BlockAdded c
block_added c s k d is =
    one_block (write d) (header d) (take (length (section c.blocks)) (drop (header_end c.version) (write c))) (write c)
    (header_end c.version + length (section c.blocks)) k
    (blocks_change c s c.blocks [] [] (k ∷ []) (sym (append-nil c.blocks)) d is)

-- bytes put into the middle of three parts
cells_written : (front cells tail : List ℕ) (p at : ℕ) (row : List ℕ) → length front ≡ p → at + length row ≤ length cells
    → front ++ (written cells at row ++ tail) ≡ written (front ++ (cells ++ tail)) (p + at) row
unfolding written
cells_written front cells tail p at row l h =
    let size_is = length-append front (cells ++ tail) in
    same_lists _ _ (search (rules, places)) (λ k z m. grind (arith, places))

cells_change : (c : Content) → IsSound c → CellsChange c
cells_change c s at row h =
    let front = header c ++ (section c.blocks ++ c.gap) in
    let hl = header_long c s.fields_fit in
    let l1 = length-append (header c) (section c.blocks ++ c.gap) in
    let l2 = length-append (section c.blocks) c.gap in
    let long : length front ≡ start c = omega arith in
    regrouped (header c) (section c.blocks) c.gap (written c.cells at row ++ c.tail)
    ∙ cells_written front c.cells c.tail (start c) at row long h
    ∙ ap (λ (l : List ℕ). written l (start c + at) row) (sym (regrouped (header c) (section c.blocks) c.gap (c.cells ++ c.tail)))

version_change : (c : Content) → IsSound c → VersionChange c
version_change c s v fs no_blocks no_gap =
    let e1 : drop (header_end c.version) (write c) ≡ section c.blocks ++ (c.gap ++ (c.cells ++ c.tail)) =
    drop_at (header c) _ (header_end c.version) (header_long c s.fields_fit) in
    let e2 : section c.blocks ++ (c.gap ++ (c.cells ++ c.tail)) ≡ c.cells ++ c.tail =
    ap (λ (ks : List Block). section ks ++ (c.gap ++ (c.cells ++ c.tail))) no_blocks ∙ ap (λ (l : List ℕ). l ++ (c.cells ++ c.tail)) no_gap in
    ap (λ (l : List ℕ). header (with_header c v fs) ++ l) (sym (e1 ∙ e2))

field_change : (c : Content) → IsSound c → FieldChange c
field_change c s n x from to =
    let v = c.version in
    let m = length (section c.blocks) in
    let rest = section c.blocks ++ (c.gap ++ (c.cells ++ c.tail)) in
    let table = take (fields_to v) fields in
    let o : owned (header_slots c) 0 ≡ map spot table = owned_slots v (start c) m in
    let long : length c.fields ≡ length table =
    owned_length (header_slots c) c.fields 0 s.fields_fit ∙ ap length o ∙ length-map table spot in
    let count : length table ≡ fields_to v = length-take-le (fields_to v) fields (few_fields v) in
    let inside : n - 1 < length table = before_end n (length c.fields) (length table) from to long in
    let among : n - 1 < fields_to v = before_end n (length c.fields) (fields_to v) from to (long ∙ count) in
    let there : get_or (owned (header_slots c) 0) (n - 1) nowhere ≡ spot (the_field n) =
    ap (λ (l : List Spot). get_or l (n - 1) nowhere) o ∙ get_or-map spot table (n - 1) (field 0 0 four) nowhere inside
    ∙ ap spot (get_or-take (fields_to v) fields (n - 1) (field 0 0 four) among) in
    pack_set (header_slots c) c.fields (n - 1) x [] rest 0 refl s.fields_fit (before_end n (length c.fields) (length c.fields) from to refl)
    ∙ ap (λ (p : Spot). written (write c) p.0 (be p.1 x)) there

-- values fit a header whatever the words that follow from the rest
fit_put : (pre post : List Slot) (w : Width) (x y : ℕ) (fs : List ℕ) → IsFitting (pre ++ (follows w x ∷ post)) fs → IsFitting (pre ++ (follows w y ∷ post)) fs
fit_put [] post w x y fs h = h
fit_put (own u ∷ pre) post w x y [] h = h
fit_put (own u ∷ pre) post w x y (f ∷ fs) h = (h.0, fit_put pre post w x y fs h.1)
fit_put (follows u z ∷ pre) post w x y fs h = fit_put pre post w x y fs h

-- the header of version 6 and above, whatever its extents and its section's size
abbrev six : ℕ → ℕ → ℕ → ℕ → ℕ → ℕ → ℕ → List Slot
six v a b c d e s = follows two v ∷ level 1 a (level 2 b (level 3 c (level 4 d (level 5 e (follows four s ∷ [])))))

slots_six : (v d s : ℕ) → 6 ≤ v → slots v d s ≡ six v (d - 10) (d - 16) (d - 24) (d - 72) (d - 100) s
slots_six v d s l = rw (le-ltb v 2 (omega arith), le-ltb v 3 (omega arith), le-ltb v 4 (omega arith), le-ltb v 5 (omega arith), le-ltb v 6 l)

-- one word after the other is packed anew
settle : (v : ℕ) (fs : List ℕ) (a b c d e s a' b' c' d' e' s' : ℕ) → IsFitting (six v a b c d e s) fs
    → pack (six v a' b' c' d' e' s') fs
    ≡ written (written (written (written (written (written (pack (six v a b c d e s) fs) 6 (be32 a')) 12 (be32 b')) 20 (be32 c')) 68 (be32 d')) 96 (be32 e')) 100 (be32 s')
settle v fs a b c d e s a' b' c' d' e' s' h0 =
    let p1 : List Slot = follows two v ∷ fields_at 1 fields in
    let p2 : List Slot = p1 ++ (follows four a' ∷ fields_at 2 fields) in
    let p3 : List Slot = p2 ++ (follows four b' ∷ fields_at 3 fields) in
    let p4 : List Slot = p3 ++ (follows four c' ∷ fields_at 4 fields) in
    let p5 : List Slot = p4 ++ (follows four d' ∷ fields_at 5 fields) in
    let p6 : List Slot = p5 ++ (follows four e' ∷ []) in
    let r1 : List Slot = level 2 b (level 3 c (level 4 d (level 5 e (follows four s ∷ [])))) in
    let r2 : List Slot = level 3 c (level 4 d (level 5 e (follows four s ∷ []))) in
    let r3 : List Slot = level 4 d (level 5 e (follows four s ∷ [])) in
    let r4 : List Slot = level 5 e (follows four s ∷ []) in
    let r5 : List Slot = follows four s ∷ [] in
    let h1 : IsFitting (six v a' b c d e s) fs = fit_put p1 r1 four a a' fs h0 in
    let h2 : IsFitting (six v a' b' c d e s) fs = fit_put p2 r2 four b b' fs h1 in
    let h3 : IsFitting (six v a' b' c' d e s) fs = fit_put p3 r3 four c c' fs h2 in
    let h4 : IsFitting (six v a' b' c' d' e s) fs = fit_put p4 r4 four d d' fs h3 in
    let h5 : IsFitting (six v a' b' c' d' e' s) fs = fit_put p5 r5 four e e' fs h4 in
    let s1 = pack_put p1 r1 four a a' fs [] 0 refl h0 in
    let s2 = pack_put p2 r2 four b b' fs [] 0 refl h1 in
    let s3 = pack_put p3 r3 four c c' fs [] 0 refl h2 in
    let s4 = pack_put p4 r4 four d d' fs [] 0 refl h3 in
    let s5 = pack_put p5 r5 four e e' fs [] 0 refl h4 in
    let s6 = pack_put p6 [] four s s' fs [] 0 refl h5 in
    s6
    ∙ ap (λ (x : List ℕ). written x 100 (be32 s'))
    (s5 ∙ ap (λ (x : List ℕ). written x 96 (be32 e'))
    (s4 ∙ ap (λ (x : List ℕ). written x 68 (be32 d'))
    (s3 ∙ ap (λ (x : List ℕ). written x 20 (be32 c'))
    (s2 ∙ ap (λ (x : List ℕ). written x 12 (be32 b')) s1))))

header_change : (c : Content) → IsSound c → HeaderChange c
header_change c s ks l =
    let v = c.version in
    let d = start c in
    let m = length (section c.blocks) in
    let d' = start (with_blocks c ks) in
    let m' = length (section ks) in
    let old = slots_six v d m l in
    let new = slots_six v d' m' l in
    let fit = subst (λ (x : List Slot). IsFitting x c.fields) old s.fields_fit in
    ap (λ (x : List Slot). pack x c.fields) new
    ∙ settle v c.fields (d - 10) (d - 16) (d - 24) (d - 72) (d - 100) m (d' - 10) (d' - 16) (d' - 24) (d' - 72) (d' - 100) m' fit
    ∙ ap (λ (x : List Slot). settled_header (pack x c.fields) d' m') (sym old)

pub writing_changes : WritingChanges
writing_changes c s =
    record {
      header_words = header_words c s;
      blocks_change = blocks_change c s;
      block_added = block_added c s;
      header_change = header_change c s;
      field_change = field_change c s;
      cells_change = cells_change c s;
      version_change = version_change c s;
    }
