-- Accepted bytes are exactly the writings of sound contents, each of one: from bytes to content and
-- back.
use Rattle.std.proofs.Common.{◌≡◌, ℕ, ◌+◌, ◌-◌, ◌^◌, ◌<◌, ◌≤◌, true, cond, ltb, List, [], ◌++◌, length, drop, is_ok, Ok, Err, Result, sym, refl, ap, ◌∙◌, subst, ⊎_elim, add-zero, mul-pos, arith, MatchResult}
use Rattle.std.proofs.ByRecursion.{All-take, All-drop}
use Rattle.std.proofs.lemmas.List.{length-append, length-take-le, length-drop}
use Rattle.std.proofs.lemmas.Bool.{cases_lt, le-ltb, lt-ltb, lt-leb, cond-true, cond-false, false≢true}
use Rattle.std.proofs.lemmas.Bool.Decides.{nat_tests}
use Rattle.std.specs.List.{AllByRecursion}
use Rattle.buffers.specs.Words.{word16, word32, Bytes}
use Rattle.faults.specs.declared.fault.Fault.{Fault}
use Rattle.format.specs.declared.extents.Extent.{Extent}
use Rattle.format.specs.declared.judging.Layout.{Layout}
use Rattle.format.specs.declared.sizes.Sizes.{Sizes}
use Rattle.format.specs.Content.{Slot, Block, Content, pack, unpack, IsFitting, section, start, header_slots, write, field_in, content_sizes, IsWritable, IsSound, blocks_at, section_end, fields_of, content_at, content, IsOnlyWriting, IsUnwritten}
use Rattle.format.specs.Header.{the_extent, extent_end, section_begin, header_end, data_start, section_size}
use Rattle.format.specs.Judging.{blocks_of, judged}
use Rattle.format.specs.Rows.{bin_width, cells_size}
use Rattle.format.specs.Section.{walk_blocks}
use Rattle.format.specs.Sizes.{early_ranges, early_bins, most_ranges, most_bins, sizes_in, sizes_of}
use Rattle.format.proofs.Blocks.{read_blocks, written_blocks}
use Rattle.format.proofs.Pieces.{piece, take_there, drop_there}
use Rattle.format.proofs.Rules.{Covers, Agrees, Rules, first_covers, each_agrees, judged_tells}
use Rattle.format.proofs.Slots.{end, Known, read_back, written_back, fits, end_slots, unpack-slots, known_words, words_known, within_slots}

-- from version 6 on the header ends at 104
pub head_six : (v : ℕ) → 6 ≤ v → header_end v ≡ 104
head_six v l = rw (le-ltb v 2 (omega arith), le-ltb v 3 (omega arith), le-ltb v 4 (omega arith), le-ltb v 5 (omega arith), le-ltb v 6 l)

-- the sizes that the header gives are those that its fields give
module _ (b : List ℕ) (v : ℕ) where
  ranges_same : (sizes_of b v).ranges ≡ (sizes_in v (field_in (fields_of b v))).ranges
  ranges_same =
      ⊎_elim (λ (h : v < 4). rw (lt-ltb v 4 h)) (λ (h : 4 ≤ v). rw (le-ltb v 2 (omega arith), le-ltb v 3 (omega arith), le-ltb v 4 h)) (cases_lt v 4)

  bins_same : (sizes_of b v).bins ≡ (sizes_in v (field_in (fields_of b v))).bins
  bins_same =
      ⊎_elim (λ (h : v < 4). rw (lt-ltb v 4 h)) (λ (h : 4 ≤ v). rw (le-ltb v 2 (omega arith), le-ltb v 3 (omega arith), le-ltb v 4 h)) (cases_lt v 4)

  first_same : (sizes_of b v).first ≡ (sizes_in v (field_in (fields_of b v))).first
  first_same =
      ⊎_elim (λ (h : v < 4). rw (lt-ltb v 4 h)) (λ (h : 4 ≤ v). rw (le-ltb v 2 (omega arith), le-ltb v 3 (omega arith), le-ltb v 4 h)) (cases_lt v 4)

  channels_same : (sizes_of b v).channels ≡ (sizes_in v (field_in (fields_of b v))).channels
  channels_same =
      ⊎_elim
      (λ (h : v < 5). rw (lt-ltb v 5 h))
      (λ (h : 5 ≤ v). rw (le-ltb v 2 (omega arith), le-ltb v 3 (omega arith), le-ltb v 4 (omega arith), le-ltb v 5 h))
      (cases_lt v 5)

  quality_same : (sizes_of b v).quality ≡ (sizes_in v (field_in (fields_of b v))).quality
  quality_same = ⊎_elim (λ (h : v < 2). rw (lt-leb 2 v h)) (λ (h : 2 ≤ v). rw (le-ltb v 2 h)) (cases_lt v 2)

  pub sizes_same : sizes_of b v ≡ sizes_in v (field_in (fields_of b v))
  sizes_same =
      λ i. record { ranges = ranges_same i; bins = bins_same i; channels = channels_same i; first = first_same i; quality = quality_same i }

-- the section's size and end, below version 6 and from it on
pub no_section : (b : List ℕ) (v : ℕ) → v < 6 → section_size b v ≡ 0
no_section b v l = rw (lt-ltb v 6 l)

pub section_is : (b : List ℕ) (v : ℕ) → 6 ≤ v → section_size b v ≡ word32 b 100
section_is b v l = rw (le-ltb v 6 l)

-- the walk that judging makes has as many steps as the section has bytes
pub walk_is : (b : List ℕ) (v : ℕ) → 6 ≤ v → blocks_of b v ≡ walk_blocks b (104 + section_size b v) (section_size b v) 104 0
walk_is b v l =
    let q : 104 + section_size b v - 104 ≡ section_size b v = omega arith in
    cond-false (ltb v 6) _ _ (le-ltb v 6 l) ∙ ap (λ n. walk_blocks b (104 + section_size b v) n 104 0) q

-- no blocks, behind a header that ends at e
none_written : (b : List ℕ) (s e d : ℕ) → s ≡ 0 → e ≤ d
    → (section (blocks_at b (e + s) s e) ++ drop (e + s) b ≡ drop e b) × AllByRecursion IsWritable (blocks_at b (e + s) s e) × (e + s ≤ d)
none_written b s e d z l = rw z (ap (λ x. drop x b) (add-zero e), tt, omega arith)

pub none_read : (b : List ℕ) (s e : ℕ) → s ≡ 0 → blocks_at b (e + s) s e ≡ []
none_read b s e z = rw z

-- blocks that pass, behind a header that ends at e
some_written : (b : List ℕ) (s e d : ℕ) → Bytes b → e ≡ 104 → 104 + s ≤ d → d ≤ length b → is_ok (walk_blocks b (104 + s) s 104 0) ≡ true
    → (section (blocks_at b (e + s) s e) ++ drop (e + s) b ≡ drop e b) × AllByRecursion IsWritable (blocks_at b (e + s) s e) × (e + s ≤ d)
some_written b s e d h is room whole ok =
    let p = written_blocks b (104 + s) s 104 0 h (omega arith) (omega arith) (omega arith) ok in
    rw is (p.0, p.1, room)

-- the blocks of an accepted file, of any version
blocks_written : (b : List ℕ) (v : ℕ) → Bytes b → header_end v ≤ data_start b → data_start b ≤ length b
    → (6 ≤ v → 104 + section_size b v ≤ data_start b) → is_ok (blocks_of b v) ≡ true
    → (section (content_at b v).blocks ++ drop (section_end b v) b ≡ drop (header_end v) b) × AllByRecursion IsWritable (content_at b v).blocks
    × (section_end b v ≤ data_start b)
blocks_written b v h covers whole room ok =
    ⊎_elim
    (λ (l : v < 6). none_written b (section_size b v) (header_end v) (data_start b) (no_section b v l) covers)
    (λ (l : 6 ≤ v).
    some_written b (section_size b v) (header_end v) (data_start b) h (head_six v l) (room l) whole (sym (ap is_ok (walk_is b v l)) ∙ ok))
    (cases_lt v 6)

-- the header of an accepted file is the writing of its fields
head_written : (ss : List Slot) (b fs : List ℕ) (n : ℕ) → unpack ss b 0 ≡ fs → end ss 0 ≡ n → Known ss b 0 → n < length b → Bytes b
    → (pack ss fs ++ drop n b ≡ b) × IsFitting ss fs
head_written ss b fs n p q k l h = rw (← p, ← q) (written_back ss b 0 k (omega arith) h, fits ss b 0 h)

-- sizes in range, whether read or assumed
in_range : (v lo hi x y : ℕ) → lo ≤ x → x ≤ hi → (4 ≤ v → (lo ≤ y) × (y ≤ hi)) → (lo ≤ cond (ltb v 4) x y) × (cond (ltb v 4) x y ≤ hi)
in_range v lo hi x y a b k =
    ⊎_elim (λ (l : v < 4). rw (lt-ltb v 4 l) (a, b)) (λ (l : 4 ≤ v). rw (le-ltb v 4 l) (k l)) (cases_lt v 4)

three : (v y : ℕ) → (5 ≤ v → y ≡ 3) → cond (ltb v 5) 3 y ≡ 3
three v y k = ⊎_elim (λ (l : v < 5). rw (lt-ltb v 5 l)) (λ (l : 5 ≤ v). rw (le-ltb v 5 l) (k l)) (cases_lt v 5)

-- where the check of a later version asks for a size, the header has it
asked : (v i x y : ℕ) (P : ℕ → Type 0) → (i ≤ v → P (cond (ltb v i) x y)) → i ≤ v → P y
asked v i x y P k l = rw (le-ltb v i l) at (k l)

-- bytes that pass the checks are the writing of the sound content that is read from them
pub read_sound : (b : List ℕ) (v : ℕ) → word16 b 0 ≡ v → Bytes b → Rules b v → IsSound (content_at b v) × (write (content_at b v) ≡ b)
read_sound b v ev h rules =
    let c = content_at b v in
    let d = data_start b in
    let e = section_end b v in
    let z = cells_size (content_sizes c) in
    let whole : d + z ≤ length b = subst (λ (y : Sizes). d + cells_size y ≤ length b) (sizes_same b v) rules.cells_inside in
    let first = first_covers b v rules in
    let q = blocks_written b v h (omega arith) (omega arith) rules.section_inside rules.blocks_pass in
    let q2 = q.2 in
    let s : length (section c.blocks) ≡ section_size b v =
    omega (arith, simp (length-append, length-drop) at (ap length q.0)) in
    let g : length c.gap ≡ d - e = length-take-le (d - e) (drop e b) (simp length-drop (omega arith)) in
    let k : length c.cells ≡ z = length-take-le z (drop d b) (simp length-drop (omega arith)) in
    let ds : start c ≡ d = omega arith in
    let x1 : word32 b 6 ≡ start c - 10 = omega arith in
    let known : Known (header_slots c) b 0 =
    known_words b v (start c) (length (section c.blocks)) rules.version_from
    (record {
      version = ev;
      extent_at = λ i from to l. omega (arith, each_agrees b v i rules from to l);
      section = λ l. sym (section_is b v l) ∙ sym s;
    }) in
    let n = length (section c.blocks) in
    let head = head_written (header_slots c) b (fields_of b v) (header_end v) (unpack-slots v (start c) n b) (end_slots v (start c) n) known rules.header_inside h in
    let cells : c.cells ++ c.tail ≡ drop d b = piece b d z in
    let ed : e + (d - e) ≡ d = omega arith in
    let gap : c.gap ++ drop d b ≡ drop e b = rw ed at (piece b e (d - e)) in
    let bins = rw (bins_same b v) at (in_range v 1 most_bins early_bins _ (omega arith) (omega arith) (asked v 4 early_bins _ (λ y. (1 ≤ y) × (y ≤ most_bins)) rules.bins)) in
    let ranges = rw (ranges_same b v) at (in_range v 1 most_ranges early_ranges _ (omega arith) (omega arith) (asked v 4 early_ranges _ (λ y. (1 ≤ y) × (y ≤ most_ranges)) rules.ranges)) in (
      record {
        version_from = rules.version_from;
        version_to = rules.version_to;
        fields_fit = head.1;
        reach = subst (λ y. y < 2 ^ 31) x1 first.0;
        bins_from = bins.0;
        bins_to = bins.1;
        ranges_from = ranges.0;
        ranges_to = ranges.1;
        channels = sym (channels_same b v) ∙ three v _ (asked v 5 3 _ (λ y. y ≡ 3) rules.channels);
        blocks_fit = q.1;
        blocks_from_six = λ l. none_read b (section_size b v) (header_end v) (no_section b v l);
        gap_bytes = All-take (λ x. x < 256) (d - e) _ (All-drop (λ x. x < 256) e b h);
        cells_bytes = All-take (λ x. x < 256) z _ (All-drop (λ x. x < 256) d b h);
        tail_bytes = All-drop (λ x. x < 256) (d + z) b h;
        cells_whole = k;
      },
      rw (cells, gap, q.0, head.0),
    )

-- the blocks that were written, in a file of any version
none_there : (b : List ℕ) (s e : ℕ) (rest : List ℕ) → s ≡ 0 → drop e b ≡ rest → (blocks_at b (e + s) s e ≡ []) × (drop (e + s) b ≡ rest)
none_there b s e rest z h = rw z (refl, ap (λ x. drop x b) (add-zero e) ∙ h)

some_there : (b : List ℕ) (s e : ℕ) (ks : List Block) (rest : List ℕ) → e ≡ 104 → s ≡ length (section ks) → AllByRecursion IsWritable ks → drop e b ≡ section ks ++ rest
    → (blocks_at b (e + s) s e ≡ ks) × (drop (e + s) b ≡ rest) × (is_ok (walk_blocks b (104 + s) s 104 0) ≡ true)
some_there b s e ks rest is long h at_head =
    let at-104 : drop 104 b ≡ section ks ++ rest = rw is at at_head in
    let p = read_blocks ks b (104 + s) s 104 0 rest h at-104 (omega arith) (omega arith) in
    rw is (p.1, p.2, p.0)

blocks_read : (b : List ℕ) (v : ℕ) (ks : List Block) (rest : List ℕ) → AllByRecursion IsWritable ks → (v < 6 → ks ≡ [])
    → (6 ≤ v → word32 b 100 ≡ length (section ks)) → drop (header_end v) b ≡ section ks ++ rest
    → ((content_at b v).blocks ≡ ks) × (drop (section_end b v) b ≡ rest) × (section_size b v ≡ length (section ks)) × (is_ok (blocks_of b v) ≡ true)
blocks_read b v ks rest h none long e =
    ⊎_elim
    (λ (l : v < 6).
    let n = none l in
    let e' : drop (header_end v) b ≡ rest = e ∙ ap (λ x. section x ++ rest) n in
    let p = none_there b (section_size b v) (header_end v) rest (no_section b v l) e' in
    (p.0 ∙ sym n, p.1, no_section b v l ∙ ap (λ x. length (section x)) (sym n), ap is_ok (cond-true (ltb v 6) _ _ (lt-ltb v 6 l))))
    (λ (l : 6 ≤ v).
    let s = section_is b v l ∙ long l in
    let p = some_there b (section_size b v) (header_end v) ks rest (head_six v l) s h e in
    (p.0, p.1, s, ap is_ok (walk_is b v l) ∙ p.2))
    (cases_lt v 6)

same : (c d : Content) → c.version ≡ d.version → c.fields ≡ d.fields → c.blocks ≡ d.blocks → c.gap ≡ d.gap → c.cells ≡ d.cells
    → c.tail ≡ d.tail → c ≡ d
same c d p q r s t u = λ i. record { version = p i; fields = q i; blocks = r i; gap = s i; cells = t i; tail = u i }

-- there is at least one byte of cells
some_cells : (s : Sizes) → 1 ≤ s.ranges → 1 ≤ s.bins → 1 ≤ cells_size s
some_cells s r n = let w : 1 ≤ bin_width s = grind (arith, nat_tests) in mul-pos r (mul-pos n w)

-- an extent of a header that was written passes its checks
extent_read : (b : List ℕ) (v d : ℕ) (e : Extent) → header_end v ≤ d → data_start b ≡ d → d - 10 < 2 ^ 31
    → 10 ≤ extent_end e → (e.level ≤ v → extent_end e ≤ header_end v) → (e.level ≤ v → word32 b e.place ≡ d - extent_end e)
    → Covers b v e × Agrees b v e
extent_read b v d e from is small ten within at =
    ((λ l. (omega (arith, within l, at l), omega (arith, within l, at l))), λ l. omega (arith, within l, at l))

-- the writing of a sound content passes the checks, and that content is read from it
pub written_read : (c : Content) → IsSound c → (b : List ℕ) → b ≡ write c
    → Rules b c.version × (content_at b c.version ≡ c) × (word16 b 0 ≡ c.version)
written_read c s b is =
    let v = c.version in
    let fs = c.fields in
    let rest = c.gap ++ (c.cells ++ c.tail) in
    let n = length (section c.blocks) in
    let ten : 10 ≤ header_end v = grind (arith, nat_tests) in
    let reach = s.reach in
    let within = within_slots v (start c) n s.version_to reach (omega arith) in
    let h = read_back (header_slots c) fs b 0 (section c.blocks ++ rest) is s.fields_fit within in
    let w = words_known b v (start c) n h.1 in
    let fields : fields_of b v ≡ fs = sym (unpack-slots v (start c) n b) ∙ h.0 in
    let at_head : drop (header_end v) b ≡ section c.blocks ++ rest = rw (end_slots v (start c) n) at h.2 in
    let q = blocks_read b v c.blocks rest s.blocks_fit s.blocks_from_six w.section at_head in
    let q2 = q.2 in
    let x1 = w.extent_at 1 (omega arith) (omega arith) s.version_from in
    let d : data_start b ≡ start c = omega arith in
    let long : length c.gap ≡ data_start b - section_end b v = omega arith in
    let to : section_end b v + (data_start b - section_end b v) ≡ data_start b = omega arith in
    let at-data : drop (data_start b) b ≡ c.cells ++ c.tail = rw to at (drop_there b c.gap _ (section_end b v) _ q.1 long) in
    let sizes : sizes_of b v ≡ content_sizes c = sizes_same b v ∙ ap (λ x. sizes_in v (field_in x)) fields in
    let z : length c.cells ≡ cells_size (sizes_in v (field_in (fields_of b v))) = s.cells_whole ∙ ap (λ x. cells_size (sizes_in v (field_in x))) (sym fields) in
    let cw : length c.cells ≡ cells_size (sizes_of b v) = s.cells_whole ∙ ap cells_size (sym sizes) in
    let some = some_cells (content_sizes c) s.ranges_from s.bins_from in
    let all : length b - data_start b ≡ length c.cells + length c.tail = simp (length-drop, length-append) at (ap length at-data) in
    let cw0 = s.cells_whole in
    let longer : data_start b < length b = omega arith in
    let whole : data_start b + cells_size (sizes_of b v) ≤ length b = omega arith in
    let from : header_end v ≤ start c = omega arith in
    let x = λ (e : Extent). extent_read b v (start c) e from d reach in
    let e1 = x (the_extent 1) (omega arith) (λ l. ten) (λ l. x1) in
    let e2 = x (the_extent 2) (omega arith) (λ l. grind (arith, nat_tests)) (w.extent_at 2 (omega arith) (omega arith)) in
    let e3 = x (the_extent 3) (omega arith) (λ l. grind (arith, nat_tests)) (w.extent_at 3 (omega arith) (omega arith)) in
    let e4 = x (the_extent 4) (omega arith) (λ l. grind (arith, nat_tests)) (w.extent_at 4 (omega arith) (omega arith)) in
    let e5 = x (the_extent 5) (omega arith) (λ l. grind (arith, nat_tests)) (w.extent_at 5 (omega arith) (omega arith)) in
    let six : 6 ≤ v → section_begin + section_size b v ≤ data_start b = λ l. omega (arith, head_six v l) in
    let bins : (1 ≤ (sizes_of b v).bins) × ((sizes_of b v).bins ≤ most_bins) =
    subst (λ (y : Sizes). (1 ≤ y.bins) × (y.bins ≤ most_bins)) (sym sizes) (s.bins_from, s.bins_to) in
    let ranges : (1 ≤ (sizes_of b v).ranges) × ((sizes_of b v).ranges ≤ most_ranges) =
    subst (λ (y : Sizes). (1 ≤ y.ranges) × (y.ranges ≤ most_ranges)) (sym sizes) (s.ranges_from, s.ranges_to) in
    let channels : (sizes_of b v).channels ≡ 3 = subst (λ (y : Sizes). y.channels ≡ 3) (sym sizes) s.channels in (
      record {
        long = omega arith;
        version_from = s.version_from;
        version_to = s.version_to;
        header_inside = omega arith;
        covers = (e1.0, (e2.0, (e3.0, (e4.0, (e5.0, tt)))));
        agrees = (e2.1, (e3.1, (e4.1, (e5.1, tt))));
        bins = λ _. bins;
        ranges = λ _. ranges;
        channels = λ _. channels;
        cells_inside = whole;
        section_inside = six;
        blocks_pass = q.3;
      },
      same (content_at b v) c refl fields q.0 (take_there b c.gap _ (section_end b v) _ q.1 long)
          (take_there b c.cells c.tail (data_start b) _ at-data z) (drop_there b c.cells c.tail (data_start b) _ at-data z),
      w.version,
    )

-- what judging answers, of every file
pub told : (b : List ℕ) → Bytes b → (r : Result Layout Fault) → r ≡ judged b → MatchResult r (λ _. IsOnlyWriting b (content b)) (λ _. IsUnwritten b)
told b h (Ok l) e =
    let p = read_sound b (word16 b 0) refl h ((judged_tells b).0 (ap is_ok (sym e))) in
    record {
      sound = p.0;
      written = p.1;
      only = λ c s w. let q = written_read c s b (sym w) in let v = q.2 in sym (rw v q.1);
    }
told b h (Err f) e =
    λ c s w. let q = written_read c s b (sym w) in let v = q.2 in false≢true (ap is_ok e ∙ (judged_tells b).1 (rw v q.0))
