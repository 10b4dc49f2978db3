-- Blocks edited in the writing of a content: bytes in the place of others, and the header settled.
use Rattle.std.proofs.Common.{◌≡◌, ℕ, ◌+◌, ◌-◌, ◌≤◌, max, List, [], ◌∷◌, ◌++◌, length, take, drop, replicate, sym, refl, ap, ◌∙◌, append_assoc, append-nil, arith, suc, Some, slice_set}
use Rattle.std.specs.List.{slice_get}
use Rattle.editor.proofs.calls.Lists.{cut_at, set_cut}
use Rattle.std.proofs.lemmas.List.{length-append, take-append-le, drop-append-le, take_at, drop_at}
use Rattle.std.proofs.Math.Seq.{drop-append-add}
use Rattle.buffers.specs.Moves.{written}
use Rattle.buffers.specs.Words.{be32}
use Rattle.format.specs.Changes.{with_blocks, settled_header, with_last}
use Rattle.format.specs.Content.{Block, Content, IsSound, block_bytes, section, start, header, write, block}
use Rattle.format.proofs.Spots.{written_mid}
use Rattle.format.proofs.Trip.{head_six}
use Rattle.format.proofs.Writing.{header_long, writing_changes}
use Rattle.format.specs.InBuffer.{with_file}
use Rattle.editor.specs.Blocks.{block_in}
use Rattle.editor.specs.Edits.{with_block, without_block}
use Rattle.editor.specs.steps.Patches.{with_patch}
use Rattle.buffers.proofs.Lists.{written-length}

pub section-append : (xs ys : List Block) → section (xs ++ ys) ≡ section xs ++ section ys
section-append [] ys = refl
section-append (x ∷ xs) ys = ap (λ (l : List ℕ). block_bytes x ++ l) (section-append xs ys) ∙ sym (append_assoc (block_bytes x) (section xs) (section ys))

-- ---- bytes written before others
written_before : (x y r : List ℕ) (p : ℕ) → p + length r ≤ length x → written (x ++ y) p r ≡ written x p r ++ y
unfolding written
written_before x y r p h =
    ap (λ (l : List ℕ). l ++ (r ++ drop (p + length r) (x ++ y))) (take-append-le p x y (omega arith))
    ∙ ap (λ (l : List ℕ). take p x ++ (r ++ l)) (drop-append-le (p + length r) x y h)
    ∙ ap (λ (l : List ℕ). take p x ++ l) (sym (append_assoc r (drop (p + length r) x) y))
    ∙ sym (append_assoc (take p x) (r ++ drop (p + length r) x) y)

-- in the file at the start of a buffer
pub written_file : (buffer x r : List ℕ) (old p : ℕ) → p + length r ≤ length x → written (with_file buffer old x) p r ≡ with_file buffer old (written x p r)
written_file buffer x r old p h =
    let long = written-length x p r h in
    written_before x (replicate (old - length x) 0 ++ drop (max old (length x)) buffer) r p h
    ∙ ap (λ (n : ℕ). written x p r ++ (replicate (old - n) 0 ++ drop (max old n) buffer)) (sym long)

-- a header that is settled
pub settled_in : (f : List ℕ → List ℕ) (x : List ℕ) (d s : ℕ) → 104 ≤ length x → ((y r : List ℕ) (p : ℕ) → length y ≡ length x → p + length r ≤ 104 → written (f y) p r ≡ f (written y p r))
    → settled_header (f x) d s ≡ f (settled_header x d s)
settled_in f x d s long through =
    let x1 = written x 6 (be32 (d - 10)) in
    let x2 = written x1 12 (be32 (d - 16)) in
    let x3 = written x2 20 (be32 (d - 24)) in
    let x4 = written x3 68 (be32 (d - 72)) in
    let x5 = written x4 96 (be32 (d - 100)) in
    let l1 : length x1 ≡ length x = written-length x 6 (be32 (d - 10)) (omega arith) in
    let l2 : length x2 ≡ length x = written-length x1 12 (be32 (d - 16)) (omega arith) ∙ l1 in
    let l3 : length x3 ≡ length x = written-length x2 20 (be32 (d - 24)) (omega arith) ∙ l2 in
    let l4 : length x4 ≡ length x = written-length x3 68 (be32 (d - 72)) (omega arith) ∙ l3 in
    let l5 : length x5 ≡ length x = written-length x4 96 (be32 (d - 100)) (omega arith) ∙ l4 in
    ap (λ (y : List ℕ). written (written (written (written (written y 12 (be32 (d - 16))) 20 (be32 (d - 24))) 68 (be32 (d - 72))) 96 (be32 (d - 100))) 100 (be32 s))
    (through x (be32 (d - 10)) 6 refl (omega arith))
    ∙ ap (λ (y : List ℕ). written (written (written (written y 20 (be32 (d - 24))) 68 (be32 (d - 72))) 96 (be32 (d - 100))) 100 (be32 s))
    (through x1 (be32 (d - 16)) 12 l1 (omega arith))
    ∙ ap (λ (y : List ℕ). written (written (written y 68 (be32 (d - 72))) 96 (be32 (d - 100))) 100 (be32 s)) (through x2 (be32 (d - 24)) 20 l2 (omega arith))
    ∙ ap (λ (y : List ℕ). written (written y 96 (be32 (d - 100))) 100 (be32 s)) (through x3 (be32 (d - 72)) 68 l3 (omega arith))
    ∙ ap (λ (y : List ℕ). written y 100 (be32 s)) (through x4 (be32 (d - 100)) 96 l4 (omega arith))
    ∙ through x5 (be32 s) 100 l5 (omega arith)

pub settled_file : (buffer x : List ℕ) (old d s : ℕ) → 104 ≤ length x → settled_header (with_file buffer old x) d s ≡ with_file buffer old (settled_header x d s)
settled_file buffer x old d s long = settled_in (with_file buffer old) x d s long (λ y r p same in-header. written_file buffer y r old p (omega arith))

settled_before : (x y : List ℕ) (d s : ℕ) → 104 ≤ length x → settled_header (x ++ y) d s ≡ settled_header x d s ++ y
settled_before x y d s long = settled_in (λ z. z ++ y) x d s long (λ z r p same in-header. written_before z y r p (omega arith))

-- ---- the writing of a content with other blocks
rest : Content → List ℕ
rest c = c.gap ++ (c.cells ++ c.tail)

pub head_long : (c : Content) → IsSound c → 6 ≤ c.version → length (header c) ≡ 104
head_long c s late = header_long c s.fields_fit ∙ head_six c.version late

write_blocks : (c : Content) (ks : List Block) → IsSound c → 6 ≤ c.version
    → write (with_blocks c ks) ≡ settled_header (header c ++ (section ks ++ (c.gap ++ (c.cells ++ c.tail)))) (start (with_blocks c ks)) (length (section ks))
write_blocks c ks s late =
    let z = section ks ++ (c.gap ++ (c.cells ++ c.tail)) in
    let head = head_long c s late in
    ap (λ (h : List ℕ). h ++ z) ((writing_changes c s).header_change ks late) ∙ sym (settled_before (header c) z (start (with_blocks c ks)) (length (section ks)) (omega arith))

-- ---- bytes in the place of others
patch_lists : (h p q r new : List ℕ) (at removed : ℕ) → length h + length p ≡ at → length q ≡ removed → with_patch (h ++ (p ++ (q ++ r))) at removed new ≡ h ++ (p ++ (new ++ r))
patch_lists h p q r new at removed long gone =
    let all : h ++ (p ++ (q ++ r)) ≡ (h ++ p) ++ (q ++ r) = sym (append_assoc h p (q ++ r)) in
    let front : length (h ++ p) ≡ at = length-append h p ∙ long in
    let t : take at (h ++ (p ++ (q ++ r))) ≡ h ++ p = ap (take at) all ∙ take_at (h ++ p) (q ++ r) at front in
    let d : drop (at + removed) (h ++ (p ++ (q ++ r))) ≡ r =
    ap (drop (at + removed)) all ∙ ap (λ (n : ℕ). drop (n + removed) ((h ++ p) ++ (q ++ r))) (sym front) ∙ drop-append-add (h ++ p) (q ++ r) removed
    ∙ drop_at q r removed gone in
    ap (λ (x : List ℕ). x ++ (new ++ drop (at + removed) (h ++ (p ++ (q ++ r))))) t ∙ ap (λ (x : List ℕ). (h ++ p) ++ (new ++ x)) d ∙ append_assoc h p (new ++ r)

-- a block more behind the last
pub last_written : (c : Content) (b : Block) → IsSound c → 6 ≤ c.version
    → write (with_last c b) ≡ settled_header (with_patch (write c) (104 + length (section c.blocks)) 0 (block_bytes b)) (start (with_last c b)) (length (section (c.blocks ++ (b ∷ []))))
last_written c b s late =
    let ks = c.blocks ++ (b ∷ []) in
    let z = c.gap ++ (c.cells ++ c.tail) in
    let more : section ks ≡ section c.blocks ++ block_bytes b = section-append c.blocks (b ∷ []) ∙ ap (λ (l : List ℕ). section c.blocks ++ l) (append-nil (block_bytes b)) in
    let head = head_long c s late in
    let patch = patch_lists (header c) (section c.blocks) [] z (block_bytes b) (104 + length (section c.blocks)) 0 (omega arith) refl in
    write_blocks c ks s late
    ∙ ap (λ (l : List ℕ). settled_header (header c ++ (l ++ z)) (start (with_last c b)) (length (section ks))) more
    ∙ ap (λ (l : List ℕ). settled_header (header c ++ l) (start (with_last c b)) (length (section ks))) (append_assoc (section c.blocks) (block_bytes b) z)
    ∙ ap (λ (l : List ℕ). settled_header l (start (with_last c b)) (length (section ks))) (sym patch)

-- a section cut at a block
pub section_cut : (xs ys : List Block) (b : Block) → section (xs ++ (b ∷ ys)) ≡ section xs ++ (block_bytes b ++ section ys)
section_cut xs ys b = section-append xs (b ∷ ys)

-- where block k begins, behind the blocks before it
abbrev pub before : Content → ℕ → ℕ
before c k = 104 + length (section (take (k - 1) c.blocks))

pub one_on : (k : ℕ) → 1 ≤ k → suc (k - 1) ≡ k
one_on k from = omega arith

-- the writing, cut at block k
cut_writing : (c : Content) (k : ℕ) → 1 ≤ k → slice_get c.blocks (k - 1) ≡ Some (block_in c.blocks k)
    → write c ≡ header c ++ (section (take (k - 1) c.blocks) ++ (block_bytes (block_in c.blocks k) ++ (section (drop k c.blocks) ++ (c.gap ++ (c.cells ++ c.tail)))))
cut_writing c k from e =
    let xs = take (k - 1) c.blocks in
    let ys = drop k c.blocks in
    let b = block_in c.blocks k in
    let z = c.gap ++ (c.cells ++ c.tail) in
    let all : section c.blocks ≡ section xs ++ (block_bytes b ++ section ys) =
    ap section (cut_at c.blocks (k - 1) b e) ∙ ap (λ (n : ℕ). section (xs ++ (b ∷ drop n c.blocks))) (one_on k from) ∙ section_cut xs ys b in
    ap (λ (l : List ℕ). header c ++ (l ++ z)) all ∙ ap (λ (l : List ℕ). header c ++ l) (append_assoc (section xs) (block_bytes b ++ section ys) z)
    ∙ ap (λ (l : List ℕ). header c ++ (section xs ++ l)) (append_assoc (block_bytes b) (section ys) z)

-- a block less
pub removed_written : (c : Content) (k : ℕ) → IsSound c → 6 ≤ c.version → 1 ≤ k → slice_get c.blocks (k - 1) ≡ Some (block_in c.blocks k)
    → write (without_block c k)
    ≡ settled_header (with_patch (write c) (before c k) (length (block_bytes (block_in c.blocks k))) []) (start (without_block c k)) (length (section (take (k - 1) c.blocks ++ drop k c.blocks)))
removed_written c k s late from e =
    let xs = take (k - 1) c.blocks in
    let ys = drop k c.blocks in
    let b = block_in c.blocks k in
    let z = c.gap ++ (c.cells ++ c.tail) in
    let d = start (without_block c k) in
    let n = length (section (xs ++ ys)) in
    let head = head_long c s late in
    let patch : with_patch (write c) (before c k) (length (block_bytes b)) [] ≡ header c ++ (section xs ++ (section ys ++ z)) =
    ap (λ (l : List ℕ). with_patch l (before c k) (length (block_bytes b)) []) (cut_writing c k from e)
    ∙ patch_lists (header c) (section xs) (block_bytes b) (section ys ++ z) [] (before c k) (length (block_bytes b)) (omega arith) refl in
    write_blocks c (xs ++ ys) s late
    ∙ ap (λ (l : List ℕ). settled_header (header c ++ (l ++ z)) d n) (section-append xs ys)
    ∙ ap (λ (l : List ℕ). settled_header (header c ++ l) d n) (append_assoc (section xs) (section ys) z)
    ∙ ap (λ (l : List ℕ). settled_header l d n) (sym patch)

-- bytes in a block's data in the place of others, and the size of the data written anew
body_lists : (h p key size size' kept gone more new z : List ℕ) (at place removed : ℕ) → length h + length p ≡ at → length key ≡ 4 → length size ≡ 4 → length size' ≡ 4
    → at + 8 + length kept ≡ place → length gone ≡ removed
    → written (with_patch (h ++ (p ++ ((key ++ (size ++ (kept ++ (gone ++ more)))) ++ z))) place removed new) (at + 4) size'
    ≡ h ++ (p ++ ((key ++ (size' ++ (kept ++ (new ++ more)))) ++ z))
body_lists h p key size size' kept gone more new z at place removed front four width width' there count =
    let before = h ++ (p ++ key) in
    let head = before ++ size in
    let l1 = length-append h (p ++ key) in
    let l2 = length-append p key in
    let l3 = length-append before size in
    let old : h ++ (p ++ ((key ++ (size ++ (kept ++ (gone ++ more)))) ++ z)) ≡ head ++ (kept ++ (gone ++ (more ++ z))) = simp append_assoc in
    let now : head ++ (kept ++ (new ++ (more ++ z))) ≡ before ++ (size ++ (kept ++ (new ++ (more ++ z)))) = append_assoc before size (kept ++ (new ++ (more ++ z))) in
    let last : before ++ (size' ++ (kept ++ (new ++ (more ++ z)))) ≡ h ++ (p ++ ((key ++ (size' ++ (kept ++ (new ++ more)))) ++ z)) = simp append_assoc in
    ap (λ (l : List ℕ). written (with_patch l place removed new) (at + 4) size') old
    ∙ ap (λ (l : List ℕ). written l (at + 4) size') (patch_lists head kept gone (more ++ z) new place removed (omega arith) count ∙ now)
    ∙ written_mid before size size' (kept ++ (new ++ (more ++ z))) (at + 4) (omega arith) (width' ∙ sym width)
    ∙ last

pub changed_written : (c : Content) (k : ℕ) (kept gone more new : List ℕ) → IsSound c → 6 ≤ c.version → 1 ≤ k → k ≤ length c.blocks → slice_get c.blocks (k - 1) ≡ Some (block_in c.blocks k)
    → length (block_in c.blocks k).key ≡ 4 → (block_in c.blocks k).body ≡ kept ++ (gone ++ more)
    → write (with_block c k (block (block_in c.blocks k).key (kept ++ (new ++ more))))
    ≡ settled_header (written (with_patch (write c) (before c k + 8 + length kept) (length gone) new) (before c k + 4) (be32 (length (kept ++ (new ++ more)))))
    (start (with_block c k (block (block_in c.blocks k).key (kept ++ (new ++ more))))) (length (section (slice_set c.blocks (k - 1) (block (block_in c.blocks k).key (kept ++ (new ++ more))))))
changed_written c k kept gone more new s late from to e four body =
    let xs = take (k - 1) c.blocks in
    let ys = drop k c.blocks in
    let b = block_in c.blocks k in
    let x = block b.key (kept ++ (new ++ more)) in
    let z = c.gap ++ (c.cells ++ c.tail) in
    let ks = slice_set c.blocks (k - 1) x in
    let d = start (with_block c k x) in
    let n = length (section ks) in
    let head = head_long c s late in
    let all : section ks ≡ section xs ++ (block_bytes x ++ section ys) =
    ap section (set_cut c.blocks (k - 1) x (omega arith)) ∙ ap (λ (i : ℕ). section (xs ++ (x ∷ drop i c.blocks))) (one_on k from) ∙ section_cut xs ys x in
    let old : write c ≡ header c ++ (section xs ++ ((b.key ++ (be32 (length b.body) ++ (kept ++ (gone ++ more)))) ++ (section ys ++ z))) =
    cut_writing c k from e ∙ ap (λ (l : List ℕ). header c ++ (section xs ++ ((b.key ++ (be32 (length b.body) ++ l)) ++ (section ys ++ z)))) body in
    let patch : written (with_patch (write c) (before c k + 8 + length kept) (length gone) new) (before c k + 4) (be32 (length (kept ++ (new ++ more))))
    ≡ header c ++ (section xs ++ (block_bytes x ++ (section ys ++ z))) =
    ap (λ (l : List ℕ). written (with_patch l (before c k + 8 + length kept) (length gone) new) (before c k + 4) (be32 (length (kept ++ (new ++ more))))) old
    ∙ body_lists (header c) (section xs) b.key (be32 (length b.body)) (be32 (length (kept ++ (new ++ more)))) kept gone more new (section ys ++ z) (before c k) (before c k + 8 + length kept) (length gone)
    (omega arith) four refl refl refl refl in
    write_blocks c ks s late
    ∙ ap (λ (l : List ℕ). settled_header (header c ++ (l ++ z)) d n) all
    ∙ ap (λ (l : List ℕ). settled_header (header c ++ l) d n) (append_assoc (section xs) (block_bytes x ++ section ys) z)
    ∙ ap (λ (l : List ℕ). settled_header (header c ++ (section xs ++ l)) d n) (append_assoc (block_bytes x) (section ys) z)
    ∙ ap (λ (l : List ℕ). settled_header l d n) (sym patch)
