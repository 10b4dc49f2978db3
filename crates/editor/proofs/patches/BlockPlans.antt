-- What the plans of all edits of blocks share, and the plan of a carry.
use Rattle.std.proofs.Common.{◌≡◌, ℕ, ◌+◌, ◌-◌, ◌≤◌, List, [], ◌∷◌, ◌++◌, length, take, Ok, Err, Result, sym, refl, ap, ◌∙◌, subst, append_assoc, append-nil, arith}
use Rattle.std.proofs.lemmas.List.{length-append}
use Rattle.buffers.specs.Moves.{written}
use Rattle.buffers.specs.Words.{be32}
use Rattle.faults.specs.declared.fault.Fault.{Fault}
use Rattle.format.specs.declared.judging.Layout.{Layout}
use Rattle.format.specs.Changes.{with_blocks, settled_header, with_last}
use Rattle.format.specs.Checks.{Check, ◌then◌, ◌with◌}
use Rattle.format.specs.Content.{Block, Content, block_bytes, section, start, write, content, block}
use Rattle.reader.specs.Laws.{ReadFile}
use Rattle.reader.specs.Levels.{layout_of_file, blocks_present}
use Rattle.editor.specs.declared.patch.Patch.{Patch}
use Rattle.editor.specs.Edits.{Edit, carry, edited_content}
use Rattle.editor.specs.Calls.{WorkState, file, Call, edit, new_content}
use Rattle.format.specs.InBuffer.{with_file}
use Rattle.editor.specs.steps.Patches.{with_patch, with_room_made, IsFittingPatch, IsCarryPlan, patch_behind, last_patch, with_block_carried, with_data_put}
use Rattle.buffers.proofs.Lists.{written_on, written_apart, written-length}
use Rattle.editor.proofs.patches.Filling.{settled-length, patched-length, written_in_file, filled, roomed-length}
use Rattle.editor.proofs.calls.Held.{holding_of, file_content_is, size_is, end_is}
use Rattle.editor.proofs.laws.KeptBlocks.{late_from}
use Rattle.editor.proofs.patches.Planning.{patch_is, Lies, lies, Plan, planned}
use Rattle.editor.proofs.patches.Spliced.{section-append, last_written}

-- an edit with no file to edit, and one whose conditions are not passed
pub none_held : (s : WorkState) (e : Edit) (r : Result Layout Fault) (g : Fault) → layout_of_file (file s) ≡ r → r ≡ Err g → new_content (edit e) s ≡ Err g
none_held s e r g h is = ap (λ (y : Result Layout Fault). (y with λ l. Ok (content (file s))) with edited_content e) (h ∙ is)

pub file_wants : (s : WorkState) (e : Edit) (l : Layout) → ReadFile (file s) → layout_of_file (file s) ≡ Ok l → new_content (edit e) s ≡ edited_content e (content (file s))
file_wants s e l read h = ap (λ (y : Result Content Fault). y with edited_content e) (file_content_is s (content (file s)) (holding_of s l read h))

-- sums of sizes
behind_word : (q w at : ℕ) → 104 ≤ q → q + w ≤ at → 104 ≤ at
behind_word q w at h k = omega arith

gone_inside : (at removed section : ℕ) → 104 ≤ at → at + removed ≤ 104 + section → removed ≤ section
gone_inside at removed section h k = omega arith

in_file : (s : WorkState) (l : Layout) (at removed : ℕ) → Lies s l → at + removed ≤ 104 + l.section → at + removed ≤ s.size
in_file s l at removed h k = let start = h.start_to in let section = h.section_to in omega arith

added_inside : (s : WorkState) (l : Layout) (at removed added : ℕ) → Lies s l → at + removed ≤ 104 + l.section → s.size + added - removed ≤ length s.buffer → at + added ≤ length s.buffer
added_inside s l at removed added h k room = let start = h.start_to in let section = h.section_to in omega arith

before_end : (s : WorkState) (l : Layout) (q w at removed added n : ℕ) → Lies s l → q + w ≤ at → at + removed ≤ 104 + l.section → n ≡ s.size + added - removed → q + w ≤ n
before_end s l q w at removed added n h k inside e = let start = h.start_to in let section = h.section_to in omega arith

header_in : (s : WorkState) (l : Layout) (q w at removed added n : ℕ) → Lies s l → 104 ≤ q → q + w ≤ at → at + removed ≤ 104 + l.section → n ≡ s.size + added - removed → 104 ≤ n
header_in s l q w at removed added n h front k inside e = let start = h.start_to in let section = h.section_to in omega arith

start_moved : (c : Content) (ks : List Block) (l : Layout) (removed added : ℕ) → l.start ≡ start c → l.section ≡ length (section c.blocks) → length (section ks) ≡ l.section + added - removed → removed ≤ l.section
    → start (with_blocks c ks) ≡ l.start + added - removed
start_moved c ks l removed added at sect long less = omega arith

patched_plain : (c : Content) (s : WorkState) (l : Layout) (at removed : ℕ) (new : List ℕ) → length (write c) ≡ s.size → Lies s l → 104 ≤ at → at + removed ≤ 104 + l.section
    → length (with_patch (write c) at removed new) ≡ s.size + length new - removed
patched_plain c s l at removed new size h front inside =
    let start = h.start_to in
    let section = h.section_to in
    let all = patched-length (write c) at removed new (omega arith) in
    omega arith

patched_size : (c : Content) (s : WorkState) (l : Layout) (at removed : ℕ) (new : List ℕ) → length (write c) ≡ s.size → Lies s l → 104 ≤ at → at + removed ≤ 104 + l.section
    → (d n : ℕ) → length (settled_header (with_patch (write c) at removed new) d n) ≡ s.size + length new - removed
patched_size c s l at removed new size h front inside d n =
    let all = patched_plain c s l at removed new size h front inside in
    let start = h.start_to in
    let section = h.section_to in
    settled-length (with_patch (write c) at removed new) d n (omega arith) ∙ all

-- a content with other blocks, whose writing is the file with bytes in the place of others
pub plan_plain : (c : Call) (s : WorkState) (l : Layout) (ks : List Block) (at removed head body : ℕ) (new : List ℕ) → ReadFile (file s) → layout_of_file (file s) ≡ Ok l → 6 ≤ l.version
    → new_content c s ≡ Ok (with_blocks (content (file s)) ks)
    → write (with_blocks (content (file s)) ks) ≡ settled_header (with_patch (write (content (file s))) at removed new) (start (with_blocks (content (file s)) ks)) (length (section ks))
    → 104 ≤ at → at + removed ≤ 104 + l.section → length (section ks) ≡ l.section + length new - removed
    → (s.size + length new - removed ≤ length s.buffer → head + 8 ≤ length s.buffer) → body ≤ s.size + length new - removed → Plan c s l at removed (length new) head body (λ p. written (with_room_made s.buffer s.size p) p.at new)
plan_plain c s l ks at removed head body new read e late wants writes front inside long before data_in =
    let c0 = content (file s) in
    let d = with_blocks c0 ks in
    let h = holding_of s l read e in
    let r = read.each l e in
    let lie = lies s l read e late in
    let size = size_is s c0 h in
    let whole_long = patched_size c0 s l at removed new size lie front inside (start d) (length (section ks)) in
    record {
      content = d;
      wants = wants;
      long = ap length writes ∙ whole_long;
      lie = lie;
      front = front;
      inside = inside;
      before = before;
      data_in = data_in;
      whole = λ fits.
          let room = fits.room in
          let p = patch_is s l at removed (length new) head body in
          let starts : start d ≡ p.start = start_moved c0 ks l removed (length new) r.start_is r.section_is long (gone_inside at removed l.section front inside) in
          ap (λ (n : ℕ). with_file s.buffer n (write d)) (end_is s c0 h)
          ∙ ap (with_file s.buffer s.size) (writes ∙ ap (λ (b : List ℕ). settled_header (with_patch b at removed new) (start d) (length (section ks))) (sym h.written)
          ∙ ap (λ (n : ℕ). settled_header (with_patch (take s.size s.buffer) at removed new) n (length (section ks))) starts
          ∙ ap (settled_header (with_patch (take s.size s.buffer) at removed new) p.start) long)
          ∙ sym (filled s.buffer new s.size p front (in_file s l at removed lie inside) lie.within (added_inside s l at removed (length new) lie inside room) refl);
    }

-- the same with the size of the data of a block written anew, before the place
pub plan_sized : (c : Call) (s : WorkState) (l : Layout) (ks : List Block) (at removed head body : ℕ) (new : List ℕ) (q : ℕ) (r : List ℕ) → ReadFile (file s) → layout_of_file (file s) ≡ Ok l → 6 ≤ l.version
    → new_content c s ≡ Ok (with_blocks (content (file s)) ks)
    → write (with_blocks (content (file s)) ks) ≡ settled_header (written (with_patch (write (content (file s))) at removed new) q r) (start (with_blocks (content (file s)) ks)) (length (section ks))
    → 104 ≤ q → q + length r ≤ at → at + removed ≤ 104 + l.section → length (section ks) ≡ l.section + length new - removed
    → (s.size + length new - removed ≤ length s.buffer → head + 8 ≤ length s.buffer) → body ≤ s.size + length new - removed → Plan c s l at removed (length new) head body (λ p. written (written (with_room_made s.buffer s.size p) p.at new) q r)
plan_sized c s l ks at removed head body new q word read e late wants writes front word_in inside long before data_in =
    let c0 = content (file s) in
    let d = with_blocks c0 ks in
    let h = holding_of s l read e in
    let r = read.each l e in
    let lie = lies s l read e late in
    let size = size_is s c0 h in
    let from : 104 ≤ at = behind_word q (length word) at front word_in in
    let plain = patched_plain c0 s l at removed new size lie from inside in
    let all : length (written (with_patch (write c0) at removed new) q word) ≡ s.size + length new - removed =
    written-length (with_patch (write c0) at removed new) q word (before_end s l q (length word) at removed (length new) _ lie word_in inside plain) ∙ plain in
    record {
      content = d;
      wants = wants;
      long = ap length writes ∙ settled-length (written (with_patch (write c0) at removed new) q word) (start d) (length (section ks)) (header_in s l q (length word) at removed (length new) _ lie front word_in inside all) ∙ all;
      lie = lie;
      front = from;
      inside = inside;
      before = before;
      data_in = data_in;
      whole = λ fits.
          let room = fits.room in
          let p = patch_is s l at removed (length new) head body in
          let starts : start d ≡ p.start = start_moved c0 ks l removed (length new) r.start_is r.section_is long (gone_inside at removed l.section from inside) in
          let f = take s.size s.buffer in
          let f_plain : length (with_patch f at removed new) ≡ s.size + length new - removed = ap (λ (b : List ℕ). length (with_patch b at removed new)) h.written ∙ plain in
          ap (λ (n : ℕ). with_file s.buffer n (write d)) (end_is s c0 h)
          ∙ ap (with_file s.buffer s.size) (writes ∙ ap (λ (b : List ℕ). settled_header (written (with_patch b at removed new) q word) (start d) (length (section ks))) (sym h.written)
          ∙ ap (λ (n : ℕ). settled_header (written (with_patch f at removed new) q word) n (length (section ks))) starts
          ∙ ap (settled_header (written (with_patch f at removed new) q word) p.start) long)
          ∙ sym (ap (λ (b : List ℕ). written b q word) (filled s.buffer new s.size p from (in_file s l at removed lie inside) lie.within (added_inside s l at removed (length new) lie inside room) refl)
          ∙ written_in_file s.buffer (with_patch f at removed new) word s.size p.start p.section q front (before_end s l q (length word) at removed (length new) _ lie word_in inside f_plain));
    }

-- ---- a block behind the last one
section_last : (c : Content) (b : Block) → length (section (c.blocks ++ (b ∷ []))) ≡ length (section c.blocks) + length (block_bytes b)
section_last c b =
    ap length (section-append c.blocks (b ∷ []) ∙ ap (λ (l : List ℕ). section c.blocks ++ l) (append-nil (block_bytes b))) ∙ length-append (section c.blocks) (block_bytes b)

pub block_long : (key body : List ℕ) → length key ≡ 4 → length (block_bytes (block key body)) ≡ 8 + length body
block_long key body four = let l1 : length (block_bytes (block key body)) ≡ length key + (4 + length body) = simp length-append in omega arith

pub last_plan : (c : Call) (s : WorkState) (l : Layout) (b : Block) → length b.key ≡ 4 → ReadFile (file s) → layout_of_file (file s) ≡ Ok l → 6 ≤ l.version → new_content c s ≡ Ok (with_last (content (file s)) b)
    → Plan c s l (104 + l.section) 0 (length (block_bytes b)) (104 + l.section) (length b.body) (λ p. written (with_room_made s.buffer s.size p) p.at (block_bytes b))
last_plan c s l b four read e late wants =
    let c0 = content (file s) in
    let r = read.each l e in
    let more = section_last c0 b in
    let sect = r.section_is in
    let at : 104 + length (section c0.blocks) ≡ 104 + l.section = ap (λ (n : ℕ). 104 + n) (sym sect) in
    let version = r.version_is in
    let long = block_long b.key b.body four in
    let lie = lies s l read e late in
    let start_to = lie.start_to in
    let section_to = lie.section_to in
    let writes = last_written c0 b r.sound (subst (λ (v : ℕ). 6 ≤ v) version late)
    ∙ ap (λ (n : ℕ). settled_header (with_patch (write c0) n 0 (block_bytes b)) (start (with_last c0 b)) (length (section (c0.blocks ++ (b ∷ []))))) at in
    plan_plain c s l (c0.blocks ++ (b ∷ [])) (104 + l.section) 0 (104 + l.section) (length b.body) (block_bytes b) read e late wants writes (omega arith) (omega arith) (omega arith)
    (λ room. omega arith) (omega arith)

-- what is written in two steps: the block's head, and behind it the data
pub block_filled : (s : WorkState) (key body : List ℕ) (p : Patch) → length key ≡ 4 → IsFittingPatch s p → p.added ≡ 8 + length body → p.body ≡ length body
    → with_block_carried s key body p ≡ written (with_room_made s.buffer s.size p) p.at (key ++ (be32 (length body) ++ body))
block_filled s key body p four fits adds is =
    let r = with_room_made s.buffer s.size p in
    let sz = be32 (length body) in
    let front = fits.front in
    let inside = fits.inside in
    let size = fits.size_is in
    let room = fits.room in
    let hole : p.at + p.added ≤ length s.buffer = omega arith in
    let long : length r ≡ length s.buffer = roomed-length s.buffer s.size p front inside fits.within (omega arith) hole in
    let both : length (key ++ sz) ≡ 8 = length-append key sz ∙ ap (λ (n : ℕ). n + 4) four in
    let two : written (written r p.at (key ++ sz)) (p.at + 8) body ≡ written r p.at ((key ++ sz) ++ body) =
    ap (λ (n : ℕ). written (written r p.at (key ++ sz)) (p.at + n) body) (sym both) ∙ written_on r (key ++ sz) body p.at (omega arith) in
    ap (λ (n : ℕ). written (written r p.at (key ++ be32 n)) (p.at + 8) body) is
    ∙ two ∙ ap (written r p.at) (append_assoc key sz body)

-- in a block that stood there, the size may be written first
pub size_first : (s : WorkState) (new : List ℕ) (p : Patch) → IsFittingPatch s p → p.added ≡ length new → p.head + 8 ≤ p.at
    → with_data_put s new p ≡ written (written (with_room_made s.buffer s.size p) p.at new) (p.head + 4) (be32 p.body)
size_first s new p fits adds before =
    let r = with_room_made s.buffer s.size p in
    let front = fits.front in
    let inside = fits.inside in
    let size = fits.size_is in
    let room = fits.room in
    let hole : p.at + p.added ≤ length s.buffer = omega arith in
    let long : length r ≡ length s.buffer = roomed-length s.buffer s.size p front inside fits.within (omega arith) hole in
    sym (written_apart r (be32 p.body) new (p.head + 4) p.at (omega arith) (omega arith))

-- a plan that says the same of the buffer in other words
pub plan_as : (c : Call) (s : WorkState) (l : Layout) (at removed n m head body : ℕ) (f g : Patch → List ℕ) → n ≡ m → Plan c s l at removed n head body f
    → (IsFittingPatch s (patch_is s l at removed m head body) → g (patch_is s l at removed m head body) ≡ f (patch_is s l at removed m head body)) → Plan c s l at removed m head body g
plan_as c s l at removed n m head body f g is p same =
    let q : Plan c s l at removed m head body f = subst (λ (k : ℕ). Plan c s l at removed k head body f) is p in
    record {
      content = q.content;
      wants = q.wants;
      long = q.long;
      lie = q.lie;
      front = q.front;
      inside = q.inside;
      before = q.before;
      data_in = q.data_in;
      whole = λ fits. q.whole fits ∙ sym (same fits);
    }

pub carry_planned : (s : WorkState) (key body : List ℕ) (r : Result Patch Fault) → ReadFile (file s) → length key ≡ 4 → r ≡ last_patch s (length body) → IsCarryPlan s key body r
carry_planned s key body r read four e =
    let x = block key body in
    let same = λ (l : Layout) (h : layout_of_file (file s) ≡ Ok l).
    file_wants s (carry key body) l read h ∙ ap (λ (v : ℕ). blocks_present v then Ok (with_last (content (file s)) x)) (sym (read.each l h).version_is) in
    subst (IsCarryPlan s key body) (sym e)
    (planned (edit (carry key body)) s (λ l. 104 + l.section) (λ l. 0) (λ l. 104 + l.section) (λ l. length body) (8 + length body) (λ l. blocks_present l.version) (λ l. l) (λ l. patch_behind s l (length body)) (with_block_carried s key body) (layout_of_file (file s)) refl
    (λ l. refl)
    (λ g is. none_held s (carry key body) (layout_of_file (file s)) g refl is)
    (λ l g h fails. same l h ∙ ap (λ (y : Check). y then Ok (with_last (content (file s)) x)) fails)
    (λ l h passes.
    plan_as (edit (carry key body)) s l (104 + l.section) 0 (length (block_bytes x)) (8 + length body) (104 + l.section) (length body) _ (with_block_carried s key body) (block_long key body four)
    (last_plan (edit (carry key body)) s l x four read h (late_from l.version passes) (same l h ∙ ap (λ (y : Check). y then Ok (with_last (content (file s)) x)) passes))
    (λ fits. block_filled s key body (patch_is s l (104 + l.section) 0 (8 + length body) (104 + l.section) (length body)) four fits refl refl)))
