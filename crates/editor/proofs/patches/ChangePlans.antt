-- The plans of a lengthen and a remove, and what is found for the edit of a block.
use Rattle.std.proofs.Common.{◌≡◌, ℕ, ◌+◌, ◌-◌, ◌≤◌, List, [], ◌∷◌, ◌++◌, length, take, drop, slice_set, Some, Ok, Err, IfOk, Result, sym, refl, ap, ◌∙◌, subst, append-nil, add-zero, arith}
use Rattle.std.proofs.lemmas.List.{length-append, take-append-drop}
use Rattle.std.specs.List.{slice_get}
use Rattle.buffers.specs.Moves.{written}
use Rattle.buffers.specs.Words.{be32}
use Rattle.faults.specs.declared.fault.Fault.{Fault}
use Rattle.format.specs.declared.judging.Layout.{Layout}
use Rattle.format.specs.Changes.{settled_header}
use Rattle.format.specs.Checks.{Check, ◌then◌, all_of}
use Rattle.format.specs.Content.{Block, Content, block_bytes, section, start, write, content, block}
use Rattle.format.specs.Section.{block_end, size_at}
use Rattle.reader.specs.Answers.{place_after, block_place, entry_at}
use Rattle.reader.specs.Laws.{ReadFile}
use Rattle.reader.specs.Levels.{layout_of_file, block_conditions}
use Rattle.reader.specs.declared.blocks.Entry.{Entry}
use Rattle.reader.proofs.Asked.{then_ok, entry_inside}
use Rattle.reader.proofs.Place.{placed}
use Rattle.editor.specs.declared.patch.Patch.{Patch}
use Rattle.editor.specs.Blocks.{block_in, longer_block}
use Rattle.editor.specs.Edits.{Edit, lengthen, remove, with_block, without_block, edited_content}
use Rattle.editor.specs.Calls.{WorkState, file, edit, new_content}
use Rattle.editor.specs.steps.Patches.{with_patch, with_room_made, with_data_put, IsLengthenPlan, IsRemovePlan, IsFittingPatch, patch_of, head_of, block_to_edit, longer_patch, less_patch}
use Rattle.editor.proofs.patches.BlockPlaces.{said, stands}
use Rattle.editor.proofs.patches.BlockPlans.{none_held, file_wants, plan_plain, plan_sized, plan_as, size_first}
use Rattle.editor.proofs.patches.Filling.{roomed-length}
use Rattle.editor.proofs.calls.Held.{with_ok, same_ok, holding_of, file_is}
use Rattle.editor.proofs.laws.KeptBlocks.{Among, among, index}
use Rattle.editor.proofs.calls.Lists.{cut_at, set_cut}
use Rattle.editor.proofs.patches.Planning.{patch_is, lies, Plan, planned}
use Rattle.editor.proofs.patches.Spliced.{section-append, before, section_cut, one_on, removed_written, changed_written}

-- a block of the file, in its content and in its bytes
pub record BlockAt (s : WorkState) (l : Layout) (k : ℕ) : Type 0 where
  pub among : Among (content (file s)) k
  pub head : head_of s k ≡ before (content (file s)) k
  pub size : size_at (file s) (head_of s k) ≡ length (block_in (content (file s)).blocks k).body
  pub bytes : length (block_bytes (block_in (content (file s)).blocks k)) ≡ 8 + length (block_in (content (file s)).blocks k).body
  pub end : before (content (file s)) k + length (block_bytes (block_in (content (file s)).blocks k)) ≤ 104 + l.section

pub bytes_long : (b : Block) → length b.key ≡ 4 → length (block_bytes b) ≡ 8 + length b.body
bytes_long b four = let l1 : length (block_bytes b) ≡ length b.key + (4 + length b.body) = simp length-append in omega arith

section_long : (c : Content) (k : ℕ) → 1 ≤ k → slice_get c.blocks (k - 1) ≡ Some (block_in c.blocks k)
    → length (section c.blocks) ≡ length (section (take (k - 1) c.blocks)) + length (block_bytes (block_in c.blocks k)) + length (section (drop k c.blocks))
section_long c k from e =
    let xs = take (k - 1) c.blocks in
    let ys = drop k c.blocks in
    let b = block_in c.blocks k in
    let all : section c.blocks ≡ section xs ++ (block_bytes b ++ section ys) =
    ap section (cut_at c.blocks (k - 1) b e) ∙ ap (λ (n : ℕ). section (xs ++ (b ∷ drop n c.blocks))) (one_on k from) ∙ section_cut xs ys b in
    let l1 = length-append (section xs) (block_bytes b ++ section ys) in
    let l2 = length-append (block_bytes b) (section ys) in
    let l3 : length (section c.blocks) ≡ length (section xs ++ (block_bytes b ++ section ys)) = ap length all in
    omega arith

less_one : (k n : ℕ) → 1 ≤ k → k ≤ n → k - 1 ≤ n
less_one k n from to = omega arith

pub block_at : (s : WorkState) (l : Layout) (k : ℕ) → ReadFile (file s) → layout_of_file (file s) ≡ Ok l → all_of (block_conditions l.version l.blocks k) ≡ Ok tt → BlockAt s l k
block_at s l k read e passes =
    let c = content (file s) in
    let h = holding_of s l read e in
    let r = read.each l e in
    let known : all_of (block_conditions c.version (length c.blocks) k) ≡ Ok tt =
    ap (λ (v : ℕ). all_of (block_conditions v (length c.blocks) k)) (sym r.version_is) ∙ ap (λ (n : ℕ). all_of (block_conditions l.version n k)) (sym r.blocks_are) ∙ passes in
    let a = among c k h.sound known in
    let bytes = file_is s c h in
    let b = block_in c.blocks k in
    let at : place_after (write c) 104 (k - 1) ≡ before c k = stands c h.sound (k - 1) (less_one k (length c.blocks) a.from a.to) in
    let head : head_of s k ≡ before c k = ap (λ (x : List ℕ). block_place x (k - 1)) bytes ∙ at in
    let size : size_at (file s) (head_of s k) ≡ length b.body =
    ap (λ (x : List ℕ). size_at x (block_place x (k - 1))) bytes ∙ said c h.sound (k - 1) b a.there (index k (length c.blocks) a.from a.to) in
    let four = a.writable.key_size in
    let long = section_long c k a.from a.there in
    let sect = r.section_is in
    record { among = a; head = head; size = size; bytes = bytes_long b four; end = omega arith }

-- what is found for an edit of a block: a file is held, the block is one of it, and its head is
-- told
pub record Found (s : WorkState) (k : ℕ) (f : Layout × Entry) : Type 0 where
  pub layout : layout_of_file (file s) ≡ Ok f.0
  pub passes : all_of (block_conditions f.0.version f.0.blocks k) ≡ Ok tt
  pub entry : entry_at (file s) (head_of s k) ≡ f.1

pub found_of : (s : WorkState) (k : ℕ) (f : Layout × Entry) → block_to_edit s k ≡ Ok f → Found s k f
found_of s k f e =
    let entry = entry_at (file s) (head_of s k) in
    let w = with_ok (layout_of_file (file s)) (λ l. all_of (block_conditions l.version l.blocks k) then Ok (l, entry)) f e in
    let q = then_ok (all_of (block_conditions w.0.version w.0.blocks k)) (Ok (w.0, entry)) f w.2 in
    let same : ◌≡◌ {A = Layout × Entry} (w.0, entry) f = same_ok _ f q.1 in
    let layout : w.0 ≡ f.0 = ap (λ (x : Layout × Entry). x.0) same in
    record {
      layout = w.1 ∙ ap Ok layout;
      passes = subst (λ (l : Layout). all_of (block_conditions l.version l.blocks k) ≡ Ok tt) layout q.0;
      entry = ap (λ (x : Layout × Entry). x.1) same;
    }

-- it lies in the file
pub found_inside : (s : WorkState) (k : ℕ) (r : Result (Layout × Entry) Fault) → r ≡ block_to_edit s k → IfOk r (λ f. (f.1.place + 8 + f.1.size ≤ length (file s)) × (block_end (file s) f.1.place ≤ length (file s)))
found_inside s k (Err g) e = tt
found_inside s k (Ok f) e =
    let found = found_of s k f (sym e) in
    let in_file = entry_inside (file s) f.0 k (Ok (entry_at (file s) (head_of s k))) (placed (file s) f.0 found.layout) (sym (ap (λ (y : Check). y then Ok (entry_at (file s) (head_of s k))) found.passes)) in
    let is : f.1.place + 8 + f.1.size ≡ block_end (file s) (head_of s k) = ap (λ (y : Entry). y.place + 8 + y.size) (sym found.entry) in
    let at : block_end (file s) f.1.place ≡ block_end (file s) (head_of s k) = ap (λ (y : Entry). block_end (file s) y.place) (sym found.entry) in
    (omega (arith, in_file), omega (arith, in_file))

-- the conditions of a block, as the content has them
pub block_wants : (s : WorkState) (e : Edit) (k : ℕ) (d : Content) (l : Layout) → ReadFile (file s) → layout_of_file (file s) ≡ Ok l
    → edited_content e (content (file s)) ≡ (all_of (block_conditions (content (file s)).version (length (content (file s)).blocks) k) then Ok d)
    → new_content (edit e) s ≡ (all_of (block_conditions l.version l.blocks k) then Ok d)
block_wants s e k d l read h is =
    let r = read.each l h in
    file_wants s e l read h ∙ is ∙ ap (λ (v : ℕ). all_of (block_conditions v (length (content (file s)).blocks) k) then Ok d) (sym r.version_is)
    ∙ ap (λ (n : ℕ). all_of (block_conditions l.version n k) then Ok d) (sym r.blocks_are)

-- the section with another block in the place of block k
pub changed_long : (c : Content) (k : ℕ) (x : Block) → 1 ≤ k → k ≤ length c.blocks → slice_get c.blocks (k - 1) ≡ Some (block_in c.blocks k)
    → length (section (slice_set c.blocks (k - 1) x)) + length (block_bytes (block_in c.blocks k)) ≡ length (section c.blocks) + length (block_bytes x)
changed_long c k x from to e =
    let xs = take (k - 1) c.blocks in
    let ys = drop k c.blocks in
    let all : section (slice_set c.blocks (k - 1) x) ≡ section xs ++ (block_bytes x ++ section ys) =
    ap section (set_cut c.blocks (k - 1) x (index k (length c.blocks) from to)) ∙ ap (λ (i : ℕ). section (xs ++ (x ∷ drop i c.blocks))) (one_on k from) ∙ section_cut xs ys x in
    let old = section_long c k from e in
    let l1 = length-append (section xs) (block_bytes x ++ section ys) in
    let l2 = length-append (block_bytes x) (section ys) in
    let l3 : length (section (slice_set c.blocks (k - 1) x)) ≡ length (section xs ++ (block_bytes x ++ section ys)) = ap length all in
    omega arith

-- ---- a block is taken out
pub nothing_written : (b : List ℕ) (p : ℕ) → p ≤ length b → written b p [] ≡ b
unfolding written
nothing_written b p h = take-append-drop' b p
  where
    take-append-drop' : (b : List ℕ) (p : ℕ) → take p b ++ ([] ++ drop (p + 0) b) ≡ b
    take-append-drop' b p = ap (λ (n : ℕ). take p b ++ drop n b) (add-zero p) ∙ take-append-drop p b

in_room : (s : WorkState) (p : Patch) → IsFittingPatch s p → p.added ≡ 0 → p.at ≤ length (with_room_made s.buffer s.size p)
in_room s p fits none =
    let front = fits.front in
    let inside = fits.inside in
    let within = fits.within in
    let size = fits.size_is in
    let room = fits.room in
    let long = roomed-length s.buffer s.size p front inside within (omega arith) (omega arith) in
    omega arith

remove_plan : (s : WorkState) (k : ℕ) (l : Layout) → ReadFile (file s) → layout_of_file (file s) ≡ Ok l → all_of (block_conditions l.version l.blocks k) ≡ Ok tt
    → Plan (edit (remove k)) s l (head_of s k) (8 + size_at (file s) (head_of s k)) 0 (head_of s k) 0 (with_room_made s.buffer s.size)
remove_plan s k l read e passes =
    let c = content (file s) in
    let h = holding_of s l read e in
    let r = read.each l e in
    let t = block_at s l k read e passes in
    let a = t.among in
    let b = block_in c.blocks k in
    let head = t.head in
    let gone : length (block_bytes b) ≡ 8 + size_at (file s) (head_of s k) = t.bytes ∙ ap (λ (n : ℕ). 8 + n) (sym t.size) in
    let wants : new_content (edit (remove k)) s ≡ Ok (without_block c k) = block_wants s (remove k) k (without_block c k) l read e refl ∙ ap (λ (y : Check). y then Ok (without_block c k)) passes in
    let ks = take (k - 1) c.blocks ++ drop k c.blocks in
    let writes = removed_written c k h.sound a.late a.from a.there
    ∙ ap (λ (n : ℕ). settled_header (with_patch (write c) n (length (block_bytes b)) []) (start (without_block c k)) (length (section ks))) (sym head)
    ∙ ap (λ (n : ℕ). settled_header (with_patch (write c) (head_of s k) n []) (start (without_block c k)) (length (section ks))) gone in
    let long = section_long c k a.from a.there in
    let kept = ap length (section-append (take (k - 1) c.blocks) (drop k c.blocks)) ∙ length-append (section (take (k - 1) c.blocks)) (section (drop k c.blocks)) in
    let sect = r.section_is in
    let end = t.end in
    let late : 6 ≤ l.version = subst (λ (v : ℕ). 6 ≤ v) (sym r.version_is) a.late in
    let lie = lies s l read e late in
    let within = lie.within in
    let start_to = lie.start_to in
    let section_to = lie.section_to in
    plan_as (edit (remove k)) s l (head_of s k) (8 + size_at (file s) (head_of s k)) 0 0 (head_of s k) 0 _ (with_room_made s.buffer s.size) refl
    (plan_plain (edit (remove k)) s l ks (head_of s k) (8 + size_at (file s) (head_of s k)) (head_of s k) 0 [] read e late wants writes (omega arith) (omega arith) (omega arith) (λ room. omega arith) (omega arith))
    (λ fits. sym (nothing_written (with_room_made s.buffer s.size (patch_is s l (head_of s k) (8 + size_at (file s) (head_of s k)) 0 (head_of s k) 0)) (head_of s k) (in_room s (patch_is s l (head_of s k) (8 + size_at (file s) (head_of s k)) 0 (head_of s k) 0) fits refl)))

pub remove_planned : (s : WorkState) (k : ℕ) (r : Result Patch Fault) → ReadFile (file s) → r ≡ less_patch s k → IsRemovePlan s k r
remove_planned s k r read e =
    let d = without_block (content (file s)) k in
    subst (IsRemovePlan s k) (sym e)
    (planned (edit (remove k)) s (λ l. head_of s k) (λ l. 8 + size_at (file s) (head_of s k)) (λ l. head_of s k) (λ l. 0) 0 (λ l. all_of (block_conditions l.version l.blocks k)) (λ l. (l, entry_at (file s) (head_of s k))) (λ f. patch_of s f.0 f.1.place (8 + f.1.size) 0 f.1.place 0) (with_room_made s.buffer s.size) (layout_of_file (file s)) refl
    (λ l. refl)
    (λ g is. none_held s (remove k) (layout_of_file (file s)) g refl is)
    (λ l g h fails. block_wants s (remove k) k d l read h refl ∙ ap (λ (y : Check). y then Ok d) fails)
    (λ l h passes. remove_plan s k l read h passes))

-- ---- more bytes at the end of a block's data
lengthen_plan : (s : WorkState) (k : ℕ) (more : List ℕ) (l : Layout) → ReadFile (file s) → layout_of_file (file s) ≡ Ok l → all_of (block_conditions l.version l.blocks k) ≡ Ok tt
    → Plan (edit (lengthen k more)) s l (block_end (file s) (head_of s k)) 0 (length more) (head_of s k) (size_at (file s) (head_of s k) + length more) (with_data_put s more)
lengthen_plan s k more l read e passes =
    let c = content (file s) in
    let h = holding_of s l read e in
    let r = read.each l e in
    let t = block_at s l k read e passes in
    let a = t.among in
    let b = block_in c.blocks k in
    let d = with_block c k (longer_block b more) in
    let head = t.head in
    let size = t.size in
    let at : before c k + 8 + length b.body ≡ block_end (file s) (head_of s k) = ap (λ (n : ℕ). n + 8 + length b.body) (sym head) ∙ ap (λ (n : ℕ). head_of s k + 8 + n) (sym size) in
    let wants : new_content (edit (lengthen k more)) s ≡ Ok d = block_wants s (lengthen k more) k d l read e refl ∙ ap (λ (y : Check). y then Ok d) passes in
    let ks = slice_set c.blocks (k - 1) (longer_block b more) in
    let body_is : b.body ≡ b.body ++ ([] ++ []) = sym (append-nil b.body) in
    let new_body : b.body ++ (more ++ []) ≡ b.body ++ more = ap (λ (x : List ℕ). b.body ++ x) (append-nil more) in
    let count : length (b.body ++ more) ≡ size_at (file s) (head_of s k) + length more = length-append b.body more ∙ ap (λ (n : ℕ). n + length more) (sym size) in
    let whole = changed_written c k b.body [] [] more h.sound a.late a.from a.to a.there a.writable.key_size body_is in
    let plain : write d ≡ settled_header (written (with_patch (write c) (before c k + 8 + length b.body) 0 more) (before c k + 4) (be32 (length (b.body ++ more)))) (start d) (length (section ks)) =
    subst (λ (x : List ℕ). write (with_block c k (block b.key x)) ≡ settled_header (written (with_patch (write c) (before c k + 8 + length b.body) 0 more) (before c k + 4) (be32 (length x))) (start (with_block c k (block b.key x))) (length (section (slice_set c.blocks (k - 1) (block b.key x))))) new_body whole in
    let writes = plain
    ∙ ap (λ (n : ℕ). settled_header (written (with_patch (write c) n 0 more) (before c k + 4) (be32 (length (b.body ++ more)))) (start d) (length (section ks))) at
    ∙ ap (λ (n : ℕ). settled_header (written (with_patch (write c) (block_end (file s) (head_of s k)) 0 more) (n + 4) (be32 (length (b.body ++ more)))) (start d) (length (section ks))) (sym head)
    ∙ ap (λ (n : ℕ). settled_header (written (with_patch (write c) (block_end (file s) (head_of s k)) 0 more) (head_of s k + 4) (be32 n)) (start d) (length (section ks))) count in
    let sect = r.section_is in
    let end = t.end in
    let bytes = t.bytes in
    let grown = changed_long c k (longer_block b more) a.from a.to a.there in
    let new_bytes = bytes_long (longer_block b more) a.writable.key_size in
    let late : 6 ≤ l.version = subst (λ (v : ℕ). 6 ≤ v) (sym r.version_is) a.late in
    let lie = lies s l read e late in
    let within = lie.within in
    let start_to = lie.start_to in
    let section_to = lie.section_to in
    plan_as (edit (lengthen k more)) s l (block_end (file s) (head_of s k)) 0 (length more) (length more) (head_of s k) (size_at (file s) (head_of s k) + length more) _ (with_data_put s more) refl
    (plan_sized (edit (lengthen k more)) s l ks (block_end (file s) (head_of s k)) 0 (head_of s k) (size_at (file s) (head_of s k) + length more) more (head_of s k + 4)
    (be32 (size_at (file s) (head_of s k) + length more)) read e late wants writes (omega arith) (omega arith) (omega arith) (omega arith) (λ room. omega arith) (omega arith))
    (λ fits. size_first s more (patch_is s l (block_end (file s) (head_of s k)) 0 (length more) (head_of s k) (size_at (file s) (head_of s k) + length more)) fits refl (omega arith))

pub lengthen_planned : (s : WorkState) (k : ℕ) (more : List ℕ) (r : Result Patch Fault) → ReadFile (file s) → r ≡ longer_patch s k (length more) → IsLengthenPlan s k more r
lengthen_planned s k more r read e =
    let d = with_block (content (file s)) k (longer_block (block_in (content (file s)).blocks k) more) in
    subst (IsLengthenPlan s k more) (sym e)
    (planned (edit (lengthen k more)) s (λ l. block_end (file s) (head_of s k)) (λ l. 0) (λ l. head_of s k) (λ l. size_at (file s) (head_of s k) + length more) (length more)
    (λ l. all_of (block_conditions l.version l.blocks k)) (λ l. (l, entry_at (file s) (head_of s k))) (λ f. patch_of s f.0 (f.1.place + 8 + f.1.size) 0 (length more) f.1.place (f.1.size + length more)) (with_data_put s more) (layout_of_file (file s)) refl
    (λ l. refl)
    (λ g is. none_held s (lengthen k more) (layout_of_file (file s)) g refl is)
    (λ l g h fails. block_wants s (lengthen k more) k d l read h refl ∙ ap (λ (y : Check). y then Ok d) fails)
    (λ l h passes. lengthen_plan s k more l read h passes))
