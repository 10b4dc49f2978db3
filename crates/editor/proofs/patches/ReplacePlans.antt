-- The plan of a replace.
use Rattle.std.proofs.Common.{◌≡◌, ℕ, ◌+◌, ◌-◌, ◌≤◌, List, [], ◌++◌, length, take, drop, slice_set, Ok, Err, Result, sym, refl, ap, ◌∙◌, subst, arith}
use Rattle.std.proofs.lemmas.List.{length-append, length-drop, length-take-le, take-append-drop}
use Rattle.std.specs.Str.{bytes_eq}
use Rattle.buffers.specs.Moves.{written}
use Rattle.buffers.specs.Words.{be32}
use Rattle.faults.specs.declared.fault.Fault.{Fault}
use Rattle.faults.specs.declared.refusal.Refusal.TheVariants.{TextUnfit, Key}
use Rattle.faults.specs.Faults.{fault, in_block}
use Rattle.format.specs.declared.judging.Layout.{Layout}
use Rattle.format.specs.Changes.{settled_header}
use Rattle.format.specs.Checks.{Check, unless, ◌then◌, ◌with◌, all_of}
use Rattle.format.specs.Content.{section, start, write, content}
use Rattle.kinds.specs.Kind.{KindSpec, Payload, payload_output, IsSoundKind, Outcome, accepted, refused, Output, bytes, declined, output_length}
use Rattle.format.specs.Section.{key_at, size_at, data_at}
use Rattle.reader.specs.Answers.{Sight, outcome_sight, block_place, entry_at, block_sight, look_answer}
use Rattle.reader.specs.declared.blocks.Entry.{Entry}
use Rattle.reader.specs.Laws.{ReadFile}
use Rattle.reader.specs.Levels.{layout_of_file, block_conditions}
use Rattle.reader.proofs.Asked.{then_ok}
use Rattle.editor.specs.declared.patch.Patch.{Patch}
use Rattle.editor.specs.Blocks.{block_in, renewed_block}
use Rattle.kinds.specs.Writing.{output_bytes, written_bytes}
use Rattle.editor.specs.Edits.{replace, with_block}
use Rattle.editor.specs.Calls.{WorkState, file, edit, new_content}
use Rattle.editor.specs.steps.Patches.{with_patch, with_data_put, IsPlanned, IsReplacePlan, patch_of, head_of, replace_patch}
use Rattle.editor.proofs.patches.BlockPlans.{none_held, file_wants, plan_sized, plan_as, size_first}
use Rattle.editor.proofs.patches.ChangePlans.{block_at, bytes_long, changed_long}
use Rattle.editor.proofs.calls.Held.{not_both, holding_of, file_is}
use Rattle.editor.proofs.patches.Planning.{patch_is, lies, Plan, by_conditions, by_fault}
use Rattle.editor.proofs.patches.Spliced.{before, changed_written}

-- what a look that is answered tells: its block is one of the file's, and the bytes used are among
-- the block's data
looked_conditions : (b : List ℕ) (kind : KindSpec) (k : ℕ) (l : Layout) (seen : Sight) → layout_of_file b ≡ Ok l → look_answer kind b k ≡ Ok seen
    → (all_of (block_conditions l.version l.blocks k) ≡ Ok tt) × (block_sight kind b k (block_place b (k - 1)) ≡ Ok seen)
looked_conditions b kind k l seen h e =
    then_ok (all_of (block_conditions l.version l.blocks k)) (block_sight kind b k (block_place b (k - 1))) seen
    (ap (λ (y : Result Layout Fault). y with λ m. all_of (block_conditions m.version m.blocks k) then block_sight kind b k (block_place b (k - 1))) (sym h) ∙ e)

used_within : (kind : KindSpec) → IsSoundKind kind → (k place : ℕ) (d : List ℕ) (o : Outcome) → kind.reads d ≡ o → (s : Sight) → outcome_sight k place o ≡ Ok s → s.used ≤ length d
used_within kind keeps k place d (accepted ns a n u) r s e =
    let is : u ≡ s.used = used_is k place ns a n u s e in
    subst (λ (x : ℕ). x ≤ length d) is (keeps.steady d ns a n u r).within
  where
    used_of : Result Sight Fault → ℕ
    used_of (Ok t) = t.used
    used_of (Err f) = 0

    used_is : (k place : ℕ) (ns : List ℕ) (a n u : ℕ) (s : Sight) → outcome_sight k place (accepted ns a n u) ≡ Ok s → u ≡ s.used
    used_is k place ns a n u s e = ap used_of e
used_within kind keeps k place d (refused q p) r s e = let z : ◌≡◌ {A = ℕ} 0 1 = cc in absurd (omega arith)

sight_used : (kind : KindSpec) → IsSoundKind kind → (b : List ℕ) (k at : ℕ) (seen : Sight) → block_sight kind b k at ≡ Ok seen → seen.used ≤ length (data_at b at)
sight_used kind keeps b k at seen e =
    let q = then_ok (unless (bytes_eq (key_at b at) kind.key) (in_block Key k at)) (outcome_sight k (at + 8) (kind.reads (data_at b at))) seen e in
    used_within kind keeps k (at + 8) (data_at b at) (kind.reads (data_at b at)) refl seen q.1

-- what a replace wants, by what the look and the kind's writing gave
replace_wants : (s : WorkState) (k : ℕ) (new : Payload) (l : Layout) → ReadFile (file s) → layout_of_file (file s) ≡ Ok l → (o : Output) → payload_output new ≡ o
    → new_content (edit (replace k new)) s
    ≡ (look_answer new.kind (file s) k with λ seen. output_bytes o with λ w. Ok (with_block (content (file s)) k (renewed_block (block_in (content (file s)).blocks k) w seen.used)))
replace_wants s k new l read h o w =
    let c = content (file s) in
    file_wants s (replace k new) l read h
    ∙ ap (λ (b : List ℕ). look_answer new.kind b k with λ seen. output_bytes (payload_output new) with λ w. Ok (with_block c k (renewed_block (block_in c.blocks k) w seen.used))) (sym (file_is s c (holding_of s l read h)))
    ∙ ap (λ (y : Output). look_answer new.kind (file s) k with λ seen. output_bytes y with λ w. Ok (with_block c k (renewed_block (block_in c.blocks k) w seen.used))) w

replace_plan : (s : WorkState) (k : ℕ) (new : Payload) → IsSoundKind new.kind → (l : Layout) (seen : Sight) (w : List ℕ) → ReadFile (file s) → layout_of_file (file s) ≡ Ok l → look_answer new.kind (file s) k ≡ Ok seen → payload_output new ≡ bytes w
    → Plan (edit (replace k new)) s l (head_of s k + 8) seen.used (length w) (head_of s k) (size_at (file s) (head_of s k) + length w - seen.used) (with_data_put s w)
replace_plan s k new keeps l seen w read e looked wrote_w =
    let c = content (file s) in
    let h = holding_of s l read e in
    let r = read.each l e in
    let both = looked_conditions (file s) new.kind k l seen e looked in
    let t = block_at s l k read e both.0 in
    let a = t.among in
    let b = block_in c.blocks k in
    let x = renewed_block b w seen.used in
    let d = with_block c k x in
    let ks = slice_set c.blocks (k - 1) x in
    let head = t.head in
    let size = t.size in
    let data_is : data_at (file s) (head_of s k) ≡ b.body = (r.blocks (k - 1) b a.there).1 in
    let used : seen.used ≤ length b.body = subst (λ (y : List ℕ). seen.used ≤ length y) data_is (sight_used new.kind keeps (file s) k (head_of s k) seen both.1) in
    let gone = take seen.used b.body in
    let more = drop seen.used b.body in
    let gone_long : length gone ≡ seen.used = length-take-le seen.used b.body used in
    let more_long = length-drop seen.used b.body in
    let body_is : b.body ≡ [] ++ (gone ++ more) = sym (take-append-drop seen.used b.body) in
    let l1 = length-append w more in
    let n = size_at (file s) (head_of s k) + length w - seen.used in
    let count : length (w ++ more) ≡ n = omega arith in
    let at : before c k + 8 + 0 ≡ head_of s k + 8 = omega arith in
    let wants : new_content (edit (replace k new)) s ≡ Ok d =
    replace_wants s k new l read e (bytes w) wrote_w ∙ ap (λ (y : Result Sight Fault). y with λ seen. Ok (with_block c k (renewed_block b w seen.used))) looked in
    let writes = changed_written c k [] gone more w h.sound a.late a.from a.to a.there a.writable.key_size body_is
    ∙ ap (λ (m : ℕ). settled_header (written (with_patch (write c) m (length gone) w) (before c k + 4) (be32 (length (w ++ more)))) (start d) (length (section ks))) at
    ∙ ap (λ (m : ℕ). settled_header (written (with_patch (write c) (head_of s k + 8) m w) (before c k + 4) (be32 (length (w ++ more)))) (start d) (length (section ks))) gone_long
    ∙ ap (λ (m : ℕ). settled_header (written (with_patch (write c) (head_of s k + 8) seen.used w) (m + 4) (be32 (length (w ++ more)))) (start d) (length (section ks))) (sym head)
    ∙ ap (λ (m : ℕ). settled_header (written (with_patch (write c) (head_of s k + 8) seen.used w) (head_of s k + 4) (be32 m)) (start d) (length (section ks))) count in
    let sect = r.section_is in
    let end = t.end in
    let old_bytes = t.bytes in
    let grown = changed_long c k x a.from a.to a.there in
    let new_bytes = bytes_long x a.writable.key_size in
    let late : 6 ≤ l.version = subst (λ (v : ℕ). 6 ≤ v) (sym r.version_is) a.late in
    let lie = lies s l read e late in
    let within = lie.within in
    let start_to = lie.start_to in
    let section_to = lie.section_to in
    plan_as (edit (replace k new)) s l (head_of s k + 8) seen.used (length w) (length w) (head_of s k) n _ (with_data_put s w) refl
    (plan_sized (edit (replace k new)) s l ks (head_of s k + 8) seen.used (head_of s k) n w (head_of s k + 4) (be32 n) read e late wants writes
    (omega arith) (omega arith) (omega arith) (omega arith) (λ room. omega arith) (omega arith))
    (λ fits. size_first s w (patch_is s l (head_of s k + 8) seen.used (length w) (head_of s k) n) fits refl (omega arith))

replace_by : (s : WorkState) (k : ℕ) (new : Payload) → IsSoundKind new.kind → (l : Layout) → ReadFile (file s) → layout_of_file (file s) ≡ Ok l → (o : Output) → payload_output new ≡ o → (lr : Result Sight Fault) → look_answer new.kind (file s) k ≡ lr
    → IsPlanned (edit (replace k new)) s (length (written_bytes o))
    (lr with λ seen. output_length o with λ n. patch_of s l (head_of s k + 8) seen.used n (head_of s k) (size_at (file s) (head_of s k) + n - seen.used)) (with_data_put s (written_bytes o))
replace_by s k new keeps l read h o w (Err g) e =
    by_fault (edit (replace k new)) s (length (written_bytes o)) g (with_data_put s (written_bytes o))
    (replace_wants s k new l read h o w
    ∙ ap (λ (y : Result Sight Fault). y with λ seen. output_bytes o with λ v. Ok (with_block (content (file s)) k (renewed_block (block_in (content (file s)).blocks k) v seen.used))) e)
replace_by s k new keeps l read h (declined p) w (Ok seen) e =
    by_fault (edit (replace k new)) s 0 (fault TextUnfit p) (with_data_put s [])
    (replace_wants s k new l read h (declined p) w ∙ ap (λ (y : Result Sight Fault). y with λ seen. Err (fault TextUnfit p)) e)
replace_by s k new keeps l read h (bytes v) w (Ok seen) e =
    by_conditions (edit (replace k new)) s l (head_of s k + 8) seen.used (length v) (head_of s k) (size_at (file s) (head_of s k) + length v - seen.used) (with_data_put s v) (Ok tt)
    (λ g bad. absurd (not_both tt g (sym bad))) (λ _. replace_plan s k new keeps l seen v read h e w)

-- what is found, and the patch that it gives
abbrev found_at : WorkState → ℕ → Layout → Layout × Entry
found_at s k l = (l, entry_at (file s) (head_of s k))

abbrev patch_in : WorkState → ℕ → Payload → Layout × Entry → Result Patch Fault
patch_in s k new f =
    look_answer new.kind (file s) k with λ seen.
    output_length (payload_output new) with λ n.
    patch_of s f.0 (f.1.place + 8) seen.used n f.1.place (f.1.size + n - seen.used)

replace_found : (s : WorkState) (k : ℕ) (new : Payload) → IsSoundKind new.kind → (l : Layout) → ReadFile (file s) → layout_of_file (file s) ≡ Ok l → (c : Check) → all_of (block_conditions l.version l.blocks k) ≡ c
    → IsReplacePlan s k new ((c then Ok (found_at s k l)) with patch_in s k new)
replace_found s k new keeps l read h (Ok u) e = replace_by s k new keeps l read h (payload_output new) refl (look_answer new.kind (file s) k) refl
replace_found s k new keeps l read h (Err g) e =
    let outcome_sight = block_sight new.kind (file s) k (head_of s k) in
    let looked : look_answer new.kind (file s) k ≡ Err g =
    ap (λ (y : Result Layout Fault). y with λ m. all_of (block_conditions m.version m.blocks k) then outcome_sight) h ∙ ap (λ (y : Check). y then outcome_sight) e in
    replace_by s k new keeps l read h (payload_output new) refl (Err g) looked

replace_held : (s : WorkState) (k : ℕ) (new : Payload) → IsSoundKind new.kind → ReadFile (file s) → (r : Result Layout Fault) → layout_of_file (file s) ≡ r
    → IsReplacePlan s k new ((r with λ l. all_of (block_conditions l.version l.blocks k) then Ok (found_at s k l)) with patch_in s k new)
replace_held s k new keeps read (Err g) e = by_fault (edit (replace k new)) s _ g _ (none_held s (replace k new) (layout_of_file (file s)) g refl e)
replace_held s k new keeps read (Ok l) e = replace_found s k new keeps l read e (all_of (block_conditions l.version l.blocks k)) refl

pub replace_planned : (s : WorkState) (k : ℕ) (new : Payload) (r : Result Patch Fault) → IsSoundKind new.kind → ReadFile (file s) → r ≡ replace_patch s k new
    → IsReplacePlan s k new r
replace_planned s k new r keeps read e =
    subst (IsReplacePlan s k new) (sym e)
    (replace_held s k new keeps read (layout_of_file (file s)) refl)
