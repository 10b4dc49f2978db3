-- The plan of an add.
use Rattle.std.proofs.Common.{◌≡◌, ℕ, ◌+◌, ◌-◌, ◌<◌, ◌≤◌, List, [], ◌++◌, length, take, drop, Ok, Err, Result, sym, refl, ap, ◌∙◌, subst, append-nil, ⊎_elim, arith, leb, get_or}
use Rattle.std.proofs.lemmas.List.{places, length-drop, take-append-drop, drop-drop, take_all, drop_all}
use Rattle.std.proofs.lemmas.Bool.{le-leb, lt-leb, cond-true, cond-false, cases_lt}
use Rattle.std.proofs.lemmas.List.Edits.{paste_all}
use Rattle.std.proofs.lemmas.Slice.{put_mid-paste}
use Rattle.std.proofs.Math.Seq.{paste}
use borrow.Rule.Slice.PartMut.{put_mid}
use Rattle.std.proofs.ByRecursion.{All-from_get_or}
use Rattle.buffers.specs.Words.{Bytes}
use Rattle.buffers.specs.Moves.{written}
use Rattle.faults.specs.declared.fault.Fault.{Fault}
use Rattle.faults.specs.declared.refusal.Refusal.TheVariants.{TextUnfit}
use Rattle.faults.specs.Faults.{fault}
use Rattle.format.specs.declared.judging.Layout.{Layout}
use Rattle.format.specs.Checks.{Check, ◌then◌, ◌with◌}
use Rattle.format.specs.Content.{block_bytes, content, block}
use Rattle.kinds.specs.Kind.{Payload, payload_output, Output, bytes, declined, output_length, put_buffer}
use Rattle.reader.specs.Laws.{ReadFile}
use Rattle.reader.specs.Levels.{layout_of_file, blocks_present}
use Rattle.editor.specs.declared.patch.Patch.{Patch}
use Rattle.kinds.specs.Writing.{output_bytes, written_bytes, payload_bytes, IsBytesWritten}
use Rattle.editor.specs.Edits.{add}
use Rattle.format.specs.Changes.{with_last}
use Rattle.editor.specs.Calls.{WorkState, file, edit, new_content}
use Rattle.editor.specs.steps.Patches.{with_block_carried, IsPlanned, IsAddPlan, patch_of, patch_behind, add_patch}
use Rattle.editor.proofs.patches.BlockPlans.{none_held, file_wants, last_plan, plan_as, block_filled, block_long}
use Rattle.editor.proofs.patches.ChangePlans.{nothing_written}
use Rattle.editor.proofs.calls.Held.{not_both}
use Rattle.editor.proofs.laws.KeptBlocks.{late_from}
use Rattle.buffers.proofs.Lists.{written-length}
use Rattle.editor.proofs.patches.Planning.{patch_is, by_conditions, by_fault, handed_on}

-- what an add wants, by what the kind wrote
add_wants : (s : WorkState) (new : Payload) (l : Layout) → ReadFile (file s) → layout_of_file (file s) ≡ Ok l → (o : Output) → payload_output new ≡ o
    → new_content (edit (add new)) s ≡ (blocks_present l.version then output_bytes o with λ w. Ok (with_last (content (file s)) (block new.kind.key w)))
add_wants s new l read h o w =
    file_wants s (add new) l read h
    ∙ ap (λ (v : ℕ). blocks_present v then output_bytes (payload_output new) with λ w. Ok (with_last (content (file s)) (block new.kind.key w))) (sym (read.each l h).version_is)
    ∙ ap (λ (y : Output). blocks_present l.version then output_bytes y with λ w. Ok (with_last (content (file s)) (block new.kind.key w))) w

add_by : (s : WorkState) (new : Payload) (l : Layout) → ReadFile (file s) → layout_of_file (file s) ≡ Ok l → length new.kind.key ≡ 4 → (o : Output) → payload_output new ≡ o → (t : Check) → blocks_present l.version ≡ t
    → IsPlanned (edit (add new)) s (8 + length (written_bytes o)) (t then output_length o with λ n. patch_of s l (104 + l.section) 0 (8 + n) (104 + l.section) n) (with_block_carried s new.kind.key (written_bytes o))
add_by s new l read h four o w (Err g) e =
    by_fault (edit (add new)) s (8 + length (written_bytes o)) g (with_block_carried s new.kind.key (written_bytes o))
    (add_wants s new l read h o w ∙ ap (λ (y : Check). y then output_bytes o with λ w. Ok (with_last (content (file s)) (block new.kind.key w))) e)
add_by s new l read h four (declined p) w (Ok u) e =
    by_fault (edit (add new)) s 8 (fault TextUnfit p) (with_block_carried s new.kind.key [])
    (add_wants s new l read h (declined p) w ∙ ap (λ (y : Check). y then Err (fault TextUnfit p)) e)
add_by s new l read h four (bytes v) w (Ok u) e =
    let x = block new.kind.key v in
    let d = with_last (content (file s)) x in
    by_conditions (edit (add new)) s l (104 + l.section) 0 (8 + length v) (104 + l.section) (length v) (with_block_carried s new.kind.key v) (Ok tt) (λ g bad. absurd (not_both tt g (sym bad)))
    (λ _.
    plan_as (edit (add new)) s l (104 + l.section) 0 (length (block_bytes x)) (8 + length v) (104 + l.section) (length v) _ (with_block_carried s new.kind.key v) (block_long new.kind.key v four)
    (last_plan (edit (add new)) s l x four read h (late_from l.version e)
    (add_wants s new l read h (bytes v) w ∙ ap (λ (y : Check). y then Ok d) e))
    (λ fits. block_filled s new.kind.key v (patch_is s l (104 + l.section) 0 (8 + length v) (104 + l.section) (length v)) four fits refl refl))

add_held : (s : WorkState) (new : Payload) → ReadFile (file s) → length new.kind.key ≡ 4 → (r : Result Layout Fault) → layout_of_file (file s) ≡ r
    → IsAddPlan s new ((r with λ l. blocks_present l.version then Ok l) with λ l. output_length (payload_output new) with λ n. patch_behind s l n)
add_held s new read four (Err g) e = by_fault (edit (add new)) s _ g _ (none_held s (add new) (layout_of_file (file s)) g refl e)
add_held s new read four (Ok l) e =
    subst (IsAddPlan s new)
    (sym (handed_on (blocks_present l.version) l (λ l. output_length (payload_output new) with λ n. patch_behind s l n)))
    (add_by s new l read e four (payload_output new) refl (blocks_present l.version) refl)

pub add_planned : (s : WorkState) (new : Payload) (r : Result Patch Fault) → ReadFile (file s) → length new.kind.key ≡ 4 → r ≡ add_patch s new
    → IsAddPlan s new r
add_planned s new r read four e =
    subst (IsAddPlan s new) (sym e)
    (add_held s new read four (layout_of_file (file s)) refl)
