-- A file that is opened in its buffer: its rest is moved, and what it leaves behind is zero.
use Rattle.std.proofs.Common.{◌≡◌, ℕ, ◌+◌, ◌-◌, ◌<◌, ◌≤◌, max, List, ◌++◌, length, take, drop, arith, rules}
use Rattle.std.proofs.lemmas.List.{same_lists, places, length-append, length-take-le, length-drop}
use Rattle.buffers.specs.Moves.{written, shifted, zeroed}
use Rattle.editor.specs.steps.Patches.{with_patch, opened_buffer}

-- the file when it was opened: what stood before the place, some bytes, and what stood behind what
-- is removed
pub opened-length : (buffer : List ℕ) (size at removed added : ℕ) → at + removed ≤ size → size ≤ length buffer → at + added ≤ length buffer
    → length (with_patch (take size buffer) at removed (take added (drop at buffer))) ≡ at + added + (size - (at + removed))
opened-length buffer size at removed added inside within room =
    let f = take size buffer in
    let hole = take added (drop at buffer) in
    let l0 : length f ≡ size = length-take-le size buffer within in
    let l1 = length-append (take at f) (hole ++ drop (at + removed) f) in
    let l2 = length-append hole (drop (at + removed) f) in
    let l3 : length (take at f) ≡ at = length-take-le at f (omega arith) in
    let l4 : length hole ≡ added = length-take-le added (drop at buffer) (simp length-drop (omega arith)) in
    let l5 = length-drop (at + removed) f in
    omega arith

-- the rest of the file is moved up
pub opened_up : (buffer : List ℕ) (size at removed added : ℕ) → at + removed ≤ size → size ≤ length buffer → size - removed + added ≤ length buffer → removed ≤ added
    → shifted buffer (at + removed) (size - (at + removed)) (at + removed + (added - removed)) ≡ opened_buffer buffer size at removed added
unfolding written
opened_up buffer size at removed added inside within room more =
    let long = opened-length buffer size at removed added inside within (omega arith) in
    let none : size - length (with_patch (take size buffer) at removed (take added (drop at buffer))) ≡ 0 = omega arith in
    let most : max size (length (with_patch (take size buffer) at removed (take added (drop at buffer)))) ≡ at + added + (size - (at + removed)) = omega arith in
    let to : at + removed + (added - removed) ≡ at + added = omega arith in
    rw (to, none, most) (same_lists _ _ (search (rules, places)) (λ k z w. grind (arith, places)))

-- or down, and the bytes behind it are zero
pub opened_down : (buffer : List ℕ) (size at removed added : ℕ) → at + removed ≤ size → size ≤ length buffer → added < removed
    → zeroed (shifted buffer (at + removed) (size - (at + removed)) (at + removed - (removed - added))) (size - (removed - added)) (removed - added) ≡ opened_buffer buffer size at removed added
unfolding written
opened_down buffer size at removed added inside within less =
    let long = opened-length buffer size at removed added inside within (omega arith) in
    let freed : size - length (with_patch (take size buffer) at removed (take added (drop at buffer))) ≡ removed - added = omega arith in
    let most : max size (length (with_patch (take size buffer) at removed (take added (drop at buffer)))) ≡ size = omega arith in
    let to : at + removed - (removed - added) ≡ at + added = omega arith in
    let end : size - (removed - added) ≡ at + added + (size - (at + removed)) = omega arith in
    rw (to, end, freed, most) (same_lists _ _ (search (rules, places)) (λ k z w. grind (arith, places)))
