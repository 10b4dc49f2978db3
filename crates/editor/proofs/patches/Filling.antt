-- Room that was made in a file is filled.
use Rattle.std.proofs.Common.{◌≡◌, ℕ, ◌+◌, ◌-◌, ◌≤◌, List, ◌++◌, length, take, drop, sym, ap, ◌∙◌, arith, rules}
use Rattle.std.proofs.lemmas.List.{same_lists, places, length-append, length-take-le, length-drop}
use Rattle.buffers.specs.Moves.{written}
use Rattle.buffers.specs.Words.{be32}
use Rattle.format.specs.Changes.{settled_header}
use Rattle.editor.specs.declared.patch.Patch.{Patch}
use Rattle.format.specs.InBuffer.{with_file}
use Rattle.editor.specs.steps.Patches.{with_patch, with_room_made}
use Rattle.editor.proofs.calls.Held.{with_file-length}
use Rattle.editor.proofs.patches.Opened.{opened-length}
use Rattle.buffers.proofs.Lists.{written-length, written_apart}
use Rattle.editor.proofs.patches.Spliced.{written_file, settled_in, settled_file}

pub settled-length : (x : List ℕ) (d s : ℕ) → 104 ≤ length x → length (settled_header x d s) ≡ length x
settled-length x d s long =
    let x1 = written x 6 (be32 (d - 10)) in
    let x2 = written x1 12 (be32 (d - 16)) in
    let x3 = written x2 20 (be32 (d - 24)) in
    let x4 = written x3 68 (be32 (d - 72)) in
    let x5 = written x4 96 (be32 (d - 100)) in
    let l1 : length x1 ≡ length x = written-length x 6 (be32 (d - 10)) (omega arith) in
    let l2 : length x2 ≡ length x = written-length x1 12 (be32 (d - 16)) (omega arith) ∙ l1 in
    let l3 : length x3 ≡ length x = written-length x2 20 (be32 (d - 24)) (omega arith) ∙ l2 in
    let l4 : length x4 ≡ length x = written-length x3 68 (be32 (d - 72)) (omega arith) ∙ l3 in
    let l5 : length x5 ≡ length x = written-length x4 96 (be32 (d - 100)) (omega arith) ∙ l4 in
    written-length x5 100 (be32 s) (omega arith) ∙ l5

pub patched-length : (b : List ℕ) (at removed : ℕ) (new : List ℕ) → at + removed ≤ length b → length (with_patch b at removed new) ≡ length b + length new - removed
patched-length b at removed new h =
    let l1 = length-append (take at b) (new ++ drop (at + removed) b) in
    let l2 = length-append new (drop (at + removed) b) in
    let l3 = length-take-le at b (omega arith) in
    let l4 = length-drop (at + removed) b in
    omega arith

-- what stood in the room is written over
room_filled : (b hole new : List ℕ) (at removed : ℕ) → at + removed ≤ length b → length hole ≡ length new → written (with_patch b at removed hole) at new ≡ with_patch b at removed new
unfolding written
room_filled b hole new at removed h same =
    let l1 = length-append (take at b) (hole ++ drop (at + removed) b) in
    let l2 = length-append (take at b) (new ++ drop (at + removed) b) in
    same_lists _ _ (search (rules, places)) (λ i z w. grind (arith, places))

-- a writing behind the header goes past the settling of the header
written_settled : (x r : List ℕ) (d s q : ℕ) → 104 ≤ q → q + length r ≤ length x → written (settled_header x d s) q r ≡ settled_header (written x q r) d s
written_settled x r d s q front inside =
    sym (settled_in (λ y. written y q r) x d s (omega arith) (λ y a p same in-header. written_apart y a r p q (omega arith) (omega arith)))

pub written_in_file : (buffer x r : List ℕ) (size d s q : ℕ) → 104 ≤ q → q + length r ≤ length x
    → written (with_file buffer size (settled_header x d s)) q r ≡ with_file buffer size (settled_header (written x q r) d s)
written_in_file buffer x r size d s q front inside =
    written_file buffer (settled_header x d s) r size q (omega (arith, settled-length x d s (omega arith)))
    ∙ ap (with_file buffer size) (written_settled x r d s q front inside)

pub filled : (buffer new : List ℕ) (size : ℕ) (p : Patch) → 104 ≤ p.at → p.at + p.removed ≤ size → size ≤ length buffer → p.at + p.added ≤ length buffer → length new ≡ p.added
    → written (with_room_made buffer size p) p.at new ≡ with_file buffer size (settled_header (with_patch (take size buffer) p.at p.removed new) p.start p.section)
filled buffer new size p front inside within room long =
    let f = take size buffer in
    let hole = take p.added (drop p.at buffer) in
    let x = with_patch f p.at p.removed hole in
    let whole = opened-length buffer size p.at p.removed p.added inside within room in
    let hole_long : length hole ≡ p.added = length-take-le p.added (drop p.at buffer) (simp length-drop (omega arith)) in
    let f_long : length f ≡ size = length-take-le size buffer within in
    ap (λ (b : List ℕ). written b p.at new) (settled_file buffer x size p.start p.section (omega arith))
    ∙ written_in_file buffer x new size p.start p.section p.at front (omega arith)
    ∙ ap (λ (b : List ℕ). with_file buffer size (settled_header b p.start p.section)) (room_filled f hole new p.at p.removed (omega arith) (omega arith))

pub roomed-length : (buffer : List ℕ) (size : ℕ) (p : Patch) → 104 ≤ p.at → p.at + p.removed ≤ size → size ≤ length buffer → size + p.added - p.removed ≤ length buffer → p.at + p.added ≤ length buffer
    → length (with_room_made buffer size p) ≡ length buffer
roomed-length buffer size p front inside within room hole =
    let x = with_patch (take size buffer) p.at p.removed (take p.added (drop p.at buffer)) in
    let whole = opened-length buffer size p.at p.removed p.added inside within hole in
    let all = with_file-length buffer x size within (omega arith) in
    settled-length (with_file buffer size x) p.start p.section (omega arith) ∙ all
