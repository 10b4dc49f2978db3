-- Where the blocks of a content stand in its writing.
use Rattle.std.proofs.Common.{◌≡◌, ℕ, zero, suc, ◌+◌, ◌<◌, ◌≤◌, List, [], ◌∷◌, ◌++◌, length, take, drop, Some, sym, refl, ap, ◌∙◌, subst, append-nil, arith}
use Rattle.std.proofs.lemmas.List.{length-append, length-take-le, length-drop}
use Rattle.std.specs.List.{slice_get}
use Rattle.format.specs.declared.judging.Layout.{Layout}
use Rattle.format.specs.Content.{Block, Content, IsSound, IsWritable, block_bytes, section, write}
use Rattle.format.specs.Section.{block_end, size_at, data_at}
use Rattle.reader.specs.Answers.{place_after}
use Rattle.reader.specs.Laws.{ContentRead}
use Rattle.reader.proofs.Place.{placed}
use Rattle.reader.proofs.Written.{read_content}
use Rattle.editor.proofs.calls.Held.{writing_held}
use Rattle.editor.proofs.patches.Spliced.{section-append}
use Rattle.editor.proofs.calls.Lists.{all_at, there_is}

-- the blocks up to one, and that one
take_on : (ks : List Block) (i : ℕ) (x : Block) → slice_get ks i ≡ Some x → take (suc i) ks ≡ take i ks ++ (x ∷ [])
take_on [] i x e = let z : ◌≡◌ {A = ℕ} 0 1 = cc in absurd (omega arith)
take_on (k ∷ ks) zero x e = let same : k ≡ x = cc in ap (λ (y : Block). y ∷ []) same
take_on (k ∷ ks) (suc i) x e = ap (λ (l : List Block). k ∷ l) (take_on ks i x e)

section_on : (ks : List Block) (i : ℕ) (x : Block) → slice_get ks i ≡ Some x → length x.key ≡ 4 → length (section (take (suc i) ks)) ≡ length (section (take i ks)) + 8 + length x.body
section_on ks i x e four =
    let all : section (take (suc i) ks) ≡ section (take i ks) ++ block_bytes x =
    ap section (take_on ks i x e) ∙ section-append (take i ks) (x ∷ []) ∙ ap (λ (l : List _). section (take i ks) ++ l) (append-nil (block_bytes x)) in
    let l1 = length-append (section (take i ks)) (block_bytes x) in
    let l2 : length (block_bytes x) ≡ length x.key + (4 + length x.body) = simp length-append in
    let l3 : length (section (take (suc i) ks)) ≡ length (section (take i ks) ++ block_bytes x) = ap length all in
    omega arith

-- the size that a block's head says
size_said : (b : List ℕ) (at n : ℕ) (body : List ℕ) → data_at b at ≡ body → at + 8 + size_at b at ≤ length b → size_at b at ≡ length body
size_said b at n body e inside = sym (length-take-le (size_at b at) (drop (at + 8) b) (simp length-drop (omega arith))) ∙ ap length e

module _ (c : Content) (s : IsSound c) where
  abbrev b : List ℕ
  b = write c

  abbrev l : Layout
  l = (writing_held c s b refl).0.0

  r : ContentRead b l c
  r =
      let w = writing_held c s b refl in
      subst (ContentRead b l) w.1 (read_content b l (subst IsSound (sym w.1) s) (ap write w.1) w.0.1)

  block_inside : (i : ℕ) → i < length c.blocks → place_after b 104 i + 8 + size_at b (place_after b 104 i) ≤ length b
  block_inside i less =
      let p = placed b l (writing_held c s b refl).0.1 in
      let end = p.blocks_inside i (omega (arith, r.blocks_are)) in
      omega (arith, end, p.cells_inside)

  pub said : (i : ℕ) (x : Block) → slice_get c.blocks i ≡ Some x → i < length c.blocks → size_at b (place_after b 104 i) ≡ length x.body
  said i x e less = size_said b (place_after b 104 i) i x.body (r.blocks i x e).1 (block_inside i less)

  pub stands : (i : ℕ) → i ≤ length c.blocks → place_after b 104 i ≡ 104 + length (section (take i c.blocks))
  stands zero to = refl
  stands (suc i) to =
      let x = there_is c.blocks i (omega arith) in
      let four = (all_at IsWritable c.blocks i x.0 x.1 s.blocks_fit).key_size in
      let on = section_on c.blocks i x.0 x.1 four in
      let size = said i x.0 x.1 (omega arith) in
      let before_it = stands i (omega arith) in
      let end : block_end b (place_after b 104 i) ≡ place_after b 104 i + 8 + size_at b (place_after b 104 i) = refl in
      omega arith
