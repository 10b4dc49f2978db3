-- Other blocks make a sound content of a sound one.
use Rattle.std.proofs.Common.{◌≡◌, ℕ, zero, suc, ◌+◌, ◌-◌, ◌^◌, ◌<◌, ◌≤◌, List, [], ◌∷◌, ◌++◌, length, Some, sym, ap, ◌∙◌, subst, arith}
use Rattle.std.proofs.lemmas.List.{length-append}
use Rattle.std.proofs.lemmas.Option.{slice_get-get_or}
use Rattle.std.specs.List.{AllByRecursion, slice_get}
use Rattle.buffers.specs.Words.{size, limit}
use Rattle.format.specs.Changes.{with_blocks}
use Rattle.format.specs.Content.{Slot, own, follows, slots, IsFitting, Block, Content, section, block_bytes, start, header, header_slots, write, IsWritable, IsSound, block}
use Rattle.format.proofs.Spots.{Spot, owned, owned_slots}
use Rattle.format.proofs.Writing.{header_long}
use Rattle.editor.specs.Blocks.{block_in}

-- values fit the spots of a header, whatever its other words
abbrev FitSpots : List Spot → List ℕ → Type 0
FitSpots [] [] = Unit {0}
FitSpots [] (f ∷ fs) = ⊥
FitSpots (p ∷ ps) [] = ⊥
FitSpots (p ∷ ps) (f ∷ fs) = (f < limit p.1) × FitSpots ps fs

fit_spots : (ss : List Slot) (fs : List ℕ) (at : ℕ) → IsFitting ss fs → FitSpots (owned ss at) fs
fit_spots [] [] at h = tt
fit_spots [] (f ∷ fs) at h = h
fit_spots (own w ∷ ss) [] at h = h
fit_spots (own w ∷ ss) (f ∷ fs) at h = (h.0, fit_spots ss fs (at + size w) h.1)
fit_spots (follows w x ∷ ss) fs at h = fit_spots ss fs (at + size w) h

spots_fit : (ss : List Slot) (fs : List ℕ) (at : ℕ) → FitSpots (owned ss at) fs → IsFitting ss fs
spots_fit [] [] at h = tt
spots_fit [] (f ∷ fs) at h = h
spots_fit (own w ∷ ss) [] at h = h
spots_fit (own w ∷ ss) (f ∷ fs) at h = (h.0, spots_fit ss fs (at + size w) h.1)
spots_fit (follows w x ∷ ss) fs at h = spots_fit ss fs (at + size w) h

pub fit_slots : (v d s e t : ℕ) (fs : List ℕ) → IsFitting (slots v d s) fs → IsFitting (slots v e t) fs
fit_slots v d s e t fs h =
    spots_fit (slots v e t) fs 0 (subst (λ (o : List Spot). FitSpots o fs) (owned_slots v d s ∙ sym (owned_slots v e t)) (fit_spots (slots v d s) fs 0 h))

-- the header, the section and the gap are no longer than the writing
start_within : (d : Content) → IsFitting (header_slots d) d.fields → start d ≤ length (write d)
start_within d h =
    let head = header_long d h in
    let l1 = length-append (header d) (section d.blocks ++ (d.gap ++ (d.cells ++ d.tail))) in
    let l2 = length-append (section d.blocks) (d.gap ++ (d.cells ++ d.tail)) in
    let l3 = length-append d.gap (d.cells ++ d.tail) in
    omega arith

near : (d size : ℕ) → d ≤ size → size ≤ 1073741824 → d - 10 < 2 ^ 31
near d size h k = omega arith

-- blocks that can be written, in a file that is not too long
pub sound_blocks : (c : Content) (ks : List Block) → IsSound c → 6 ≤ c.version → AllByRecursion IsWritable ks → length (write (with_blocks c ks)) ≤ 1073741824 → IsSound (with_blocks c ks)
sound_blocks c ks s late h room =
    let d = with_blocks c ks in
    let fit = fit_slots c.version (start c) (length (section c.blocks)) (start d) (length (section ks)) c.fields s.fields_fit in
    record {
      version_from = s.version_from;
      version_to = s.version_to;
      fields_fit = fit;
      reach = near (start d) (length (write d)) (start_within d fit) room;
      bins_from = s.bins_from;
      bins_to = s.bins_to;
      ranges_from = s.ranges_from;
      ranges_to = s.ranges_to;
      channels = s.channels;
      blocks_fit = h;
      blocks_from_six = λ l. absurd (omega arith);
      gap_bytes = s.gap_bytes;
      cells_bytes = s.cells_bytes;
      tail_bytes = s.tail_bytes;
      cells_whole = s.cells_whole;
    }

-- the data of a block are no longer than the section, and the section than the writing
body_within : (ks : List Block) (i : ℕ) (x : Block) → slice_get ks i ≡ Some x → length x.body ≤ length (section ks)
body_within [] i x e = let z : ◌≡◌ {A = ℕ} 0 1 = cc in absurd (omega arith)
body_within (k ∷ ks) zero x e =
    let same : k ≡ x = cc in
    let l1 = length-append (block_bytes k) (section ks) in
    let l2 : length (block_bytes k) ≡ length k.key + (4 + length k.body) = simp length-append in
    let l3 : length k.body ≡ length x.body = ap (λ (y : Block). length y.body) same in
    omega arith
body_within (k ∷ ks) (suc i) x e =
    let l1 = length-append (block_bytes k) (section ks) in
    omega (arith, body_within ks i x e)

section_within : (d : Content) → length (section d.blocks) ≤ length (write d)
section_within d =
    let l1 = length-append (header d) (section d.blocks ++ (d.gap ++ (d.cells ++ d.tail))) in
    let l2 = length-append (section d.blocks) (d.gap ++ (d.cells ++ d.tail)) in
    omega arith

small : (a b c : ℕ) → a ≤ b → b ≤ c → c ≤ 1073741824 → a < 2 ^ 32
small a b c h k l = omega arith

pub body_small : (d : Content) (i : ℕ) (x : Block) → slice_get d.blocks i ≡ Some x → length (write d) ≤ 1073741824 → length x.body < 2 ^ 32
body_small d i x e room = small (length x.body) (length (section d.blocks)) (length (write d)) (body_within d.blocks i x e) (section_within d) room

pub get_in : (ks : List Block) (k : ℕ) → 1 ≤ k → k ≤ length ks → slice_get ks (k - 1) ≡ Some (block_in ks k)
get_in ks k from to = slice_get-get_or ks (k - 1) (block [] []) (omega arith)
