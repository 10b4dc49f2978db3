-- The header as a list of slots: what was packed is unpacked, and what is unpacked was packed.
use Rattle.std.proofs.Common.{◌≡◌, ℕ, zero, suc, ◌+◌, ◌-◌, ◌^◌, ◌<◌, ◌≤◌, Bool, true, false, cond, List, [], ◌∷◌, ◌++◌, length, drop, refl, ap, ◌∙◌, ⊎_elim, append_assoc, arith}
use Rattle.std.proofs.lemmas.Bool.{cases_lt, le-ltb, lt-ltb}
use Rattle.buffers.proofs.Encoded.{word_lt, reads, goes_on, writes}
use Rattle.buffers.specs.Words.{size, limit, word, word16, word32, be, Bytes}
use Rattle.format.specs.Content.{Slot, own, follows, from_level, slots, pack, unpack, IsFitting}
use Rattle.format.specs.Header.{the_extent, extent_end, section_size_place, header_end}

-- where slots that begin at `at` end
abbrev pub end : List Slot → ℕ → ℕ
end [] at = at
end (own w ∷ ss) at = end ss (at + size w)
end (follows w x ∷ ss) at = end ss (at + size w)

-- the words that follow from the rest of the content have their values
abbrev pub Known : List Slot → List ℕ → ℕ → Type 0
Known [] b at = Unit {0}
Known (own w ∷ ss) b at = Known ss b (at + size w)
Known (follows w x ∷ ss) b at = (word w b at ≡ x) × Known ss b (at + size w)

-- those words fit their widths
abbrev pub Within : List Slot → Type 0
Within [] = Unit {0}
Within (own w ∷ ss) = Within ss
Within (follows w x ∷ ss) = (x < limit w) × Within ss

end_ge : (ss : List Slot) (at : ℕ) → at ≤ end ss at
end_ge [] at = omega arith
end_ge (own w ∷ ss) at = omega (arith, end_ge ss (at + size w))
end_ge (follows w x ∷ ss) at = omega (arith, end_ge ss (at + size w))

-- what was packed at a place is unpacked there
pub read_back : (ss : List Slot) (fs b : List ℕ) (at : ℕ) (rest : List ℕ) → drop at b ≡ pack ss fs ++ rest → IsFitting ss fs → Within ss
    → (unpack ss b at ≡ fs) × Known ss b at × (drop (end ss at) b ≡ rest)
read_back [] [] b at rest e h k = (refl, tt, e)
read_back [] (f ∷ fs) b at rest e h k = absurd h
read_back (own w ∷ ss) [] b at rest e h k = absurd h
read_back (own w ∷ ss) (f ∷ fs) b at rest e h k =
    let e' : drop at b ≡ be w f ++ (pack ss fs ++ rest) = e ∙ append_assoc (be w f) (pack ss fs) rest in
    let r = read_back ss fs b (at + size w) rest (goes_on w b at f _ e') h.1 k in
    let q = reads w b at f _ e' h.0 in
    let p = r.0 in
    (cc, r.1, r.2)
read_back (follows w x ∷ ss) fs b at rest e h k =
    let e' : drop at b ≡ be w x ++ (pack ss fs ++ rest) = e ∙ append_assoc (be w x) (pack ss fs) rest in
    let r = read_back ss fs b (at + size w) rest (goes_on w b at x _ e') h k.1 in
    (r.0, (reads w b at x _ e' k.0, r.1), r.2)

-- what is unpacked at a place was packed there
pub written_back : (ss : List Slot) (b : List ℕ) (at : ℕ) → Known ss b at → end ss at ≤ length b → Bytes b
    → pack ss (unpack ss b at) ++ drop (end ss at) b ≡ drop at b
written_back [] b at k l h = refl
written_back (own w ∷ ss) b at k l h =
    append_assoc (be w (word w b at)) (pack ss (unpack ss b (at + size w))) _
    ∙ ap (λ y. be w (word w b at) ++ y) (written_back ss b (at + size w) k l h)
    ∙ writes w b at (omega (arith, end_ge ss (at + size w))) h
written_back (follows w x ∷ ss) b at k l h =
    append_assoc (be w x) (pack ss (unpack ss b (at + size w))) _
    ∙ ap (λ y. be w x ++ y) (written_back ss b (at + size w) k.1 l h)
    ∙ rw (← k.0) (writes w b at (omega (arith, end_ge ss (at + size w))) h)

-- what is unpacked fits
pub fits : (ss : List Slot) (b : List ℕ) (at : ℕ) → Bytes b → IsFitting ss (unpack ss b at)
fits [] b at h = tt
fits (own w ∷ ss) b at h = (word_lt w b at h, fits ss b (at + size w) h)
fits (follows w x ∷ ss) b at h = fits ss b (at + size w) h

-- the levels
end_has : (t : Bool) (ss : List Slot) (at : ℕ) → end (cond t [] ss) at ≡ cond t at (end ss at)
end_has true ss at = refl
end_has false ss at = refl

pub end_slots : (v d s : ℕ) → end (slots v d s) 0 ≡ header_end v
end_slots v d s = simp end_has

unpack_has : (t : Bool) (ss : List Slot) (b : List ℕ) (at : ℕ) → unpack (cond t [] ss) b at ≡ cond t [] (unpack ss b at)
unpack_has true ss b at = refl
unpack_has false ss b at = refl

-- the fields do not hang on what the other words say
pub unpack-slots : (v d s : ℕ) (b : List ℕ) → unpack (slots v d s) b 0 ≡ unpack (slots v 0 0) b 0
unpack-slots v d s b = simp unpack_has

-- the words that follow from the rest of the content, at their places
pub record Words (b : List ℕ) (v d s : ℕ) : Type 0 where
  pub version : word16 b 0 ≡ v
  pub extent_at : (i : ℕ) → 1 ≤ i → i ≤ 5 → i ≤ v → word32 b (the_extent i).place ≡ d - extent_end (the_extent i)
  pub section : 6 ≤ v → word32 b section_size_place ≡ s

known_has : (v i : ℕ) (ss : List Slot) (b : List ℕ) (at : ℕ) → (i ≤ v → Known ss b at) → Known (from_level i v ss) b at
known_has v i ss b at h = ⊎_elim (λ (l : v < i). rw (lt-ltb v i l) tt) (λ (l : i ≤ v). rw (le-ltb v i l) (h l)) (cases_lt v i)

has_known : (v i : ℕ) (ss : List Slot) (b : List ℕ) (at : ℕ) → Known (from_level i v ss) b at → i ≤ v → Known ss b at
has_known v i ss b at k l = rw (le-ltb v i l) at k

pub known_words : (b : List ℕ) (v d s : ℕ) → 1 ≤ v → Words b v d s → Known (slots v d s) b 0
known_words b v d s one w = (
  w.version,
  (
    w.extent_at 1 (omega arith) (omega arith) one,
    known_has v 2 _ b 10 (λ l. (
      w.extent_at 2 (omega arith) (omega arith) l,
      known_has v 3 _ b 16 (λ l. (
        w.extent_at 3 (omega arith) (omega arith) l,
        known_has v 4 _ b 24 (λ l. (
          w.extent_at 4 (omega arith) (omega arith) l,
          known_has v 5 _ b 72 (λ l. (
            w.extent_at 5 (omega arith) (omega arith) l,
            known_has v 6 _ b 100 (λ l. (w.section l, tt)),
          )),
        )),
      )),
    )),
  ),
)

-- the numbers of the extents
by_number : (P : ℕ → Type 0) → P 1 → P 2 → P 3 → P 4 → P 5 → (i : ℕ) → 1 ≤ i → i ≤ 5 → P i
by_number P one two three four five zero from to = absurd (omega arith)
by_number P one two three four five (suc zero) from to = one
by_number P one two three four five (suc (suc zero)) from to = two
by_number P one two three four five (suc (suc (suc zero))) from to = three
by_number P one two three four five (suc (suc (suc (suc zero)))) from to = four
by_number P one two three four five (suc (suc (suc (suc (suc zero))))) from to = five
by_number P one two three four five (suc (suc (suc (suc (suc (suc i)))))) from to = absurd (omega arith)

pub words_known : (b : List ℕ) (v d s : ℕ) → Known (slots v d s) b 0 → Words b v d s
words_known b v d s k =
    let k2 = has_known v 2 _ b 10 k.1.1 in
    let k3 = λ (l : 3 ≤ v). has_known v 3 _ b 16 (k2 (omega arith)).1 l in
    let k4 = λ (l : 4 ≤ v). has_known v 4 _ b 24 (k3 (omega arith)).1 l in
    let k5 = λ (l : 5 ≤ v). has_known v 5 _ b 72 (k4 (omega arith)).1 l in
    let k6 = λ (l : 6 ≤ v). has_known v 6 _ b 100 (k5 (omega arith)).1 l in
    record {
      version = k.0;
      extent_at = by_number (λ i. i ≤ v → word32 b (the_extent i).place ≡ d - extent_end (the_extent i))
          (λ l. k.1.0) (λ l. (k2 l).0) (λ l. (k3 l).0) (λ l. (k4 l).0) (λ l. (k5 l).0);
      section = λ l. (k6 l).0;
    }

within_has : (v i : ℕ) (ss : List Slot) → Within ss → Within (from_level i v ss)
within_has v i ss h = ⊎_elim (λ (l : v < i). rw (lt-ltb v i l) tt) (λ (l : i ≤ v). rw (le-ltb v i l) h) (cases_lt v i)

-- the words that follow fit, where the version is small and the data begin within reach
pub within_slots : (v d s : ℕ) → v ≤ 32 → d - 10 < 2 ^ 31 → s < 2 ^ 32 → Within (slots v d s)
within_slots v d s small reach section = (
  omega arith,
  (
    omega arith,
    within_has v 2 _ (
      omega arith,
      within_has v 3 _ (
        omega arith,
        within_has v 4 _ (
          omega arith,
          within_has v 5 _ (
            omega arith,
            within_has v 6 _ (section, tt),
          ),
        ),
      ),
    ),
  ),
)
