-- Where the fields of a header stand, and what it means to write one of its words anew.
use Rattle.std.proofs.Common.{◌≡◌, ℕ, zero, suc, ◌+◌, ◌<◌, ◌≤◌, cond, ltb, List, [], ◌∷◌, ◌++◌, map, length, get_or, take, drop, set, sym, refl, ap, ◌∙◌, ⊎_elim, append_assoc, arith}
use Rattle.std.proofs.lemmas.List.{length-append, take_at, drop_at}
use Rattle.std.proofs.lemmas.Bool.{cases_lt, le-ltb, lt-ltb}
use Rattle.buffers.proofs.Encoded.{be-length}
use Rattle.buffers.specs.Moves.{written}
use Rattle.buffers.specs.Words.{Width, four, size, word, be}
use Rattle.format.specs.Content.{Slot, own, follows, slots, pack, unpack, IsFitting}
use Rattle.format.specs.Header.{FieldEntry, fields}
use Rattle.format.proofs.Slots.{end}

-- the place and the width of a word
abbrev pub Spot : Type 0
Spot = ℕ × Width

abbrev pub nowhere : Spot
nowhere = (0, four)

abbrev pub spot : FieldEntry → Spot
spot f = (f.place, f.width)

-- the spots of the fields in slots that begin at `at`
abbrev pub owned : List Slot → ℕ → List Spot
owned [] at = []
owned (own w ∷ ss) at = (at, w) ∷ owned ss (at + size w)
owned (follows w x ∷ ss) at = owned ss (at + size w)

-- how many fields a file of that version has
abbrev pub fields_to : ℕ → ℕ
fields_to v = cond (ltb v 2) 1 (cond (ltb v 3) 2 (cond (ltb v 4) 3 (cond (ltb v 5) 14 20)))

-- the spots of a header's fields are those of the table
pub owned_slots : (v d s : ℕ) → owned (slots v d s) 0 ≡ map spot (take (fields_to v) fields)
owned_slots v d s =
    ⊎_elim (λ (a : v < 2). rw (lt-ltb v 2 a))
    (λ (a : 2 ≤ v). ⊎_elim (λ (b : v < 3). rw (le-ltb v 2 a, lt-ltb v 3 b))
    (λ (b : 3 ≤ v). ⊎_elim (λ (c : v < 4). rw (le-ltb v 2 a, le-ltb v 3 b, lt-ltb v 4 c))
    (λ (c : 4 ≤ v). ⊎_elim (λ (e : v < 5). rw (le-ltb v 2 a, le-ltb v 3 b, le-ltb v 4 c, lt-ltb v 5 e))
    (λ (e : 5 ≤ v). ⊎_elim (λ (f : v < 6). rw (le-ltb v 2 a, le-ltb v 3 b, le-ltb v 4 c, le-ltb v 5 e, lt-ltb v 6 f))
    (λ (f : 6 ≤ v). rw (le-ltb v 2 a, le-ltb v 3 b, le-ltb v 4 c, le-ltb v 5 e, le-ltb v 6 f))
    (cases_lt v 6)) (cases_lt v 5)) (cases_lt v 4)) (cases_lt v 3)) (cases_lt v 2)

-- there is a spot for each field
pub owned_length : (ss : List Slot) (fs : List ℕ) (at : ℕ) → IsFitting ss fs → length fs ≡ length (owned ss at)
owned_length [] [] at h = refl
owned_length [] (f ∷ fs) at h = absurd h
owned_length (own w ∷ ss) [] at h = absurd h
owned_length (own w ∷ ss) (f ∷ fs) at h = ap suc (owned_length ss fs (at + size w) h.1)
owned_length (follows w x ∷ ss) fs at h = owned_length ss fs (at + size w) h

-- what is unpacked is what stands at the spots
pub unpack_owned : (ss : List Slot) (b : List ℕ) (at : ℕ) → unpack ss b at ≡ map (λ (p : Spot). word p.1 b p.0) (owned ss at)
unpack_owned [] b at = refl
unpack_owned (own w ∷ ss) b at = ap (λ (l : List ℕ). word w b at ∷ l) (unpack_owned ss b (at + size w))
unpack_owned (follows w x ∷ ss) b at = unpack_owned ss b (at + size w)

-- bytes in the place of as many others
pub written_mid : (front old new rest : List ℕ) (at : ℕ) → length front ≡ at → length new ≡ length old
    → written (front ++ (old ++ rest)) at new ≡ front ++ (new ++ rest)
unfolding written
written_mid front old new rest at p q =
    let long : length (front ++ old) ≡ at + length new = length-append front old ∙ omega arith in
    let a = take_at front (old ++ rest) at p in
    let b : drop (at + length new) (front ++ (old ++ rest)) ≡ rest = rw (← append_assoc front old rest) (drop_at (front ++ old) rest (at + length new) long) in
    rw (a, b)

-- a field that is set is packed anew at its spot alone
pub pack_set : (ss : List Slot) (fs : List ℕ) (i x : ℕ) (front rest : List ℕ) (at : ℕ) → length front ≡ at → IsFitting ss fs → i < length fs
    → front ++ (pack ss (set fs i x) ++ rest)
    ≡ written (front ++ (pack ss fs ++ rest)) (get_or (owned ss at) i nowhere).0 (be (get_or (owned ss at) i nowhere).1 x)
pack_set [] [] i x front rest at p h l = absurd (omega arith)
pack_set [] (f ∷ fs) i x front rest at p h l = absurd h
pack_set (own w ∷ ss) [] i x front rest at p h l = absurd h
pack_set (own w ∷ ss) (f ∷ fs) zero x front rest at p h l =
    let same : length (be w x) ≡ length (be w f) = be-length w x ∙ sym (be-length w f) in
    let m = written_mid front (be w f) (be w x) (pack ss fs ++ rest) at p same in
    simp append_assoc (sym m)
pack_set (own w ∷ ss) (f ∷ fs) (suc i) x front rest at p h l =
    let long : length (front ++ be w f) ≡ at + size w = length-append front (be w f) ∙ omega (arith, be-length w f) in
    let r = pack_set ss fs i x (front ++ be w f) rest (at + size w) long h.1 (omega arith) in
    simp append_assoc (simp append_assoc at r)
pack_set (follows w y ∷ ss) fs i x front rest at p h l =
    let long : length (front ++ be w y) ≡ at + size w = length-append front (be w y) ∙ omega (arith, be-length w y) in
    let r = pack_set ss fs i x (front ++ be w y) rest (at + size w) long h l in
    simp append_assoc (simp append_assoc at r)

-- a word that follows from the rest, with another value, is packed anew at its place alone
pub pack_put : (pre post : List Slot) (w : Width) (x y : ℕ) (fs front : List ℕ) (at : ℕ) → length front ≡ at → IsFitting (pre ++ (follows w x ∷ post)) fs
    → front ++ pack (pre ++ (follows w y ∷ post)) fs ≡ written (front ++ pack (pre ++ (follows w x ∷ post)) fs) (end pre at) (be w y)
pack_put [] post w x y fs front at p h =
    let same : length (be w y) ≡ length (be w x) = be-length w y ∙ sym (be-length w x) in
    sym (written_mid front (be w x) (be w y) (pack post fs) at p same)
pack_put (own u ∷ pre) post w x y [] front at p h = absurd h
pack_put (own u ∷ pre) post w x y (f ∷ fs) front at p h =
    let long : length (front ++ be u f) ≡ at + size u = length-append front (be u f) ∙ omega (arith, be-length u f) in
    let r = pack_put pre post w x y fs (front ++ be u f) (at + size u) long h.1 in
    simp append_assoc at r
pack_put (follows u z ∷ pre) post w x y fs front at p h =
    let long : length (front ++ be u z) ≡ at + size u = length-append front (be u z) ∙ omega (arith, be-length u z) in
    let r = pack_put pre post w x y fs (front ++ be u z) (at + size u) long h in
    simp append_assoc at r
