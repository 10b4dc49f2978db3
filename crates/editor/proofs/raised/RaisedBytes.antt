-- The bytes of a raised file: what is written one move after the other is the writing of the raised
-- content.
use Rattle.std.proofs.Common.{◌≡◌, ℕ, ◌+◌, ◌-◌, ◌^◌, ◌<◌, ◌≤◌, List, [], ◌∷◌, ◌++◌, map, length, take, drop, sym, refl, ap, ◌∙◌, subst, append_assoc, append-nil, arith, rules}
use Rattle.std.proofs.lemmas.List.{length-append, length-take-le, length-drop, take-append-drop, take_at, drop_at, drop-drop}
use Rattle.std.proofs.Math.Seq.{take-add}
use Rattle.std.specs.List.{AllByRecursion}
use Rattle.buffers.proofs.Encoded.{be-length}
use Rattle.buffers.specs.Moves.{written, shifted}
use Rattle.buffers.specs.Words.{Width, four, size, be, be32}
use Rattle.format.specs.declared.sizes.Sizes.{Sizes}
use Rattle.format.specs.Content.{Slot, own, follows, fields_at, slots, pack, IsFitting, Content, IsSound, write, header, header_slots, section, start, field_in, content_sizes}
use Rattle.format.specs.Header.{fields, the_field, header_end}
use Rattle.format.proofs.Spots.{written_mid}
use Rattle.format.proofs.Writing.{writing_changes, header_long}
use Rattle.editor.specs.Edits.{raise_filling, raised_content}
use Rattle.editor.specs.steps.Raising.{raised_size, with_room, with_end, with_version, raised_in}
use Rattle.headers.specs.Extents.{with_extents}
use Rattle.headers.specs.Fields.{filled_values, put_values, plain_values, with_fields}
use Rattle.headers.proofs.Plain.{Fits, put_plain}
use Rattle.editor.specs.Calls.{WorkState}
use Rattle.editor.proofs.calls.Held.{Holding, size_is}
use Rattle.editor.proofs.raised.Raised.{raised_start, sound_raised}
use Rattle.editor.proofs.raised.RaisedFields.{by_version, widths, Fitting, fit_of, fitting_of, level_fields, new_values, new_fit}

-- ---- words that follow are written anew
-- slots with other values for the words that follow
abbrev pub renew : List Slot → List ℕ → List Slot
renew [] ys = []
renew (own w ∷ ss) ys = own w ∷ renew ss ys
renew (follows w x ∷ ss) [] = follows w x ∷ renew ss []
renew (follows w x ∷ ss) (y ∷ ys) = follows w y ∷ renew ss ys

-- the words that follow are written at their places
abbrev pub put_slots : List Slot → ℕ → List ℕ → List ℕ
put_slots [] at b = b
put_slots (own w ∷ ss) at b = put_slots ss (at + size w) b
put_slots (follows w x ∷ ss) at b = put_slots ss (at + size w) (written b at (be w x))

-- the fields stay as wide
renewed_widths : (ss : List Slot) (ys : List ℕ) → widths (renew ss ys) ≡ widths ss
renewed_widths [] ys = refl
renewed_widths (own w ∷ ss) ys = ap (λ (ws : List Width). w ∷ ws) (renewed_widths ss ys)
renewed_widths (follows w x ∷ ss) [] = renewed_widths ss []
renewed_widths (follows w x ∷ ss) (y ∷ ys) = renewed_widths ss ys

-- values fit whatever the words that follow
pub fit_renewed : (ss : List Slot) (ys fs : List ℕ) → IsFitting ss fs → IsFitting (renew ss ys) fs
fit_renewed ss ys fs h = fit_of (renew ss ys) fs (subst (λ (ws : List Width). Fitting ws fs) (sym (renewed_widths ss ys)) (fitting_of ss fs h))

-- a word that follows is written in the place of another
one_word : (w : Width) (x y : ℕ) (front rest : List ℕ) (at : ℕ) → length front ≡ at → written (front ++ (be w x ++ rest)) at (be w y) ≡ front ++ (be w y ++ rest)
one_word w x y front rest at p = written_mid front (be w x) (be w y) rest at p (be-length w y ∙ sym (be-length w x))

-- a place moves on by the width of the word before it
longer : (w : Width) (x : ℕ) (front : List ℕ) (at : ℕ) → length front ≡ at → length (front ++ be w x) ≡ at + size w
longer w x front at p = length-append front (be w x) ∙ omega (arith, be-length w x)

-- the words that follow, written one after the other, leave the header as it is packed with them
pub put_renewed : (ss : List Slot) (ys fs front rest : List ℕ) (at : ℕ) → length front ≡ at → IsFitting ss fs
    → put_slots (renew ss ys) at (front ++ (pack ss fs ++ rest)) ≡ front ++ (pack (renew ss ys) fs ++ rest)
put_renewed [] ys [] front rest at p h = refl
put_renewed [] ys (f ∷ fs) front rest at p h = absurd h
put_renewed (own w ∷ ss) ys [] front rest at p h = absurd h
put_renewed (own w ∷ ss) ys (f ∷ fs) front rest at p h =
    let r = put_renewed ss ys fs (front ++ be w f) rest (at + size w) (longer w f front at p) h.1 in
    simp append_assoc (simp append_assoc at r)
put_renewed (follows w x ∷ ss) [] fs front rest at p h =
    let r = put_renewed ss [] fs (front ++ be w x) rest (at + size w) (longer w x front at p) h in
    ap (λ (b : List ℕ). put_slots (renew ss []) (at + size w) b) (ap (λ (l : List ℕ). written (front ++ l) at (be w x)) (append_assoc (be w x) (pack ss fs) rest) ∙ one_word w x x front (pack ss fs ++ rest) at p)
    ∙ simp append_assoc (simp append_assoc at r)
put_renewed (follows w x ∷ ss) (y ∷ ys) fs front rest at p h =
    let r = put_renewed ss ys fs (front ++ be w y) rest (at + size w) (longer w y front at p) h in
    ap (λ (b : List ℕ). put_slots (renew ss ys) (at + size w) b) (ap (λ (l : List ℕ). written (front ++ l) at (be w y)) (append_assoc (be w x) (pack ss fs) rest) ∙ one_word w x y front (pack ss fs ++ rest) at p)
    ∙ simp append_assoc (simp append_assoc at r)

-- slots behind slots are packed behind them
pub pack_more : (ss tt : List Slot) (fs gs : List ℕ) → IsFitting ss fs → pack (ss ++ tt) (fs ++ gs) ≡ pack ss fs ++ pack tt gs
pack_more [] ts [] gs h = refl
pack_more [] ts (f ∷ fs) gs h = absurd h
pack_more (own w ∷ ss) ts [] gs h = absurd h
pack_more (own w ∷ ss) ts (f ∷ fs) gs h = ap (λ (l : List ℕ). be w f ++ l) (pack_more ss ts fs gs h.1) ∙ sym (append_assoc (be w f) (pack ss fs) (pack ts gs))
pack_more (follows w x ∷ ss) ts fs gs h = ap (λ (l : List ℕ). be w x ++ l) (pack_more ss ts fs gs h) ∙ sym (append_assoc (be w x) (pack ss fs) (pack ts gs))

-- ---- the header of the next version
-- the words of a header that has them already, in the next version
abbrev pub next_words : ℕ → List ℕ
next_words v =
    let d = header_end (v + 1) in
    (v + 1) ∷ (d - 10) ∷ (d - 16) ∷ (d - 24) ∷ (d - 72) ∷ (d - 100) ∷ []

-- the header of the next version: the old one with other words, the new fields, and a word that is
-- 0
pub next_slots : (v : ℕ) → 1 ≤ v → v < 6 → (d s : ℕ)
    → slots (v + 1) (header_end (v + 1)) 0 ≡ renew (slots v d s) (next_words v) ++ (fields_at (v + 1) fields ++ (follows four 0 ∷ []))
next_slots v from to =
    by_version
    (λ (v : ℕ). (d s : ℕ) → slots (v + 1) (header_end (v + 1)) 0 ≡ renew (slots v d s) (next_words v) ++ (fields_at (v + 1) fields ++ (follows four 0 ∷ [])))
    (λ d s. refl) (λ d s. refl) (λ d s. refl) (λ d s. refl) (λ d s. refl) v from to

-- the words that the header had before are written
pub put_next : (v : ℕ) → 1 ≤ v → v < 6 → (d s : ℕ) (b : List ℕ) → with_version b v ≡ put_slots (renew (slots v d s) (next_words v)) 0 b
unfolding with_extents
put_next v from to =
    by_version (λ (v : ℕ). (d s : ℕ) (b : List ℕ) → with_version b v ≡ put_slots (renew (slots v d s) (next_words v)) 0 b)
    (λ d s b. refl) (λ d s b. refl) (λ d s b. refl) (λ d s b. refl) (λ d s b. refl) v from to

-- ---- the fields of the new level
abbrev pub total : List ℕ → ℕ
total [] = 0
total (n ∷ ns) = size (the_field n).width + total ns

abbrev pub owns : List ℕ → List Slot
owns ns = map (λ (n : ℕ). own (the_field n).width) ns

-- fields that stand one behind the other, from a place on
abbrev pub InRow : List ℕ → ℕ → Type 0
InRow [] at = Unit {0}
InRow (n ∷ ns) at = ((the_field n).place ≡ at) × InRow ns (at + size (the_field n).width)

-- values are written in the place of as many bytes
pub put_row : (ns gs front mid rest : List ℕ) (at : ℕ) → length front ≡ at → InRow ns at → length gs ≡ length ns → total ns ≤ length mid
    → plain_values (front ++ (mid ++ rest)) ns gs ≡ front ++ (pack (owns ns) gs ++ (drop (total ns) mid ++ rest))
put_row [] [] front mid rest at p r l room = refl
put_row [] (x ∷ gs) front mid rest at p r l room = absurd (omega arith)
put_row (n ∷ ns) [] front mid rest at p r l room = absurd (omega arith)
put_row (n ∷ ns) (x ∷ gs) front mid rest at p r l room =
    let w = (the_field n).width in
    let k = size w in
    let cut : mid ++ rest ≡ take k mid ++ (drop k mid ++ rest) =
    ap (λ (m : List ℕ). m ++ rest) (sym (take-append-drop k mid)) ∙ append_assoc (take k mid) (drop k mid) rest in
    let same : length (be w x) ≡ length (take k mid) = be-length w x ∙ sym (length-take-le k mid (omega arith)) in
    let one : written (front ++ (mid ++ rest)) (the_field n).place (be w x) ≡ (front ++ be w x) ++ (drop k mid ++ rest) =
    ap (λ (i : ℕ). written (front ++ (mid ++ rest)) i (be w x)) r.0 ∙ ap (λ (m : List ℕ). written (front ++ m) at (be w x)) cut
    ∙ written_mid front (take k mid) (be w x) (drop k mid ++ rest) at p same ∙ sym (append_assoc front (be w x) (drop k mid ++ rest)) in
    let room' : total ns ≤ length (drop k mid) = simp length-drop (omega arith) in
    let more = put_row ns gs (front ++ be w x) (drop k mid) rest (at + k) (longer w x front at p) r.1 (omega arith) room' in
    ap (λ (b : List ℕ). plain_values b ns gs) one ∙ more
    ∙ ap (λ (m : List ℕ). (front ++ be w x) ++ (pack (owns ns) gs ++ (m ++ rest))) (drop-drop (total ns) k mid)
    ∙ append_assoc front (be w x) _ ∙ ap (λ (m : List ℕ). front ++ m) (sym (append_assoc (be w x) (pack (owns ns) gs) _))

-- as many bytes as the fields have
packed_row : (ns gs : List ℕ) → length gs ≡ length ns → length (pack (owns ns) gs) ≡ total ns
packed_row [] [] l = refl
packed_row [] (x ∷ gs) l = absurd (omega arith)
packed_row (n ∷ ns) [] l = absurd (omega arith)
packed_row (n ∷ ns) (x ∷ gs) l =
    let w = (the_field n).width in
    let r = packed_row ns gs (omega arith) in
    let b = length-append (be w x) (pack (owns ns) gs) in
    omega (arith, be-length w x)

-- the new level stands in a row from the old header's end on
pub level_row : (v : ℕ) → 1 ≤ v → v < 6 → InRow (level_fields (v + 1)) (header_end v)
level_row v from to =
    by_version (λ (v : ℕ). InRow (level_fields (v + 1)) (header_end v)) (search rules) (search rules) (search rules) (search rules) (search rules) v from to

-- the new level has the fields of the table
pub level_owned : (v : ℕ) → 1 ≤ v → v < 6 → owns (level_fields (v + 1)) ≡ fields_at (v + 1) fields
level_owned v from to =
    by_version (λ (v : ℕ). owns (level_fields (v + 1)) ≡ fields_at (v + 1) fields) refl refl refl refl refl v from to

-- and a word of four bytes behind them
pub level_total : (v : ℕ) → 1 ≤ v → v < 6 → header_end v + total (level_fields (v + 1)) + 4 ≡ header_end (v + 1)
level_total v from to =
    by_version (λ (v : ℕ). header_end v + total (level_fields (v + 1)) + 4 ≡ header_end (v + 1)) refl refl refl refl refl v from to

-- there is a value for each
pub level_count : (v : ℕ) → 1 ≤ v → v < 6 → (s : Sizes) (xs : List ℕ) → length (filled_values (raise_filling v s) xs) ≡ length (level_fields (v + 1))
level_count v from to =
    by_version (λ (v : ℕ). (s : Sizes) (xs : List ℕ) → length (filled_values (raise_filling v s) xs) ≡ length (level_fields (v + 1)))
    (λ s xs. refl) (λ s xs. refl) (λ s xs. refl) (λ s xs. refl) (λ s xs. refl) v from to

-- fields that stand in a row end within the bytes before their end
row_fits : (ns gs : List ℕ) (at m : ℕ) → InRow ns at → at + total ns ≤ m → Fitting (widths (owns ns)) gs → Fits m ns gs
row_fits [] gs at m r l h = tt
row_fits (n ∷ ns) [] at m r l h = tt
row_fits (n ∷ ns) (x ∷ gs) at m r l h =
    let there = r.0 in
    (omega arith, h.0, row_fits ns gs (at + size (the_field n).width) m r.1 (omega arith) h.1)

-- the new level is written behind the old header, in the place of what stood there
pub put_level : (v : ℕ) → 1 ≤ v → v < 6 → (s : Sizes) (xs head mid rest : List ℕ) → Fitting (widths (fields_at (v + 1) fields)) (filled_values (raise_filling v s) xs)
    → length head ≡ header_end v → header_end v + length mid ≡ header_end (v + 1)
    → with_end (head ++ (mid ++ rest)) v s xs ≡ head ++ (pack (fields_at (v + 1) fields) (filled_values (raise_filling v s) xs) ++ (be32 0 ++ rest))
unfolding with_fields
put_level v from to s xs head mid rest fit p q =
    let ns = level_fields (v + 1) in
    let gs = filled_values (raise_filling v s) xs in
    let k = total ns in
    let b = head ++ (mid ++ rest) in
    let sum = level_total v from to in
    let count = level_count v from to s xs in
    let l1 = length-append head (mid ++ rest) in
    let l2 = length-append mid rest in
    let fits : Fits (length b) ns gs =
    row_fits ns gs (header_end v) (length b) (level_row v from to) (omega arith) (subst (λ (ss : List Slot). Fitting (widths ss) gs) (sym (level_owned v from to)) fit) in
    let level : put_values b ns gs ≡ head ++ (pack (owns ns) gs ++ (drop k mid ++ rest)) =
    put_plain ns gs b (length b) refl fits ∙ put_row ns gs head mid rest (header_end v) p (level_row v from to) count (omega arith) in
    let front : length (head ++ pack (owns ns) gs) ≡ header_end (v + 1) - 4 = length-append head (pack (owns ns) gs) ∙ omega (arith, packed_row ns gs count) in
    let four_left : length (be32 0) ≡ length (drop k mid) = sym (length-drop k mid ∙ omega arith) in
    ap (λ (b : List ℕ). written b (header_end (v + 1) - 4) (be32 0)) (level ∙ sym (append_assoc head (pack (owns ns) gs) (drop k mid ++ rest)))
    ∙ written_mid (head ++ pack (owns ns) gs) (drop k mid) (be32 0) rest (header_end (v + 1) - 4) front four_left
    ∙ append_assoc head (pack (owns ns) gs) (be32 0 ++ rest)
    ∙ ap (λ (ss : List Slot). head ++ (pack ss gs ++ (be32 0 ++ rest))) (level_owned v from to)

-- ---- the data are moved up
pub moved : (b head rest behind : List ℕ) (e m to : ℕ) → b ≡ head ++ (rest ++ behind) → length head ≡ e → length rest ≡ m → e ≤ to → to + m ≤ length b
    → shifted b e m to ≡ head ++ (take (to - e) (drop e b) ++ (rest ++ drop (to + m) b))
unfolding written
moved b head rest behind e m to is p q up room =
    let there : drop e b ≡ rest ++ behind = ap (drop e) is ∙ drop_at head (rest ++ behind) e p in
    let taken : take m (drop e b) ≡ rest = ap (take m) there ∙ take_at rest behind m q in
    let front : take e b ≡ head = ap (take e) is ∙ take_at head (rest ++ behind) e p in
    let all : to ≡ e + (to - e) = omega arith in
    let mid : List ℕ = take (to - e) (drop e b) in
    let more : take to b ≡ head ++ mid = ap (λ (k : ℕ). take k b) all ∙ take-add e (to - e) b ∙ ap (λ (l : List ℕ). l ++ mid) front in
    ap (λ (l : List ℕ). l ++ (take m (drop e b) ++ drop (to + length (take m (drop e b))) b)) more
    ∙ ap (λ (r : List ℕ). (head ++ mid) ++ (r ++ drop (to + length r) b)) taken
    ∙ ap (λ (n : ℕ). (head ++ mid) ++ (rest ++ drop (to + n) b)) q
    ∙ append_assoc head mid (rest ++ drop (to + m) b)

-- as many bytes as the header gets more
between : (b : List ℕ) (e to : ℕ) → e ≤ to → to ≤ length b → e + length (take (to - e) (drop e b)) ≡ to
between b e to up room =
    let long = length-take-le (to - e) (drop e b) (simp length-drop (omega arith)) in
    omega arith

-- ---- the whole
regroup : (a p o r z : List ℕ) → a ++ (p ++ (o ++ (r ++ z))) ≡ ((a ++ (p ++ o)) ++ r) ++ z
regroup a p o r z = simp append_assoc

-- the new level is packed behind the old header
pack_end : (ss : List Slot) (gs : List ℕ) → IsFitting ss gs → pack (ss ++ (follows four 0 ∷ [])) gs ≡ pack ss gs ++ be32 0
pack_end ss gs h = ap (pack (ss ++ (follows four 0 ∷ []))) (sym (append-nil gs)) ∙ pack_more ss (follows four 0 ∷ []) gs [] h

module _ (s : WorkState) (c : Content) (xs : List ℕ) (h : Holding s c) (to : c.version < 6) (given : AllByRecursion (λ x. x < 2 ^ 32) xs) where
  abbrev v : ℕ
  v = c.version

  abbrev words : List Slot
  words = renew (header_slots c) (next_words c.version)

  abbrev gs : List ℕ
  gs = new_values c.version (field_in c.fields) xs

  -- what stood behind the old header
  abbrev behind_head : List ℕ
  behind_head = drop (header_end c.version) (write c)

  -- what is known of the content
  sound : IsSound c
  sound = h.sound

  from : 1 ≤ c.version
  from = sound.version_from

  -- the header of the raised content
  header_raised : header (raised_content c xs) ≡ pack words c.fields ++ (pack (fields_at (c.version + 1) fields) gs ++ be32 0)
  header_raised =
      let fit = fit_of (fields_at (c.version + 1) fields) gs (new_fit c.version from to (field_in c.fields) xs given) in
      ap (λ (k : ℕ). pack (slots (c.version + 1) k 0) (c.fields ++ gs)) (raised_start c xs)
      ∙ ap (λ (ss : List Slot). pack ss (c.fields ++ gs)) (next_slots c.version from to (start c) (length (section c.blocks)))
      ∙ pack_more words (fields_at (c.version + 1) fields ++ (follows four 0 ∷ [])) c.fields gs (fit_renewed (header_slots c) (next_words c.version) c.fields sound.fields_fit)
      ∙ ap (λ (l : List ℕ). pack words c.fields ++ l) (pack_end (fields_at (c.version + 1) fields) gs fit)

  -- the header lies in the file
  pub header_within : header_end c.version ≤ s.size
  header_within =
      let long = header_long c sound.fields_fit in
      let all = length-append (header c) (section c.blocks ++ (c.gap ++ (c.cells ++ c.tail))) in
      let size = size_is s c h in
      omega arith

  -- the rest of the file is as long as it was
  data_long : length behind_head ≡ s.size - header_end c.version
  data_long = length-drop (header_end c.version) (write c) ∙ ap (λ (k : ℕ). k - header_end c.version) (size_is s c h)

  no_blocks : c.blocks ≡ []
  no_blocks = sound.blocks_from_six to

  -- what is written
  written_raised : c.gap ≡ [] → write (raised_content c xs) ≡ header (raised_content c xs) ++ behind_head
  written_raised no_gap = (writing_changes c sound).version_change (c.version + 1) (c.fields ++ gs) no_blocks no_gap

  -- the header grows
  up : header_end c.version ≤ header_end (c.version + 1)
  up = let sum = level_total c.version from to in omega arith

  -- how long it is
  pub raised_long : c.gap ≡ [] → length (write (raised_content c xs)) ≡ raised_size s.size c.version
  raised_long no_gap =
      let head = header_long (raised_content c xs) (sound_raised c xs sound to given).fields_fit in
      let all = length-append (header (raised_content c xs)) behind_head in
      let rest = data_long in
      let within = header_within in
      let higher = up in
      ap length (written_raised no_gap) ∙ all ∙ omega arith

  -- the buffer is that writing, and behind it as it was
  pub raised_bytes : c.gap ≡ [] → raised_size s.size c.version ≤ length s.buffer
      → raised_in s.buffer s.size c.version (content_sizes c) xs ≡ write (raised_content c xs) ++ drop (raised_size s.size c.version) s.buffer
  raised_bytes no_gap room =
      let b = s.buffer in
      let n = s.size in
      let e = header_end c.version in
      let e' = header_end (c.version + 1) in
      let head = header_long c sound.fields_fit in
      let within = header_within in
      let higher = up in
      let there : write c ≡ header c ++ behind_head = ap (λ (l : List ℕ). header c ++ l) (sym (drop_at (header c) (section c.blocks ++ (c.gap ++ (c.cells ++ c.tail))) e head)) in
      let is : b ≡ header c ++ (behind_head ++ drop n b) =
      sym (take-append-drop n b) ∙ ap (λ (l : List ℕ). l ++ drop n b) (h.written ∙ there) ∙ append_assoc (header c) behind_head (drop n b) in
      let mid : List ℕ = take (e' - e) (drop e b) in
      let behind : List ℕ = drop (e' + (n - e)) b in
      let shift : with_room b n c.version ≡ header c ++ (mid ++ (behind_head ++ behind)) = moved b (header c) behind_head (drop n b) e (n - e) e' is head data_long higher (omega arith) in
      let mid_long : e + length mid ≡ e' = between b e e' higher (omega arith) in
      let level = put_level c.version from to (content_sizes c) xs (header c) mid (behind_head ++ behind) (new_fit c.version from to (field_in c.fields) xs given) head mid_long in
      let rest : List ℕ = pack (fields_at (c.version + 1) fields) gs ++ (be32 0 ++ (behind_head ++ behind)) in
      let words_put = put_next c.version from to (start c) (length (section c.blocks)) (header c ++ rest) ∙ put_renewed (header_slots c) (next_words c.version) c.fields [] rest 0 refl sound.fields_fit in
      let end : e' + (n - e) ≡ raised_size n c.version = omega arith in
      ap (λ (l : List ℕ). with_version (with_end l c.version (content_sizes c) xs) c.version) shift
      ∙ ap (λ (l : List ℕ). with_version l c.version) level
      ∙ words_put
      ∙ regroup (pack words c.fields) (pack (fields_at (c.version + 1) fields) gs) (be32 0) behind_head behind
      ∙ ap (λ (l : List ℕ). (l ++ behind_head) ++ behind) (sym header_raised)
      ∙ ap (λ (l : List ℕ). l ++ behind) (sym (written_raised no_gap))
      ∙ ap (λ (k : ℕ). write (raised_content c xs) ++ drop k b) end
