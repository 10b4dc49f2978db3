-- Words and their bytes: what was written is read, and what is read was written.
use Rattle.std.proofs.Common.{◌≡◌, ℕ, ◌+◌, ◌*◌, ◌/◌, ◌%◌, ◌^◌, ◌<◌, ◌≤◌, List, [], ◌∷◌, ◌++◌, length, get_or, drop, sym, refl, ap, ◌∙◌, ⊎_elim, append_assoc, add-zero, add_assoc, zero-add, arith}
use Rattle.std.proofs.ByRecursion.{All-get_or, All-drop}
use Rattle.std.proofs.lemmas.List.{get_or-drop, get_or_past, drop-drop, length-drop}
use Rattle.std.proofs.lemmas.Bool.{cases_lt}
use Rattle.buffers.specs.Words.{Width, one, two, four, eight, word32, be32, size, limit, word, be, Bytes}

byte_at : (b : List ℕ) (k : ℕ) → Bytes b → get_or b k 0 < 256
byte_at b k h =
    ⊎_elim (λ l. All-get_or (λ x. x < 256) b k 0 l h) (λ l. rw (get_or_past b k 0 l) (omega arith)) (cases_lt k (length b))

four-lt : (b : List ℕ) (at : ℕ) → Bytes b → word32 b at < 2 ^ 32
four-lt b at h = omega (arith, byte_at b at h, byte_at b (at + 1) h, byte_at b (at + 2) h, byte_at b (at + 3) h)

-- a word fits its width
pub word_lt : (w : Width) (b : List ℕ) (at : ℕ) → Bytes b → word w b at < limit w
word_lt one b at h = byte_at b at h
word_lt two b at h = omega (arith, byte_at b at h, byte_at b (at + 1) h)
word_lt four b at h = four-lt b at h
word_lt eight b at h = omega (arith, four-lt b at h, four-lt b (at + 4) h)

-- the bytes of a number are as many as its width has
pub be-length : (w : Width) (x : ℕ) → length (be w x) ≡ size w
be-length one x = refl
be-length two x = refl
be-length four x = refl
be-length eight x = refl

eight_is : (x a b : ℕ) → a ≡ x / 4294967296 → b ≡ x % 4294967296 → a * 4294967296 + b ≡ x
eight_is x a b p q = omega arith

four-be : (x : ℕ) (rest : List ℕ) → x < 2 ^ 32 → word32 (be32 x ++ rest) 0 ≡ x
four-be x rest h = omega arith

word-be : (w : Width) (x : ℕ) (rest : List ℕ) → x < limit w → word w (be w x ++ rest) 0 ≡ x
word-be one x rest h = refl
word-be two x rest h = omega arith
word-be four x rest h = four-be x rest h
word-be eight x rest h =
    let high : x / 4294967296 < 2 ^ 32 = omega arith in
    let low : x % 4294967296 < 2 ^ 32 = omega arith in
    let p : word32 (be32 (x / 4294967296) ++ (be32 (x % 4294967296) ++ rest)) 0 ≡ x / 4294967296 = four-be (x / 4294967296) (be32 (x % 4294967296) ++ rest) high in
    let q : word32 (be32 (x % 4294967296) ++ rest) 0 ≡ x % 4294967296 = four-be (x % 4294967296) rest low in
    eight_is x _ _ p q

halves_high : (a b : ℕ) → b < 2 ^ 32 → (a * 4294967296 + b) / 4294967296 ≡ a
halves_high a b h = omega arith

halves_low : (a b : ℕ) → b < 2 ^ 32 → (a * 4294967296 + b) % 4294967296 ≡ b
halves_low a b h = omega arith

be-four : (y : List ℕ) → 4 ≤ length y → Bytes y → be32 (word32 y 0) ++ drop 4 y ≡ y
be-four (a ∷ b ∷ c ∷ d ∷ r) l h =
    let x = a * 16777216 + b * 65536 + c * 256 + d in
    let p : x / 256 / 256 / 256 % 256 ≡ a = omega (arith, h.0, h.1.0, h.1.1.0, h.1.1.1.0) in
    let q : x / 256 / 256 % 256 ≡ b = omega (arith, h.0, h.1.0, h.1.1.0, h.1.1.1.0) in
    let s : x / 256 % 256 ≡ c = omega (arith, h.0, h.1.0, h.1.1.0, h.1.1.1.0) in
    let t : x % 256 ≡ d = omega (arith, h.0, h.1.0, h.1.1.0, h.1.1.1.0) in
    cc
be-four (a ∷ b ∷ c ∷ []) l h = absurd (omega arith)
be-four (a ∷ b ∷ []) l h = absurd (omega arith)
be-four (a ∷ []) l h = absurd (omega arith)
be-four [] l h = absurd (omega arith)

be-word : (w : Width) (y : List ℕ) → size w ≤ length y → Bytes y → be w (word w y 0) ++ drop (size w) y ≡ y
be-word one (a ∷ r) l h = refl
be-word one [] l h = absurd (omega arith)
be-word two (a ∷ b ∷ r) l h =
    let p : (a * 256 + b) / 256 % 256 ≡ a = omega (arith, h.0, h.1.0) in
    let q : (a * 256 + b) % 256 ≡ b = omega (arith, h.0, h.1.0) in
    cc
be-word two (a ∷ []) l h = absurd (omega arith)
be-word two [] l h = absurd (omega arith)
be-word four y l h = be-four y l h
be-word eight y l h =
    let high = word32 y 0 in
    let low = word32 y 4 in
    let fits : low < 2 ^ 32 = four-lt y 4 h in
    let p : (high * 4294967296 + low) / 4294967296 ≡ high = halves_high high low fits in
    let q : (high * 4294967296 + low) % 4294967296 ≡ low = halves_low high low fits in
    let a = be-four y (omega arith) h in
    let m : 4 ≤ length (drop 4 y) = simp length-drop (omega arith) in
    let b = be-four (drop 4 y) m (All-drop (λ x. x < 256) 4 y h) in
    let low-is : word32 (drop 4 y) 0 ≡ low = simp (get_or-drop, add-zero, zero-add) in
    let c : be32 low ++ drop 4 (drop 4 y) ≡ drop 4 y = rw (← low-is) b in
    let d : be32 low ++ drop 8 y ≡ drop 4 y = rw (drop-drop 4 4 y) at c in
    rw (p, q) (append_assoc (be32 high) (be32 low) (drop 8 y) ∙ ap (λ z. be32 high ++ z) d ∙ a)

-- a word at a place is the first word of what stands there
word-drop : (w : Width) (b : List ℕ) (at : ℕ) → word w (drop at b) 0 ≡ word w b at
word-drop one b at = simp (get_or-drop, add-zero)
word-drop two b at = simp (get_or-drop, add-zero, zero-add)
word-drop four b at = simp (get_or-drop, add-zero, zero-add)
word-drop eight b at = simp (get_or-drop, add-zero, zero-add, add_assoc)

drop-be : (w : Width) (x : ℕ) (rest : List ℕ) → drop (size w) (be w x ++ rest) ≡ rest
drop-be one x rest = refl
drop-be two x rest = refl
drop-be four x rest = refl
drop-be eight x rest = refl

-- the number that was written at a place is read there, and what follows it follows
module _ (w : Width) (b : List ℕ) (at x : ℕ) (rest : List ℕ) (e : drop at b ≡ be w x ++ rest) where
  pub reads : x < limit w → word w b at ≡ x
  reads h = sym (word-drop w b at) ∙ ap (λ y. word w y 0) e ∙ word-be w x rest h

  pub goes_on : drop (at + size w) b ≡ rest
  goes_on = sym (drop-drop (size w) at b) ∙ ap (drop (size w)) e ∙ drop-be w x rest

-- the number that is read at a place is what was written there
pub writes : (w : Width) (b : List ℕ) (at : ℕ) → at + size w ≤ length b → Bytes b → be w (word w b at) ++ drop (at + size w) b ≡ drop at b
writes w b at l h =
    let y = drop at b in
    let m : size w ≤ length y = simp length-drop (omega arith) in
    let r = be-word w y m (All-drop (λ x. x < 256) at b h) in
    rw (← word-drop w b at, ← drop-drop (size w) at b) r
