-- The numbers of a row, four bytes to each.
use Rattle.std.proofs.Common.{◌≡◌, ℕ, zero, suc, ◌+◌, ◌*◌, ◌/◌, ◌<◌, List, ◌∷◌, ◌++◌, map, length, get_or, refl, ap, ◌∙◌, arith}
use Rattle.std.proofs.lemmas.Iterator.{YieldsList}
use Rattle.std.proofs.lemmas.Iterator.Splits.{YieldsList-from_shown_while}
use Rattle.std.proofs.lemmas.List.{length-append, get_or_append_left, get_or-append_right}
use Rattle.std.proofs.lemmas.List.FromFn.{length-map-range_with_len}
use Rattle.std.specs.List.{range_with_len}
use Rattle.std.specs.Slice.Iter.{chunks_exact_rest, chunks_exact_size, chunks_exact_steps}
use Rattle.std.specs.declared.slice.ChunksExact.{ChunksExact}
use Rattle.buffers.specs.Words.{word32}
use Rattle.reader.specs.Answers.{patterns}

-- how many numbers the bytes have
pub pattern_count : (b : List ℕ) → length (patterns b) ≡ length b / 4
pattern_count b = length-map-range_with_len (λ i. word32 b (4 * i)) 0 (length b / 4)

-- a word behind four bytes
word_behind : (w r : List ℕ) (j m : ℕ) → length w ≡ 4 → m ≡ 4 + j → word32 (w ++ r) m ≡ word32 r j
word_behind w r j m four e =
    let byte : (n k : ℕ) → n ≡ 4 + k → get_or (w ++ r) n 0 ≡ get_or r k 0 =
    λ n k f. get_or-append_right w r 4 n 0 four (omega arith) ∙ ap (λ (x : ℕ). get_or r x 0) (omega arith) in
    let b0 = byte m j e in
    let b1 = byte (m + 1) (j + 1) (omega arith) in
    let b2 = byte (m + 2) (j + 2) (omega arith) in
    let b3 = byte (m + 3) (j + 3) (omega arith) in
    rw (b0, b1, b2, b3) refl

-- the numbers behind four bytes
numbers_behind : (w r : List ℕ) (a n : ℕ) → length w ≡ 4
    → map (λ i. word32 (w ++ r) (4 * i)) (range_with_len (a + 1) n) ≡ map (λ i. word32 r (4 * i)) (range_with_len a n)
numbers_behind w r a zero four = refl
numbers_behind w r a (suc n) four =
    let head = word_behind w r (4 * a) (4 * (a + 1)) four (omega arith) in
    let rest = numbers_behind w r (a + 1) n four in
    λ i. head i ∷ rest i

-- the first number, and the others
first_pattern : (w r : List ℕ) → length w ≡ 4 → patterns (w ++ r) ≡ word32 w 0 ∷ patterns r
first_pattern w r four =
    let byte = λ (k : ℕ) (l : k < length w). get_or_append_left w r 0 k l in
    let b0 = byte 0 (omega arith) in
    let b1 = byte 1 (omega arith) in
    let b2 = byte 2 (omega arith) in
    let b3 = byte 3 (omega arith) in
    let head : word32 (w ++ r) 0 ≡ word32 w 0 = rw (b0, b1, b2, b3) refl in
    let rest = numbers_behind w r 0 (length r / 4) four in
    let count : length (w ++ r) / 4 ≡ suc (length r / 4) = let long = length-append w r in omega arith in
    ap (λ (n : ℕ). map (λ i. word32 (w ++ r) (4 * i)) (range_with_len 0 n)) count ∙ (λ i. head i ∷ rest i)

-- chunks of four bytes are the numbers
pub chunks_are : (s : ChunksExact ℕ) → chunks_exact_size s ≡ 4 → YieldsList chunks_exact_steps (λ w. word32 w.now 0) s (patterns (chunks_exact_rest s))
chunks_are s four =
    YieldsList-from_shown_while chunks_exact_steps (λ w. word32 w.now 0) (λ c. patterns (chunks_exact_rest c)) (λ c. chunks_exact_size c ≡ 4)
    (λ c d p step. pattern_count (chunks_exact_rest c) ∙ (omega (arith, p, step.1.0)))
    (λ c x d p step. (step.0 ∙ p, ap patterns step.1.0 ∙ first_pattern x.now (chunks_exact_rest d) (step.1.1 ∙ p)))
    s four
