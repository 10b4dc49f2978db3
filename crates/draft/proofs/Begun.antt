-- The header of a draft that is begun: the words that were written one after the other are the
-- writing of its content.
use Rattle.std.proofs.Common.{◌≡◌, ℕ, zero, suc, ◌+◌, ◌≤◌, List, ◌∷◌, ◌++◌, map, length, drop, get_or, sym, refl, ap, ◌∙◌, arith}
use Rattle.std.proofs.Math.Seq.{drop-cons}
use Rattle.std.specs.List.{range_with_len}
use Rattle.buffers.specs.Moves.{written}
use Rattle.format.specs.Content.{write}
use Rattle.format.specs.Header.{header_end}
use Rattle.buffers.specs.Words.{be16}
use Rattle.headers.specs.Extents.{with_extents, with_following}
use Rattle.headers.specs.Fields.{fields_filled, filled_values, plain_values}
use Rattle.draft.specs.declared.start.Start.{Start}
use Rattle.draft.specs.Drafts.{begin_filling, begun_content}
use Rattle.draft.proofs.Versions.{by_version}

-- the same start in another version
abbrev pub with_version : ℕ → Start → Start
with_version v s = record { version = v; kind = s.kind; bins = s.bins; ranges = s.ranges }

-- a list, one element after the other, and what follows
told_apart : (n k : ℕ) (b : List ℕ) → k + n ≤ length b → drop k b ≡ map (λ i. get_or b i 0) (range_with_len k n) ++ drop (k + n) b
told_apart zero k b h = ap (λ (m : ℕ). drop m b) (omega arith)
told_apart (suc n) k b h =
    let next : suc k ≡ k + 1 = omega arith in
    let end : k + 1 + n ≡ k + suc n = omega arith in
    drop-cons b k 0 (omega arith)
    ∙ ap (λ (m : ℕ). get_or b k 0 ∷ drop m b) next
    ∙ ap (λ (l : List ℕ). get_or b k 0 ∷ l) (told_apart n (k + 1) b (omega arith))
    ∙ ap (λ (m : ℕ). get_or b k 0 ∷ (map (λ i. get_or b i 0) (range_with_len (k + 1) n) ++ drop m b)) end

-- the header, of values that fit
abbrev pub with_plain : List ℕ → Start → List ℕ → List ℕ
with_plain b s xs =
    with_following (plain_values (written b 0 (be16 s.version)) (fields_filled (begin_filling s)) (filled_values (begin_filling s) xs)) s.version (header_end s.version) 0

-- in a buffer whose first n bytes are told apart, a header of version v is the writing of its
-- content
Written : ℕ → ℕ → Type 0
Written v n =
    (f : ℕ → ℕ) (s : Start) (r xs : List ℕ)
    → with_plain (map f (range_with_len 0 n) ++ r) (with_version v s) xs ≡ written (map f (range_with_len 0 n) ++ r) 0 (write (begun_content (with_version v s) xs))

four : Written 4 72
unfolding Written written with_following with_extents
four f s r xs = refl

five : Written 5 100
unfolding Written written with_following with_extents
five f s r xs = refl

six : Written 6 104
unfolding Written written with_following with_extents
six f s r xs = refl

in_buffer : (v n : ℕ) → Written v n → (b : List ℕ) (s : Start) (xs : List ℕ) → n ≤ length b → with_plain b (with_version v s) xs ≡ written b 0 (write (begun_content (with_version v s) xs))
unfolding Written
in_buffer v n h b s xs room =
    let f = λ (i : ℕ). get_or b i 0 in
    let is : b ≡ map f (range_with_len 0 n) ++ drop (0 + n) b = told_apart n 0 b (omega arith) in
    ap (λ (y : List ℕ). with_plain y (with_version v s) xs) is ∙ h f s (drop (0 + n) b) xs ∙ ap (λ (y : List ℕ). written y 0 (write (begun_content (with_version v s) xs))) (sym is)

pub plain_written : (b : List ℕ) (s : Start) (xs : List ℕ) → 4 ≤ s.version → s.version ≤ 6 → header_end s.version ≤ length b → with_plain b s xs ≡ written b 0 (write (begun_content s xs))
plain_written b s xs from to room =
    by_version (λ v. header_end v ≤ length b → with_plain b (with_version v s) xs ≡ written b 0 (write (begun_content (with_version v s) xs)))
    (λ h. in_buffer 4 72 four b s xs h) (λ h. in_buffer 5 100 five b s xs h) (λ h. in_buffer 6 104 six b s xs h) s.version from to room
