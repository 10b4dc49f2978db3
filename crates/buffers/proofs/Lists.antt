-- What `paste` leaves of a buffer, as the definitions of the moves say it; and several writings in
-- a row.
use Rattle.std.proofs.Common.{◌≡◌, ℕ, ◌+◌, ◌≤◌, List, ◌++◌, length, take, drop, sym, ap, ◌∙◌, append_assoc, arith, rules, length-append, length-drop, length-take-le}
use Rattle.std.proofs.lemmas.List.{same_lists, places}
use lib.Seq.{paste}
use Rattle.buffers.specs.Moves.{written, shifted}

-- the first n of s are written
pub paste_front : (b : List ℕ) (at : ℕ) (s : List ℕ) (n : ℕ) → n ≤ length s → paste b at s n ≡ written b at (take n s)
unfolding written
paste_front b at s n h =
    append_assoc (take at b) (take n s) (drop (at + n) b)
    ∙ ap (λ k. take at b ++ (take n s ++ drop (at + k) b)) (sym (length-take-le n s h))

-- k bytes of the buffer itself are written
pub paste_shifted : (b : List ℕ) (from n to k : ℕ) → from + n ≤ length b → k ≡ n → paste b to (drop from b) k ≡ shifted b from n to
paste_shifted b from n to k h e =
    ap (paste b to (drop from b)) e ∙ paste_front b to (drop from b) n (simp length-drop (omega arith))

-- a writing leaves the buffer's length
pub written-length : (x : List ℕ) (at : ℕ) (a : List ℕ) → at + length a ≤ length x → length (written x at a) ≡ length x
unfolding written
written-length x at a h = search (rules, places)

-- two writings, the one behind the other, are one
pub written_on : (x a b : List ℕ) (p : ℕ) → p + length a + length b ≤ length x → written (written x p a) (p + length a) b ≡ written x p (a ++ b)
unfolding written
written_on x a b p h =
    let l1 = length-append (take p x) (a ++ drop (p + length a) x) in
    let l2 = length-append a b in
    same_lists _ _ (search (rules, places)) (λ i z w. grind (arith, places))

-- two writings that do not touch change places
pub written_apart : (x a b : List ℕ) (p q : ℕ) → p + length a ≤ q → q + length b ≤ length x → written (written x q b) p a ≡ written (written x p a) q b
unfolding written
written_apart x a b p q h k =
    let l1 = length-append (take q x) (b ++ drop (q + length b) x) in
    let l2 = length-append (take p x) (a ++ drop (p + length a) x) in
    same_lists _ _ (search (rules, places)) (λ i z w. grind (arith, places))
