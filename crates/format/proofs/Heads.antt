-- A block's head is written: key and size, one behind the other.
use Rattle.std.proofs.Common.{◌≡◌, ℕ, ◌+◌, ◌≤◌, List, ◌++◌, length, if◌then◌else◌, sym, ap, ◌∙◌, arith}
use Rattle.std.proofs.lemmas.Bool.{le-leb, cond-true}
use Rattle.buffers.specs.Moves.{room, written}
use Rattle.buffers.specs.Words.{be32}
use Rattle.buffers.proofs.Lists.{written-length, written_on}

-- the key is written, and then the size behind it
pub head_written : (b key : List ℕ) (at size : ℕ) → length key ≡ 4 → at + 8 ≤ length b
    → written (written b at key) (at + 4) (be32 size) ≡ written b at (key ++ be32 size)
head_written b key at size four h =
    ap (λ (n : ℕ). written (written b at key) (at + n) (be32 size)) (sym four) ∙ written_on b key (be32 size) at (omega arith)

-- the same by two moves for which there is room
pub head_put : (old mid new key : List ℕ) (at size : ℕ) → length key ≡ 4 → at + 8 ≤ length old
    → mid ≡ (if room old at (length key) then written old at key else old)
    → new ≡ (if room mid (at + 4) 4 then written mid (at + 4) (be32 size) else mid)
    → new ≡ (if room old at 8 then written old at (key ++ be32 size) else old)
head_put old mid new key at size four h first second =
    let p1 : mid ≡ written old at key = first ∙ cond-true (room old at (length key)) _ _ (le-leb _ _ (omega arith)) in
    let long : length mid ≡ length old = ap length p1 ∙ written-length old at key (omega arith) in
    let p2 : new ≡ written mid (at + 4) (be32 size) = second ∙ cond-true (room mid (at + 4) 4) _ _ (le-leb _ _ (omega arith)) in
    p2 ∙ ap (λ (x : List ℕ). written x (at + 4) (be32 size)) p1 ∙ head_written old key at size four h
    ∙ sym (cond-true (room old at 8) _ _ (le-leb _ _ (omega arith)))
