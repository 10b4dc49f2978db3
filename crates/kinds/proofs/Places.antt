-- What a payload leaves in a buffer when it is written at a place.
use Rattle.std.proofs.Common.{◌≡◌, ℕ, ◌+◌, ◌-◌, ◌<◌, ◌≤◌, min, List, [], ◌++◌, length, get_or, take, drop, sym, refl, ap, ◌∙◌, subst, append-nil, ⊎_elim, arith, leb}
use Rattle.std.proofs.lemmas.List.{places, length-drop, take-append-drop, drop-drop, take_all, drop_all, nil_from_length}
use Rattle.std.proofs.lemmas.Bool.{le-leb, lt-leb, cond-true, cond-false, cases_lt}
use Rattle.std.proofs.lemmas.List.Edits.{paste_all}
use Rattle.std.proofs.lemmas.Slice.{put_mid-paste}
use borrow.Rule.Slice.PartMut.{put_mid}
use Rattle.std.proofs.ByRecursion.{All-from_get_or}
use Rattle.buffers.specs.Moves.{written}
use Rattle.buffers.specs.Words.{Bytes}
use Rattle.kinds.specs.Kind.{Output, bytes, declined, Payload, payload_output, put_buffer}
use Rattle.kinds.specs.Writing.{written_bytes, IsRoomAt, written_if_room, put_at, IsBytesIfRoom}
use Rattle.kinds.proofs.Records.{written_none, written_long}

-- where there is room the bytes stand at the place, and else the buffer is as it was
where_room : (b : List ℕ) (at : ℕ) (w : List ℕ) → at + length w ≤ length b → written_if_room b at w ≡ written b at w
where_room b at w h = cond-true _ _ _ (le-leb (at + length w) (length b) h)

as_it_was : (b : List ℕ) (at : ℕ) (w : List ℕ) → length b < at + length w → written_if_room b at w ≡ b
as_it_was b at w h = cond-false _ _ _ (lt-leb (at + length w) (length b) h)

-- where there is room for a payload, its bytes stand there
pub put_where_room : (b : List ℕ) (at : ℕ) (p : Payload) → IsRoomAt b at p → put_at b at p ≡ written b at (written_bytes (payload_output p))
put_where_room b at p h = where_room b at (written_bytes (payload_output p)) h

-- what is written at the start of the rest of a buffer
written_in_rest : (b w : List ℕ) (at : ℕ) → at + length w ≤ length b → take at b ++ written (drop at b) 0 w ≡ written b at w
unfolding written
written_in_rest b w at h = ap (λ (l : List ℕ). take at b ++ (w ++ l)) (drop-drop (0 + length w) at b ∙ ap (λ (n : ℕ). drop n b) (omega arith))

put_length : (o : Output) (b : List ℕ) → length (put_buffer o b) ≡ length b
put_length (bytes w) b =
    ⊎_elim
    (λ (over : length b < length w). ap length (cond-false (leb (length w) (length b)) _ _ (lt-leb (length w) (length b) over)))
    (λ (fits : length w ≤ length b).
    ap length (cond-true (leb (length w) (length b)) _ _ (le-leb (length w) (length b) fits)) ∙ written_long b 0 w (omega arith))
    (cases_lt (length b) (length w))
put_length (declined p) b = refl

-- a kind that writes into the rest of a buffer leaves the bytes at the place where there is room
rest_put : (b : List ℕ) (at : ℕ) (o : Output) → at ≤ length b → take at b ++ put_buffer o (drop at b) ≡ written_if_room b at (written_bytes o)
rest_put b at (bytes w) h =
    ⊎_elim
    (λ (over : length b < at + length w).
    let short : length (drop at b) < length w = simp length-drop (omega arith) in
    ap (λ (l : List ℕ). take at b ++ l) (cond-false (leb (length w) (length (drop at b))) _ _ (lt-leb (length w) (length (drop at b)) short))
    ∙ take-append-drop at b ∙ sym (as_it_was b at w over))
    (λ (fits : at + length w ≤ length b).
    let room : length w ≤ length (drop at b) = simp length-drop (omega arith) in
    ap (λ (l : List ℕ). take at b ++ l) (cond-true (leb (length w) (length (drop at b))) _ _ (le-leb (length w) (length (drop at b)) room))
    ∙ written_in_rest b w at fits ∙ sym (where_room b at w fits))
    (cases_lt (length b) (at + length w))
rest_put b at (declined p) h = take-append-drop at b ∙ written_none b at h ∙ sym (where_room b at [] (omega arith))

-- the rest of a buffer, put anew
pasted : (b out : List ℕ) (at : ℕ) → at ≤ length b → length out ≡ length b - at → put_mid at (length b - at) b out ≡ take at b ++ out
pasted b out at h long =
    let end : at + (length b - at) ≡ length b = omega arith in
    put_mid-paste at (length b - at) b out out (length b - at) refl refl (sym long)
    ∙ paste_all b at out (length b - at) (sym long)
    ∙ ap (λ (n : ℕ). take at b ++ (out ++ drop n b)) end
    ∙ ap (λ (l : List ℕ). take at b ++ (out ++ l)) (drop_all (length b) b (omega arith))
    ∙ ap (λ (l : List ℕ). take at b ++ l) (append-nil out)

module _ (b out : List ℕ) (o : Output) where
  rest_is : (start : ℕ) → start ≤ length b → out ≡ put_buffer o (take (length b - start) (drop start b))
      → put_mid start (length b - start) b out ≡ take start b ++ put_buffer o (drop start b)
  rest_is start h e =
      let k = length b - start in
      let all : take k (drop start b) ≡ drop start b = take_all k (drop start b) (simp length-drop (omega arith)) in
      let is : out ≡ put_buffer o (drop start b) = e ∙ ap (put_buffer o) all in
      let long : length out ≡ k = ap length is ∙ put_length o (drop start b) ∙ length-drop start b in
      pasted b out start h long ∙ ap (λ (l : List ℕ). take start b ++ l) is

  -- after the end nothing is written
  past_end : (at : ℕ) → length b < at → take (length b) b ++ put_buffer o (drop (length b) b) ≡ written_if_room b at (written_bytes o)
  past_end at h =
      let none : put_buffer o (drop (length b) b) ≡ [] =
      nil_from_length (put_buffer o (drop (length b) b)) (put_length o (drop (length b) b) ∙ length-drop (length b) b ∙ omega arith) in
      ap (λ (l : List ℕ). take (length b) b ++ l) none
      ∙ append-nil (take (length b) b) ∙ take_all (length b) b (omega arith) ∙ sym (as_it_was b at (written_bytes o) (omega arith))

  -- what writing into the rest of a buffer, from a place or from the end on, leaves
  pub put_in_rest : (at start : ℕ) → start ≡ min at (length b) → out ≡ put_buffer o (take (length b - start) (drop start b))
      → put_mid start (length b - start) b out ≡ written_if_room b at (written_bytes o)
  put_in_rest at start s e =
      rest_is start (omega arith) e
      ∙ ⊎_elim
      (λ (past : length b < at).
      let is : start ≡ length b = omega arith in
      ap (λ (n : ℕ). take n b ++ put_buffer o (drop n b)) is ∙ past_end at past)
      (λ (inside : at ≤ length b).
      let is : start ≡ at = omega arith in
      ap (λ (n : ℕ). take n b ++ put_buffer o (drop n b)) is ∙ rest_put b at o inside)
      (cases_lt (length b) at)

part_bytes : (b w : List ℕ) (at i : ℕ) → at + length w ≤ length b → i < length w → get_or (written b at w) (at + i) 0 ≡ get_or w i 0
unfolding written
part_bytes b w at i h less = grind (arith, places)

-- what was written into a buffer of bytes are bytes
pub bytes_written : (b : List ℕ) (at : ℕ) (p : Payload) (new : List ℕ) → new ≡ put_at b at p → ((i : ℕ) → get_or new i 0 < 256)
    → IsBytesIfRoom b at p
bytes_written b at p new e all room v is =
    let w = written_bytes (payload_output p) in
    let left : new ≡ written b at w = e ∙ put_where_room b at p room in
    let same : w ≡ v = ap written_bytes is in
    subst Bytes same (All-from_get_or (λ x. x < 256) w 0 (λ i less.
    subst (λ (x : ℕ). x < 256) (ap (λ (l : List ℕ). get_or l (at + i) 0) left ∙ part_bytes b w at i room less) (all (at + i))))
