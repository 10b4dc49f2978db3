-- The section of blocks: blocks that were written pass and are read, and blocks that pass were
-- written.
use Rattle.std.proofs.Common.{◌≡◌, ℕ, zero, suc, ◌+◌, ◌-◌, ◌<◌, ◌≤◌, true, List, [], ◌∷◌, ◌++◌, length, take, drop, is_ok, Ok, refl, ◌∙◌, ⊎_elim, append_assoc, add_assoc, arith}
use Rattle.std.proofs.ByRecursion.{All-take, All-drop}
use Rattle.std.proofs.lemmas.List.{length-append, length-take-le, length-drop}
use Rattle.std.proofs.lemmas.Bool.{cases_lt, le-leb, lt-leb}
use Rattle.std.proofs.lemmas.Bool.Decides.{nat_tests}
use Rattle.std.specs.List.{AllByRecursion}
use Rattle.buffers.proofs.Encoded.{word_lt, reads, goes_on, writes}
use Rattle.buffers.specs.Words.{four, word32, be32, Bytes}
use Rattle.format.specs.Content.{Block, section, IsWritable, blocks_at}
use Rattle.format.specs.Section.{walk_blocks}
use Rattle.format.proofs.Pieces.{piece, take_there, drop_there}

-- the blocks that were written at a place pass, and are read there
pub read_blocks : (ks : List Block) (b : List ℕ) (end steps at n : ℕ) (rest : List ℕ) → AllByRecursion IsWritable ks → drop at b ≡ section ks ++ rest
    → end ≡ at + length (section ks) → end ≤ at + steps
    → (is_ok (walk_blocks b end steps at n) ≡ true) × (blocks_at b end steps at ≡ ks) × (drop end b ≡ rest)
read_blocks [] b end zero at n rest h e l m = (refl, refl, let q : end ≡ at = omega arith in rw q e)
read_blocks [] b end (suc steps) at n rest h e l m =
    let q : end ≡ at = omega arith in
    let t = le-leb end at (omega arith) in
    (rw t, rw t, rw q e)
read_blocks (k ∷ ks) b end zero at n rest h e l m =
    let w = h.0 in
    let long : length (section (k ∷ ks)) ≡ length k.key + (4 + length k.body) + length (section ks) = simp length-append in
    let four_bytes = w.key_size in
    absurd (omega arith)
read_blocks (k ∷ ks) b end (suc steps) at n rest h e l m =
    let w = h.0 in
    let z = length k.body in
    let e1 : drop at b ≡ k.key ++ (be32 z ++ (k.body ++ (section ks ++ rest))) = e ∙ simp append_assoc in
    let key : take 4 (drop at b) ≡ k.key = take_there b k.key _ at 4 e1 w.key_size in
    let e2 : drop (at + 4) b ≡ be32 z ++ (k.body ++ (section ks ++ rest)) = drop_there b k.key _ at 4 e1 w.key_size in
    let size_is : word32 b (at + 4) ≡ z = reads four b (at + 4) z _ e2 w.body_size in
    let e3 : drop (at + 8) b ≡ k.body ++ (section ks ++ rest) = rw add_assoc at (goes_on four b (at + 4) z _ e2) in
    let body : take z (drop (at + 8) b) ≡ k.body = take_there b k.body _ (at + 8) z e3 refl in
    let e4 : drop (at + 8 + z) b ≡ section ks ++ rest = drop_there b k.body _ (at + 8) z e3 refl in
    let long : length (section (k ∷ ks)) ≡ length k.key + (4 + z) + length (section ks) = simp length-append in
    let four_bytes = w.key_size in
    let r = read_blocks ks b end steps (at + 8 + z) (n + 1) rest h.1 e4 (omega arith) (omega arith) in
    let r0 = r.0 in
    let r1 = r.1 in
    let t0 = lt-leb end at (omega arith) in
    let t1 = le-leb 8 (end - at) (omega arith) in
    let t2 = le-leb z (end - at - 8) (omega arith) in
    (rw (t0, t1, size_is, t2) r0, rw (t0, size_is, key, body, r1), r.2)

-- blocks that pass are the writing of what is read
pub written_blocks : (b : List ℕ) (end steps at n : ℕ) → Bytes b → end ≤ length b → at ≤ end → end ≤ at + steps → is_ok (walk_blocks b end steps at n) ≡ true
    → (section (blocks_at b end steps at) ++ drop end b ≡ drop at b) × AllByRecursion IsWritable (blocks_at b end steps at)
written_blocks b end zero at n h l a m e = let q : end ≡ at = omega arith in (rw q, tt)
written_blocks b end (suc steps) at n h l a m e =
    ⊎_elim
    (λ (p : at < end).
    let z = word32 b (at + 4) in
    let t = lt-leb end at p in
    let room : at + 8 ≤ end = grind (arith, nat_tests) in
    let a' : at + 8 + z ≤ end = grind (arith, nat_tests) in
    let e' : is_ok (walk_blocks b end steps (at + 8 + z) (n + 1)) ≡ true = grind (arith, nat_tests) in
    let r = written_blocks b end steps (at + 8 + z) (n + 1) h l a' (omega arith) e' in
    let key = take 4 (drop at b) in
    let body = take z (drop (at + 8) b) in
    let long : length body ≡ z = length-take-le z (drop (at + 8) b) (simp length-drop (omega arith)) in
    let key-long : length key ≡ 4 = length-take-le 4 (drop at b) (simp length-drop (omega arith)) in
    let r0 = r.0 in
    let s3 : body ++ drop (at + 8 + z) b ≡ drop (at + 8) b = piece b (at + 8) z in
    let s2 : be32 z ++ drop (at + 8) b ≡ drop (at + 4) b = rw (add_assoc at 4 4) at (writes four b (at + 4) (omega arith) h) in
    let s1 : key ++ drop (at + 4) b ≡ drop at b = piece b at 4 in
    let fits : IsWritable (record { key = key; body = body }) =
    record {
      key_size = key-long;
      key_bytes = All-take (λ x. x < 256) 4 _ (All-drop (λ x. x < 256) at b h);
      body_size = rw long (word_lt four b (at + 4) h);
      body_bytes = All-take (λ x. x < 256) z _ (All-drop (λ x. x < 256) (at + 8) b h);
    } in
    rw t (simp append_assoc (rw (long, r0, s3, s2, s1) refl), (fits, r.1)))
    (λ (p : end ≤ at).
    let t = le-leb end at p in
    let q : end ≡ at = omega arith in
    rw (t, q) (refl, tt))
    (cases_lt at end)

-- a walk that ends counts the blocks that are read
pub walked_count : (b : List ℕ) (end steps at n m : ℕ) → walk_blocks b end steps at n ≡ Ok m → m ≡ n + length (blocks_at b end steps at)
walked_count b end zero at n m e = let same : n ≡ m = cc in omega arith
walked_count b end (suc steps) at n m e =
    ⊎_elim
    (λ (p : at < end).
    let t = lt-leb end at p in
    let z = word32 b (at + 4) in
    let e' : walk_blocks b end steps (at + 8 + z) (n + 1) ≡ Ok m = grind (arith, nat_tests) in
    let r = walked_count b end steps (at + 8 + z) (n + 1) m e' in
    rw t (omega arith))
    (λ (p : end ≤ at).
    let t = le-leb end at p in
    let same : n ≡ m = grind (arith, nat_tests) in
    rw t (omega arith))
    (cases_lt at end)
