-- The walk over the blocks: its one unfolding law, and what its outcome says of the bytes.
use Rattle.std.proofs.Common.{◌≡◌, ℕ, zero, suc, ◌+◌, ◌-◌, ◌<◌, ◌≤◌, List, Ok, Err, sym, refl, ◌∙◌, subst, inl, inr, ⊎_elim, add-one, arith, MatchResult}
use Rattle.std.proofs.lemmas.Bool.{cases_lt, le-leb, lt-leb}
use Rattle.std.proofs.lemmas.Bool.Decides.{nat_tests}
use Rattle.buffers.specs.Words.{word32}
use Rattle.faults.specs.declared.fault.Fault.{Fault}
use Rattle.format.specs.Checks.{◌then◌}
use Rattle.format.specs.Section.{block_end, block_fits, next_block, walk_blocks, blocks_from, section_blocks, IsBlockRow, none, more, IsTiled, IsCut}

-- steps that suffice are as good as any other count of them
enough : (b : List ℕ) (end m n at k : ℕ) → end ≤ at + m → end ≤ at + n → walk_blocks b end m at k ≡ walk_blocks b end n at k
enough b end zero zero at k p q = refl
enough b end zero (suc n) at k p q = rw (le-leb end at (omega arith))
enough b end (suc m) zero at k p q = rw (le-leb end at (omega arith))
enough b end (suc m) (suc n) at k p q = rw (enough b end m n (block_end b at) (k + 1) (omega arith) (omega arith))

-- one block, and the walk from its end on
pub step : (b : List ℕ) (end at n : ℕ) → at < end
    → blocks_from b end at n ≡ (block_fits b end at (n + 1) then blocks_from b end (block_end b at) (n + 1))
step b end at n h =
    enough b end (end - at) (suc (end - at)) at n (omega arith) (omega arith)
    ∙ rw (lt-leb end at h, enough b end (end - at) (end - block_end b at) (block_end b at) (n + 1) (omega arith) (omega arith))

-- the end of the section is the end of the walk
pub stop : (b : List ℕ) (end at n : ℕ) → end ≤ at → blocks_from b end at n ≡ Ok n
stop b end at n h = enough b end (end - at) zero at n (omega arith) (omega arith)

-- a block that fits: the walk goes on at its end
pub fitting : (b : List ℕ) (end at n next : ℕ) → at < end → Ok next ≡ next_block b end at (n + 1)
    → blocks_from b end next (n + 1) ≡ blocks_from b end at n
fitting b end at n next h e = let s = step b end at n h in grind (arith, nat_tests)

-- a block that does not fit: the walk ends with its fault
pub unfit : (b : List ℕ) (end at n : ℕ) (f : Fault) → at < end → Err f ≡ next_block b end at (n + 1)
    → Err f ≡ blocks_from b end at n
unfit b end at n f h e = let s = step b end at n h in grind (arith, nat_tests)

-- a block more behind blocks
one_more : {b : List ℕ} {end from at n : ℕ} → IsBlockRow b end from at n → block_end b at ≤ end → IsBlockRow b end from (block_end b at) (suc n)
one_more none h = more h none
one_more (more k r) h = more k (one_more r h)

-- behind n whole blocks, the walk ends with blocks that reach to `end`, or with one that is cut
walked : (b : List ℕ) (end steps at n : ℕ) → at ≤ end → end ≤ at + steps → IsBlockRow b end 104 at n
    → MatchResult (walk_blocks b end steps at n) (IsTiled b end) (IsCut b end)
walked b end zero at n l p r = let is : at ≡ end = omega arith in subst (λ (x : ℕ). IsBlockRow b end 104 x n) is r
walked b end (suc steps) at n l p r =
    ⊎_elim
    (λ (i : at < end).
    rw (lt-leb end at i)
    (⊎_elim
    (λ (h : end < at + 8).
    rw (lt-leb 8 (end - at) (omega arith))
    (record { whole = n; at = at; blocks = r; inside = i; cut = inl (h, refl) }))
    (λ (h : at + 8 ≤ end).
    rw (le-leb 8 (end - at) (omega arith))
    (⊎_elim
    (λ (k : end < block_end b at).
    rw (lt-leb (word32 b (at + 4)) (end - at - 8) (omega arith))
    (record { whole = n; at = at; blocks = r; inside = i; cut = inr (h, k, refl) }))
    (λ (k : block_end b at ≤ end).
    rw (le-leb (word32 b (at + 4)) (end - at - 8) (omega arith))
    (walked b end steps (block_end b at) (n + 1) k (omega arith)
    (subst (λ (x : ℕ). IsBlockRow b end 104 (block_end b at) x) (sym (add-one n)) (one_more r k))))
    (cases_lt end (block_end b at))))
    (cases_lt end (at + 8))))
    (λ (i : end ≤ at).
    let is : at ≡ end = omega arith in
    rw (le-leb end at i) (subst (λ (x : ℕ). IsBlockRow b end 104 x n) is r))
    (cases_lt at end)

-- the blocks fill the section, or one of them is cut by its end
pub section_walked : (b : List ℕ) (end : ℕ) → 104 ≤ end → MatchResult (section_blocks b end) (IsTiled b end) (IsCut b end)
section_walked b end h = walked b end (end - 104) 104 0 h (omega arith) none
