-- What holds of each of the versions that a draft may have.
use Rattle.std.proofs.Common.{◌≡◌, ℕ, ◌≤◌, ◌<◌, subst, ⊎_elim, arith}
use Rattle.std.proofs.lemmas.Bool.{cases_lt}

pub by_version : (P : ℕ → Type 0) → P 4 → P 5 → P 6 → (v : ℕ) → 4 ≤ v → v ≤ 6 → P v
by_version P four five six v from to =
    ⊎_elim
    (λ (l : v < 5). let e : 4 ≡ v = omega arith in subst P e four)
    (λ (h : 5 ≤ v). ⊎_elim
    (λ (l : v < 6). let e : 5 ≡ v = omega arith in subst P e five)
    (λ (k : 6 ≤ v). let e : 6 ≡ v = omega arith in subst P e six)
    (cases_lt v 6))
    (cases_lt v 5)
