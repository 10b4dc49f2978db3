-- Where a text may be cut into arguments.
use Rattle.std.proofs.Common.{◌≡◌, ℕ, zero, suc, ◌+◌, ◌<◌, ◌≤◌, true, false, cond, List, [], ◌∷◌, length, get_or, arith, min, subst, refl, sym}
use Rattle.std.proofs.lemmas.Bool.Decides.{nat_tests}
use Rattle.std.proofs.lemmas.List.Sums.{prefix_len_passes, passes_at_first, prefix_len-le-length}
use Rattle.std.proofs.lemmas.Str.{IsCharBoundary-start, IsCharBoundary-before_ascii, IsCharBoundary-after_ascii}
use Rattle.std.specs.List.{position_or_len, prefix_len}
use Rattle.std.specs.Str.{IsUtf8, IsCharBoundary}
use Rattle.script.specs.Arguments.{is_space, is_quote, argument_length}

-- after an ASCII byte
after_ascii : (t : List ℕ) (n : ℕ) → IsUtf8 t → n < length t → get_or t n 0 < 128 → (m : ℕ) → m ≡ n + 1 → IsCharBoundary t m
after_ascii t n u inside small m is = subst (λ k. IsCharBoundary t k) (sym is) (IsCharBoundary-after_ascii t n u inside small)

is_32 : (c : ℕ) → is_space c ≡ true → c ≡ 32
is_32 c is = grind (arith, nat_tests)

is_34 : (c : ℕ) → is_quote c ≡ true → c ≡ 34
is_34 c is = grind (arith, nat_tests)

-- after as many spaces
after_spaces : (t : List ℕ) (n : ℕ) → IsUtf8 t → n ≡ prefix_len is_space t → IsCharBoundary t n
after_spaces t zero u is = IsCharBoundary-start t u
after_spaces t (suc n) u is =
    let within = prefix_len-le-length is_space t in
    let here = is_32 (get_or t n 0) (prefix_len_passes is_space t n 0 (omega arith)) in
    after_ascii t n u (omega arith) (omega arith) (suc n) (omega arith)

-- after the spaces that a text begins with
pub cut_after_spaces : (t : List ℕ) → IsUtf8 t → IsCharBoundary t (prefix_len is_space t)
cut_after_spaces t u = after_spaces t (prefix_len is_space t) u refl

-- a place within a text that is a boundary unless it is the end
unless_end : (t : List ℕ) (n : ℕ) → n ≤ length t → (n < length t → IsCharBoundary t n) → IsCharBoundary t n
unless_end t n within inside = (within, λ below. (inside below).1 below)

-- at the first space
before_space : (t : List ℕ) → IsCharBoundary t (position_or_len is_space t)
before_space t =
    unless_end t (position_or_len is_space t) (prefix_len-le-length _ t)
    (λ inside. let here = is_32 (get_or t (position_or_len is_space t) 0) (passes_at_first is_space t 0 inside) in
    IsCharBoundary-before_ascii t (position_or_len is_space t) inside (omega arith))

-- after the next quotation mark
after_quote : (c : ℕ) (t : List ℕ) → IsUtf8 (c ∷ t) → IsCharBoundary (c ∷ t) (min (position_or_len is_quote t + 2) (length t + 1))
after_quote c t u =
    let n = position_or_len is_quote t in
    unless_end (c ∷ t) (min (n + 2) (length t + 1)) (omega arith)
    (λ inside. let before : n < length t = omega arith in
    let here = is_34 (get_or t n 0) (passes_at_first is_quote t 0 before) in
    after_ascii (c ∷ t) (suc n) u (omega arith) (omega arith) (min (n + 2) (length t + 1)) (omega arith))

-- after the argument that a text begins with
pub cut_after_argument : (t : List ℕ) → IsUtf8 t → IsCharBoundary t (argument_length t)
cut_after_argument [] u = IsCharBoundary-start [] u
cut_after_argument (c ∷ t) u =
    elim (is_quote c) as (λ b. IsCharBoundary (c ∷ t)
    (cond b (min (position_or_len is_quote t + 2) (length t + 1)) (position_or_len is_space (c ∷ t))))
    [ true ↦ after_quote c t u | false ↦ before_space (c ∷ t) ]
