-- Lists copied from one place on, stretch by stretch.
use Rattle.std.proofs.Common.{◌≡◌, ℕ, zero, suc, ◌+◌, ◌-◌, ◌≤◌, List, ◌∷◌, ◌++◌, map, length, take, drop, sym, ap, ◌∙◌, append_assoc, arith}
use Rattle.std.proofs.lemmas.List.FromFn.{length-map-range_with_len}
use Rattle.std.proofs.lemmas.List.{take_at, drop_at, drop-drop, length-append, length-take-le, map-append}
use Rattle.std.specs.List.{range_with_len}
use Rattle.reader.specs.Answers.{filled_list}
use Rattle.exports.specs.Rows.{copied}

-- two stretches of numbers in a row
counting_append : (a n k j : ℕ) → a + n ≡ j → range_with_len a n ++ range_with_len j k ≡ range_with_len a (n + k)
counting_append a zero k j e =
    let same : j ≡ a = omega arith in
    let all : zero + k ≡ k = omega arith in
    ap (λ (x : ℕ). range_with_len x k) same ∙ ap (range_with_len a) (sym all)
counting_append a (suc n) k j e =
    let more : suc n + k ≡ suc (n + k) = omega arith in
    ap (λ (x : List ℕ). a ∷ x) (counting_append (a + 1) n k j (omega arith)) ∙ ap (range_with_len a) (sym more)

map_counting_append : (f : ℕ → ℕ) (a m e : ℕ) → a ≤ m → m ≤ e
    → map f (range_with_len a (m - a)) ++ map f (range_with_len m (e - m)) ≡ map f (range_with_len a (e - a))
map_counting_append f a m e from to =
    let whole : m - a + (e - m) ≡ e - a = omega arith in
    sym (map-append f (range_with_len a (m - a)) (range_with_len m (e - m)))
    ∙ ap (map f) (counting_append a (m - a) (e - m) m (omega arith) ∙ ap (range_with_len a) whole)

-- one stretch behind the other
both_written : (f : ℕ → ℕ) (a m e : ℕ) (old : List ℕ) → a ≤ m → m ≤ e → e ≤ length old
    → copied f m e (copied f a m old) ≡ copied f a e old
both_written f a m e old from to inside =
    let front = take a old in
    let mid = map f (range_with_len a (m - a)) in
    let next = map f (range_with_len m (e - m)) in
    let now = copied f a m old in
    let long : length (front ++ mid) ≡ m =
    length-append front mid ∙ omega (arith, length-take-le a old (omega arith), length-map-range_with_len f a (m - a)) in
    let split : (front ++ mid) ++ drop m old ≡ now = append_assoc front mid (drop m old) in
    let before : take m now ≡ front ++ mid = ap (take m) (sym split) ∙ take_at (front ++ mid) (drop m old) m long in
    let behind : drop m now ≡ drop m old = ap (drop m) (sym split) ∙ drop_at (front ++ mid) (drop m old) m long in
    let end : m + (e - m) ≡ e = omega arith in
    let rest : drop e now ≡ drop e old =
    ap (λ (x : ℕ). drop x now) (sym end) ∙ sym (drop-drop (e - m) m now) ∙ ap (drop (e - m)) behind ∙ drop-drop (e - m) m old
    ∙ ap (λ (x : ℕ). drop x old) end in
    let joined = map_counting_append f a m e from to in
    let s1 = append_assoc front mid (next ++ drop e old) in
    let s2 = append_assoc mid next (drop e old) in
    cc

pub written_more : (f : ℕ → ℕ) (a m e : ℕ) (old now next : List ℕ) → now ≡ copied f a m old → next ≡ copied f m e now
    → a ≤ m → m ≤ e → e ≤ length old → next ≡ copied f a e old
written_more f a m e old now next this that from to inside = that ∙ ap (copied f m e) this ∙ both_written f a m e old from to inside

-- all copied, from the first place on
pub written_all : (f : ℕ → ℕ) (n : ℕ) (old : List ℕ) → copied f 0 n old ≡ filled_list (map f (range_with_len 0 n)) old
written_all f n old =
    let all : n - 0 ≡ n = omega arith in
    ap (λ (x : ℕ). map f (range_with_len 0 x) ++ drop n old) all
    ∙ ap (λ (k : ℕ). map f (range_with_len 0 n) ++ drop k old) (sym (length-map-range_with_len f 0 n))
