-- Marks beside blocks: no mark is used twice, and what holds of a block goes with its mark.
use Rattle.std.proofs.Common.{◌≡◌, ℕ, zero, suc, ◌+◌, ◌<◌, ◌≤◌, ◌≢◌, List, [], ◌∷◌, length, Some, sym, refl, ◌∙◌, subst, arith, ◌++◌, take, drop, slice_set}
use Rattle.std.proofs.ByRecursion.{All-append, All-take, All-drop}
use Rattle.editor.proofs.calls.Lists.{all_set}
use Rattle.std.specs.List.{AllByRecursion, range_with_len, slice_get}

-- no mark of a list is there twice
abbrev pub Apart : List ℕ → Type 0
Apart [] = Unit {0}
Apart (m ∷ ms) = AllByRecursion (λ n. n ≢ m) ms × Apart ms

-- marks below a number
abbrev pub Below : ℕ → List ℕ → Type 0
Below next ms = AllByRecursion (λ m. m < next) ms

-- marks and blocks, one beside the other, of which P holds
abbrev pub Beside : {B : Type 0} → (ℕ → B → Type 0) → List ℕ → List B → Type 0
Beside P [] [] = Unit {0}
Beside P [] (b ∷ bs) = ⊥
Beside P (m ∷ ms) [] = ⊥
Beside P (m ∷ ms) (b ∷ bs) = P m b × Beside P ms bs

all_weaker : {X : Type 0} (P Q : X → Type 0) → ((x : X) → P x → Q x) → (xs : List X) → AllByRecursion P xs → AllByRecursion Q xs
all_weaker P Q f [] h = tt
all_weaker P Q f (x ∷ xs) h = (f x h.0, all_weaker P Q f xs h.1)

-- as many new marks as blocks
from_above : (n k least : ℕ) → least ≤ n → AllByRecursion (λ m. least ≤ m) (range_with_len n k)
from_above n zero least h = tt
from_above n (suc k) least h = (h, from_above (n + 1) k least (omega arith))

pub new_below : (n k next : ℕ) → n + k ≤ next → Below next (range_with_len n k)
new_below n zero next h = tt
new_below n (suc k) next h = (omega arith, new_below (n + 1) k next (omega arith))

pub new_apart : (n k : ℕ) → Apart (range_with_len n k)
new_apart n zero = tt
new_apart n (suc k) =
    (all_weaker (λ m. n + 1 ≤ m) (λ m. m ≢ n) (λ m l e. omega arith) (range_with_len (n + 1) k) (from_above (n + 1) k (n + 1) (omega arith)), new_apart (n + 1) k)

later_differs : (ms : List ℕ) (i m n : ℕ) → AllByRecursion (λ x. x ≢ n) ms → slice_get ms i ≡ Some m → n ≢ m
later_differs [] i m n a e p = let z : ◌≡◌ {A = ℕ} 0 1 = cc in omega arith
later_differs (x ∷ ms) zero m n a e p = let is : x ≡ m = cc in a.0 (is ∙ sym p)
later_differs (x ∷ ms) (suc i) m n a e p = later_differs ms i m n a.1 e p

module _ {B : Type 0} where
  pub new_beside : (P : ℕ → B → Type 0) (n : ℕ) (bs : List B) → ((m : ℕ) (b : B) → n ≤ m → P m b) → Beside P (range_with_len n (length bs)) bs
  new_beside P n [] f = tt
  new_beside P n (b ∷ bs) f = (f n b (omega arith), new_beside P (n + 1) bs (λ m c l. f m c (omega arith)))

  -- what holds of the pair at a place
  pub beside_at : (P : ℕ → B → Type 0) (ms : List ℕ) (bs : List B) (j m : ℕ) → Beside P ms bs → slice_get ms j ≡ Some m
      → (b : B) × (slice_get bs j ≡ Some b) × P m b
  beside_at P [] bs j m h e = let z : ◌≡◌ {A = ℕ} 0 1 = cc in absurd (omega arith)
  beside_at P (n ∷ ms) [] j m h e = absurd h
  beside_at P (n ∷ ms) (b ∷ bs) zero m h e = let is : n ≡ m = cc in (b, refl, subst (λ (x : ℕ). P x b) is h.0)
  beside_at P (n ∷ ms) (b ∷ bs) (suc j) m h e = beside_at P ms bs j m h.1 e

  -- what holds of the block with the mark m holds wherever that mark stands, since it stands there
  -- alone
  nowhere : (Q : B → Type 0) (m : ℕ) (ms : List ℕ) (bs : List B) → length ms ≡ length bs → AllByRecursion (λ n. n ≢ m) ms → Beside (λ n b. n ≡ m → Q b) ms bs
  nowhere Q m [] [] l a = tt
  nowhere Q m [] (b ∷ bs) l a = absurd (omega arith)
  nowhere Q m (n ∷ ms) [] l a = absurd (omega arith)
  nowhere Q m (n ∷ ms) (b ∷ bs) l a = (λ e. absurd (a.0 e), nowhere Q m ms bs (omega arith) a.1)

  pub beside_one : (Q : B → Type 0) (ms : List ℕ) (bs : List B) (i m : ℕ) (b : B) → Apart ms → length ms ≡ length bs → slice_get ms i ≡ Some m → slice_get bs i ≡ Some b
      → Q b → Beside (λ n c. n ≡ m → Q c) ms bs
  beside_one Q [] bs i m b a l e f q = let z : ◌≡◌ {A = ℕ} 0 1 = cc in absurd (omega arith)
  beside_one Q (n ∷ ms) [] i m b a l e f q = absurd (omega arith)
  beside_one Q (n ∷ ms) (c ∷ bs) zero m b a l e f q =
      let same : c ≡ b = cc in
      let is : n ≡ m = cc in
      (λ _. subst Q (sym same) q, nowhere Q m ms bs (omega arith) (subst (λ (x : ℕ). AllByRecursion (λ y. y ≢ x) ms) is a.0))
  beside_one Q (n ∷ ms) (c ∷ bs) (suc i) m b a l e f q =
      (λ p. absurd (later_differs ms i m n a.0 e p), beside_one Q ms bs i m b a.1 (omega arith) e f q)

pub below_at : (next : ℕ) (ms : List ℕ) (i m : ℕ) → Below next ms → slice_get ms i ≡ Some m → m < next
below_at next [] i m h e = let z : ◌≡◌ {A = ℕ} 0 1 = cc in absurd (omega arith)
below_at next (x ∷ ms) zero m h e = let is : x ≡ m = cc in subst (λ (y : ℕ). y < next) is h.0
below_at next (x ∷ ms) (suc i) m h e = below_at next ms i m h.1 e

-- ---- a new mark behind the others or in the place of one, and a mark less
below_more : (next : ℕ) (ms : List ℕ) → Below next ms → Below (next + 1) ms
below_more next ms h = all_weaker (λ m. m < next) (λ m. m < next + 1) (λ m l. omega arith) ms h

pub below_push : (next : ℕ) (ms : List ℕ) → Below next ms → Below (next + 1) (ms ++ (next ∷ []))
below_push next ms h = All-append (λ m. m < next + 1) ms (next ∷ []) (below_more next ms h) (omega arith, tt)

pub below_set : (next : ℕ) (ms : List ℕ) (i : ℕ) → Below next ms → Below (next + 1) (slice_set ms i next)
below_set next ms i h = all_set (λ m. m < next + 1) ms i next (omega arith) (below_more next ms h)

pub below_without : (next : ℕ) (ms : List ℕ) (i : ℕ) → Below next ms → Below next (take i ms ++ drop (suc i) ms)
below_without next ms i h = All-append (λ m. m < next) (take i ms) (drop (suc i) ms) (All-take (λ m. m < next) i ms h) (All-drop (λ m. m < next) (suc i) ms h)

-- a mark below a number differs from it
other_marks : (next : ℕ) (ms : List ℕ) → Below next ms → AllByRecursion (λ m. m ≢ next) ms
other_marks next ms h = all_weaker (λ m. m < next) (λ m. m ≢ next) (λ m l e. omega arith) ms h

pub apart_push : (next : ℕ) (ms : List ℕ) → Below next ms → Apart ms → Apart (ms ++ (next ∷ []))
apart_push next [] h a = (tt, tt)
apart_push next (m ∷ ms) h a = (All-append (λ n. n ≢ m) ms (next ∷ []) a.0 ((λ e. omega (arith, h.0)), tt), apart_push next ms h.1 a.1)

pub apart_set : (next : ℕ) (ms : List ℕ) (i : ℕ) → Below next ms → Apart ms → Apart (slice_set ms i next)
apart_set next [] i h a = tt
apart_set next (m ∷ ms) zero h a = (other_marks next ms h.1, a.1)
apart_set next (m ∷ ms) (suc i) h a = (all_set (λ n. n ≢ m) ms i next (λ e. omega (arith, h.0)) a.0, apart_set next ms i h.1 a.1)

pub apart_without : (ms : List ℕ) (i : ℕ) → Apart ms → Apart (take i ms ++ drop (suc i) ms)
apart_without [] zero a = tt
apart_without [] (suc i) a = tt
apart_without (m ∷ ms) zero a = a.1
apart_without (m ∷ ms) (suc i) a =
    (All-append (λ n. n ≢ m) (take i ms) (drop (suc i) ms) (All-take (λ n. n ≢ m) i ms a.0) (All-drop (λ n. n ≢ m) (suc i) ms a.0), apart_without ms i a.1)

module _ {B : Type 0} (P : ℕ → B → Type 0) where
  pub beside_push : (ms : List ℕ) (bs : List B) (m : ℕ) (b : B) → Beside P ms bs → P m b → Beside P (ms ++ (m ∷ [])) (bs ++ (b ∷ []))
  beside_push [] [] m b h p = (p, tt)
  beside_push [] (c ∷ bs) m b h p = absurd h
  beside_push (n ∷ ms) [] m b h p = absurd h
  beside_push (n ∷ ms) (c ∷ bs) m b h p = (h.0, beside_push ms bs m b h.1 p)

  pub beside_set : (ms : List ℕ) (bs : List B) (i m : ℕ) (b : B) → Beside P ms bs → P m b → Beside P (slice_set ms i m) (slice_set bs i b)
  beside_set [] [] i m b h p = tt
  beside_set [] (c ∷ bs) i m b h p = absurd h
  beside_set (n ∷ ms) [] i m b h p = absurd h
  beside_set (n ∷ ms) (c ∷ bs) zero m b h p = (p, h.1)
  beside_set (n ∷ ms) (c ∷ bs) (suc i) m b h p = (h.0, beside_set ms bs i m b h.1 p)

  pub beside_change : (ms : List ℕ) (bs : List B) (i : ℕ) (b c : B) → slice_get bs i ≡ Some b → ((m : ℕ) → P m b → P m c) → Beside P ms bs → Beside P ms (slice_set bs i c)
  beside_change [] [] i b c e f h = tt
  beside_change [] (x ∷ bs) i b c e f h = absurd h
  beside_change (n ∷ ms) [] i b c e f h = absurd h
  beside_change (n ∷ ms) (x ∷ bs) zero b c e f h = let same : x ≡ b = cc in (f n (subst (P n) same h.0), h.1)
  beside_change (n ∷ ms) (x ∷ bs) (suc i) b c e f h = (h.0, beside_change ms bs i b c e f h.1)

  pub beside_without : (ms : List ℕ) (bs : List B) (i : ℕ) → Beside P ms bs → Beside P (take i ms ++ drop (suc i) ms) (take i bs ++ drop (suc i) bs)
  beside_without [] [] zero h = tt
  beside_without [] [] (suc i) h = tt
  beside_without [] (c ∷ bs) i h = absurd h
  beside_without (n ∷ ms) [] i h = absurd h
  beside_without (n ∷ ms) (c ∷ bs) zero h = h.1
  beside_without (n ∷ ms) (c ∷ bs) (suc i) h = (h.0, beside_without ms bs i h.1)

pub length-without : {A : Type 0} (xs : List A) (i : ℕ) → i < length xs → length (take i xs ++ drop (suc i) xs) + 1 ≡ length xs
length-without [] i h = absurd (omega arith)
length-without (x ∷ xs) zero h = omega arith
length-without (x ∷ xs) (suc i) h = let r = length-without xs i (omega arith) in omega arith
