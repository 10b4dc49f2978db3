-- Lists of which one place is changed or taken out.
use Rattle.std.proofs.Common.{◌≡◌, ℕ, zero, suc, ◌<◌, List, [], ◌∷◌, ◌++◌, length, slice_set, Some, refl, subst, arith, ap, take, drop}
use Rattle.std.specs.List.{AllByRecursion, slice_get}

-- a fact on every element, with one set, and on the one at a place
pub all_set : {X : Type 0} (P : X → Type 0) (xs : List X) (i : ℕ) (x : X) → P x → AllByRecursion P xs → AllByRecursion P (slice_set xs i x)
all_set P [] i x p h = tt
all_set P (y ∷ xs) zero x p h = (p, h.1)
all_set P (y ∷ xs) (suc i) x p h = (h.0, all_set P xs i x p h.1)

pub all_at : {X : Type 0} (P : X → Type 0) (xs : List X) (i : ℕ) (x : X) → slice_get xs i ≡ Some x → AllByRecursion P xs → P x
all_at P [] i x e h = let z : ◌≡◌ {A = ℕ} 0 1 = cc in absurd (omega arith)
all_at P (y ∷ xs) zero x e h = let same : y ≡ x = cc in subst P same h.0
all_at P (y ∷ xs) (suc i) x e h = all_at P xs i x e h.1

pub get_set : {X : Type 0} (xs : List X) (i : ℕ) (x : X) → i < length xs → slice_get (slice_set xs i x) i ≡ Some x
get_set [] i x h = absurd (omega arith)
get_set (y ∷ xs) zero x h = refl
get_set (y ∷ xs) (suc i) x h = get_set xs i x (omega arith)

pub get_last : {X : Type 0} (xs : List X) (x : X) → slice_get (xs ++ (x ∷ [])) (length xs) ≡ Some x
get_last [] x = refl
get_last (y ∷ xs) x = get_last xs x

-- a list cut at a place, and with another element there
pub cut_at : {X : Type 0} (xs : List X) (i : ℕ) (x : X) → slice_get xs i ≡ Some x → xs ≡ take i xs ++ (x ∷ drop (suc i) xs)
cut_at [] i x e = let z : ◌≡◌ {A = ℕ} 0 1 = cc in absurd (omega arith)
cut_at (y ∷ xs) zero x e = let same : y ≡ x = cc in ap (λ z. z ∷ xs) same
cut_at (y ∷ xs) (suc i) x e = ap (λ zs. y ∷ zs) (cut_at xs i x e)

pub set_cut : {X : Type 0} (xs : List X) (i : ℕ) (x : X) → i < length xs → slice_set xs i x ≡ take i xs ++ (x ∷ drop (suc i) xs)
set_cut [] i x h = absurd (omega arith)
set_cut (y ∷ xs) zero x h = refl
set_cut (y ∷ xs) (suc i) x h = ap (λ zs. y ∷ zs) (set_cut xs i x (omega arith))

-- an element at each place
pub there_is : {B : Type 0} (bs : List B) (i : ℕ) → i < length bs → (x : B) × (slice_get bs i ≡ Some x)
there_is [] i h = absurd (omega arith)
there_is (b ∷ bs) zero h = (b, refl)
there_is (b ∷ bs) (suc i) h = there_is bs i (omega arith)
