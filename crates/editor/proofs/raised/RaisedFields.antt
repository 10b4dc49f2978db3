-- The fields of a raised content: how many, how wide, and which sizes they give.
use Rattle.std.proofs.Common.{◌≡◌, ℕ, zero, suc, ◌+◌, ◌-◌, ◌^◌, ◌<◌, ◌≤◌, Bool, true, false, cond, List, [], ◌∷◌, ◌++◌, map, length, get_or, drop, refl, ap, ◌∙◌, subst, ⊎_elim, ◌≢◌, ◌==◌, ◌&&◌, not, arith, rules}
use Rattle.std.proofs.ByRecursion.{All-drop}
use Rattle.std.proofs.lemmas.Bool.{eq-eqb, ne_eqb, cases_eq}
use Rattle.std.proofs.lemmas.List.{get_or_append_left, get_or-append-add}
use Rattle.std.specs.List.{AllByRecursion, filter, range_with_len}
use Rattle.buffers.specs.Words.{Width, four, limit}
use Rattle.format.specs.declared.sizes.Sizes.{Sizes}
use Rattle.format.specs.Content.{Slot, own, follows, fields_at, slots, IsFitting, field_in}
use Rattle.format.specs.Header.{fields, field_count, the_field, is_steering}
use Rattle.format.specs.Sizes.{sizes_in, quality_in}
use Rattle.format.proofs.Spots.{fields_to}
use Rattle.headers.specs.Fields.{FillingSpec, values_for, filled_values}
use Rattle.editor.specs.Edits.{raise_filling}
use Rattle.editor.specs.Ledger.{with_value, with_values}

-- what holds of the versions that can be raised, one after the other
pub by_version : (P : ℕ → Type 0) → P 1 → P 2 → P 3 → P 4 → P 5 → (v : ℕ) → 1 ≤ v → v < 6 → P v
by_version P a b c d e zero from to = absurd (omega arith)
by_version P a b c d e (suc zero) from to = a
by_version P a b c d e (suc (suc zero)) from to = b
by_version P a b c d e (suc (suc (suc zero))) from to = c
by_version P a b c d e (suc (suc (suc (suc zero)))) from to = d
by_version P a b c d e (suc (suc (suc (suc (suc zero))))) from to = e
by_version P a b c d e (suc (suc (suc (suc (suc (suc v)))))) from to = absurd (omega arith)

-- ---- the widths of a header's fields
abbrev pub widths : List Slot → List Width
widths [] = []
widths (own w ∷ ss) = w ∷ widths ss
widths (follows w x ∷ ss) = widths ss

-- values within those widths
abbrev pub Fitting : List Width → List ℕ → Type 0
Fitting [] [] = Unit {0}
Fitting [] (f ∷ fs) = ⊥
Fitting (w ∷ ws) [] = ⊥
Fitting (w ∷ ws) (f ∷ fs) = (f < limit w) × Fitting ws fs

-- from the slots to their widths
pub fitting_of : (ss : List Slot) (fs : List ℕ) → IsFitting ss fs → Fitting (widths ss) fs
fitting_of [] [] h = tt
fitting_of [] (f ∷ fs) h = absurd h
fitting_of (own w ∷ ss) [] h = absurd h
fitting_of (own w ∷ ss) (f ∷ fs) h = (h.0, fitting_of ss fs h.1)
fitting_of (follows w x ∷ ss) fs h = fitting_of ss fs h

-- and back
pub fit_of : (ss : List Slot) (fs : List ℕ) → Fitting (widths ss) fs → IsFitting ss fs
fit_of [] [] h = tt
fit_of [] (f ∷ fs) h = absurd h
fit_of (own w ∷ ss) [] h = absurd h
fit_of (own w ∷ ss) (f ∷ fs) h = (h.0, fit_of ss fs h.1)
fit_of (follows w x ∷ ss) fs h = fit_of ss fs h

-- values behind values
pub fitting_more : (ws us : List Width) (fs gs : List ℕ) → Fitting ws fs → Fitting us gs → Fitting (ws ++ us) (fs ++ gs)
fitting_more [] us [] gs h k = k
fitting_more [] us (f ∷ fs) gs h k = absurd h
fitting_more (w ∷ ws) us [] gs h k = absurd h
fitting_more (w ∷ ws) us (f ∷ fs) gs h k = (h.0, fitting_more ws us fs gs h.1 k)

-- the next version has the fields of its level behind those of the one before
pub wider : (v : ℕ) → 1 ≤ v → v < 6 → (d s e t : ℕ) → widths (slots (v + 1) e t) ≡ widths (slots v d s) ++ widths (fields_at (v + 1) fields)
wider v from to =
    by_version (λ (v : ℕ). (d s e t : ℕ) → widths (slots (v + 1) e t) ≡ widths (slots v d s) ++ widths (fields_at (v + 1) fields))
    (λ d s e t. refl) (λ d s e t. refl) (λ d s e t. refl) (λ d s e t. refl) (λ d s e t. refl) v from to

-- ---- the values of the new fields
-- a value of the caller's fits 32 bits, and one that is lacking is 0
pub value_fits : (xs : List ℕ) → AllByRecursion (λ x. x < 2 ^ 32) xs → get_or xs 0 0 < 2 ^ 32
value_fits [] h = omega arith
value_fits (x ∷ xs) h = h.0

-- the values of fields of 32 bits fit them
values_fit : (s : FillingSpec) (ns xs : List ℕ) → AllByRecursion (λ n. s.given n < 2 ^ 32) ns → AllByRecursion (λ x. x < 2 ^ 32) xs
    → Fitting (map (λ (n : ℕ). four) ns) (values_for s ns xs)
values_fit s [] xs h k = tt
values_fit s (n ∷ ns) xs h k = by (s.takes n) (values_fit s ns (drop 1 xs) h.1 (All-drop (λ x. x < 2 ^ 32) 1 xs k)) (values_fit s ns xs h.1 k)
  where
    by : (t : Bool) → Fitting (map (λ (n : ℕ). four) ns) (values_for s ns (drop 1 xs)) → Fitting (map (λ (n : ℕ). four) ns) (values_for s ns xs)
        → Fitting (four ∷ map (λ (n : ℕ). four) ns) (cond t (get_or xs 0 0 ∷ values_for s ns (drop 1 xs)) (s.given n ∷ values_for s ns xs))
    by true a b = (value_fits xs k, a)
    by false a b = (h.0, b)

-- the fields of a level, by number
abbrev pub level_fields : ℕ → List ℕ
level_fields v = filter (λ n. (the_field n).level == v) (range_with_len 1 field_count)

-- those that take a value of the caller's, and how many they are in the version after v
abbrev pub taken : ℕ → Bool
taken n = not (is_steering n) && not (n == 13)

abbrev pub raise_wanted : ℕ → ℕ
raise_wanted v = length (filter taken (level_fields (v + 1)))

abbrev pub new_values : ℕ → (ℕ → ℕ) → List ℕ → List ℕ
new_values v f xs = filled_values (raise_filling v (sizes_in v f)) xs

-- the values of the new fields fit them
pub new_fit : (v : ℕ) → 1 ≤ v → v < 6 → (f : ℕ → ℕ) (xs : List ℕ) → AllByRecursion (λ x. x < 2 ^ 32) xs
    → Fitting (widths (fields_at (v + 1) fields)) (new_values v f xs)
new_fit v from to =
    by_version
    (λ (v : ℕ). (f : ℕ → ℕ) (xs : List ℕ) → AllByRecursion (λ x. x < 2 ^ 32) xs → Fitting (widths (fields_at (v + 1) fields)) (new_values v f xs))
    (λ f xs h. (omega arith, tt))
    (λ f xs h. values_fit (raise_filling 2 (sizes_in 2 f)) (level_fields 3) xs (search (rules, arith)) h)
    (λ f xs h. values_fit (raise_filling 3 (sizes_in 3 f)) (level_fields 4) xs (search (rules, arith)) h)
    (λ f xs h. values_fit (raise_filling 4 (sizes_in 4 f)) (level_fields 5) xs (search (rules, arith)) h)
    (λ f xs h. tt)
    v from to

-- ---- the fields by their numbers
-- how many fields the next version has more
pub new_count : (v : ℕ) → 1 ≤ v → v < 6 → (f : ℕ → ℕ) (xs : List ℕ) → fields_to v + length (new_values v f xs) ≡ fields_to (v + 1)
new_count v from to =
    by_version (λ (v : ℕ). (f : ℕ → ℕ) (xs : List ℕ) → fields_to v + length (new_values v f xs) ≡ fields_to (v + 1))
    (λ f xs. refl) (λ f xs. refl) (λ f xs. refl) (λ f xs. refl) (λ f xs. refl) v from to

-- they follow those of the version
pub new_numbers : (v : ℕ) → 1 ≤ v → v < 6 → (f : ℕ → ℕ) (xs : List ℕ)
    → level_fields (v + 1) ≡ range_with_len (fields_to v + 1) (length (new_values v f xs))
new_numbers v from to =
    by_version (λ (v : ℕ). (f : ℕ → ℕ) (xs : List ℕ) → level_fields (v + 1) ≡ range_with_len (fields_to v + 1) (length (new_values v f xs)))
    (λ f xs. refl) (λ f xs. refl) (λ f xs. refl) (λ f xs. refl) (λ f xs. refl) v from to

-- and hang on nothing that the fields before them say
pub new_same : (v : ℕ) → 1 ≤ v → v < 6 → (f g : ℕ → ℕ) (xs : List ℕ) → new_values v f xs ≡ new_values v g xs
new_same v from to =
    by_version (λ (v : ℕ). (f g : ℕ → ℕ) (xs : List ℕ) → new_values v f xs ≡ new_values v g xs)
    (λ f g xs. refl) (λ f g xs. refl) (λ f g xs. refl) (λ f g xs. refl) (λ f g xs. refl) v from to

-- an old field stays
pub old_field : (fs gs : List ℕ) (k n : ℕ) → length fs ≡ k → 1 ≤ n → n ≤ k → field_in (fs ++ gs) n ≡ field_in fs n
old_field fs gs k n l from to = get_or_append_left fs gs 0 (n - 1) (omega arith)

-- and a new one has its value
pub new_field : (fs gs : List ℕ) (k i : ℕ) → length fs ≡ k → field_in (fs ++ gs) (k + 1 + i) ≡ get_or gs i 0
new_field fs gs k i l =
    let at : k + 1 + i - 1 ≡ length fs + i = omega arith in
    ap (λ (j : ℕ). get_or (fs ++ gs) j 0) at ∙ get_or-append-add fs gs i 0

-- values that are entered for numbers in a row are there, and those before them stay
pub entered_row : (w f : ℕ → ℕ) (k : ℕ) (gs : List ℕ) → ((n : ℕ) → 1 ≤ n → n ≤ k → w n ≡ f n) → ((i : ℕ) → i < length gs → w (k + 1 + i) ≡ get_or gs i 0)
    → (n : ℕ) → 1 ≤ n → n ≤ k + length gs → w n ≡ with_values f (range_with_len (k + 1) (length gs)) gs n
entered_row w f k [] old new n from to = old n from (omega arith)
entered_row w f k (x ∷ gs) old new n from to =
    entered_row w (with_value f (k + 1) x) (k + 1) gs
    (λ m a b.
    ⊎_elim
    (λ (same : m ≡ k + 1). rw (eq-eqb m (k + 1) same) (subst (λ (y : ℕ). w y ≡ x) (omega arith) (new 0 (omega arith))))
    (λ (other : m ≢ k + 1). rw (ne_eqb m (k + 1) other) (old m a (omega arith)))
    (cases_eq m (k + 1)))
    (λ i l. subst (λ (y : ℕ). w y ≡ get_or gs i 0) (omega arith) (new (suc i) (omega arith)))
    n from (omega arith)

-- ---- the sizes
same_sizes : (s t : Sizes) → s.ranges ≡ t.ranges → s.bins ≡ t.bins → s.channels ≡ t.channels → s.first ≡ t.first → s.quality ≡ t.quality → s ≡ t
same_sizes s t a b c d e = λ i. record { ranges = a i; bins = b i; channels = c i; first = d i; quality = e i }

-- a raised file has the sizes that it had: the fields that give them are assumed so, or stay
pub sizes_stay : (v : ℕ) → 1 ≤ v → v < 6 → (fs xs : List ℕ) → length fs ≡ fields_to v
    → sizes_in (v + 1) (field_in (fs ++ new_values v (field_in fs) xs)) ≡ sizes_in v (field_in fs)
sizes_stay v from to =
    by_version
    (λ (v : ℕ). (fs xs : List ℕ) → length fs ≡ fields_to v → sizes_in (v + 1) (field_in (fs ++ new_values v (field_in fs) xs)) ≡ sizes_in v (field_in fs))
    (λ fs xs l.
    let gs = new_values 1 (field_in fs) xs in
    same_sizes _ _ refl refl refl refl (ap (λ (y : ℕ). quality_in 2 (λ m. y)) (new_field fs gs 1 0 l)))
    (λ fs xs l.
    let gs = new_values 2 (field_in fs) xs in
    same_sizes _ _ refl refl refl refl (ap (λ (y : ℕ). quality_in 2 (λ m. y)) (old_field fs gs 2 2 l (omega arith) (omega arith))))
    (λ fs xs l.
    let gs = new_values 3 (field_in fs) xs in
    same_sizes _ _ (new_field fs gs 3 8 l) (new_field fs gs 3 7 l) refl (new_field fs gs 3 9 l)
    (ap (λ (y : ℕ). quality_in 3 (λ m. y)) (old_field fs gs 3 2 l (omega arith) (omega arith))))
    (λ fs xs l.
    let gs = new_values 4 (field_in fs) xs in
    let old = λ (n : ℕ) (from : 1 ≤ n) (to : n ≤ 14). old_field fs gs 14 n l from to in
    same_sizes _ _ (old 12 (omega arith) (omega arith)) (old 11 (omega arith) (omega arith)) (new_field fs gs 14 4 l) (old 13 (omega arith) (omega arith))
    (ap (λ (y : ℕ). quality_in 4 (λ m. y)) (old 2 (omega arith) (omega arith))))
    (λ fs xs l.
    let gs = new_values 5 (field_in fs) xs in
    let old = λ (n : ℕ) (from : 1 ≤ n) (to : n ≤ 20). old_field fs gs 20 n l from to in
    same_sizes _ _ (old 12 (omega arith) (omega arith)) (old 11 (omega arith) (omega arith)) (old 19 (omega arith) (omega arith)) (old 13 (omega arith) (omega arith))
    (ap (λ (y : ℕ). quality_in 5 (λ m. y)) (old 2 (omega arith) (omega arith))))
    v from to
