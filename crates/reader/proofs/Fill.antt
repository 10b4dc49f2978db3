-- Filling the start of a list, place by place.
use Rattle.std.proofs.Common.{◌≡◌, ℕ, ◌+◌, ◌<◌, ◌≤◌, List, [], ◌∷◌, ◌++◌, length, Some, None, Option, get_or, take, drop, set, sym, ap, ◌∙◌, append_assoc, arith}
use Rattle.std.proofs.lemmas.Iterator.{YieldsList}
use Rattle.std.proofs.lemmas.Iterator.Consumers.{YieldsList-from_enumerate, YieldsList-turn, YieldsList-end}
use Rattle.std.specs.Iterator.{Yields}
use Rattle.std.specs.Iterator.Adapters.{enumerate_source, enumerate_count, enumerate_steps}
use Rattle.std.specs.declared.iter.Enumerate.{Enumerate}
use Rattle.std.proofs.lemmas.List.FromFn.{length-enumerate_from, get_or-enumerate_from}
use Rattle.std.proofs.lemmas.List.{take_all, take_more, drop_more, set_at, length-take-le}
use Rattle.reader.specs.Answers.{filled_list}

-- one place more
pub fill_more : {X : Type 0} (new old now : List X) (i : ℕ) (x : X) → i < length new → length new ≤ length old → now ≡ take i new ++ drop i old
    → x ≡ get_or new i x → set now i x ≡ take (i + 1) new ++ drop (i + 1) old
fill_more new old now i x inside fits e is =
    let a = drop_more old i x (omega arith) in
    let b = set_at (take i new) (get_or old i x) (drop (i + 1) old) x i (length-take-le i new (omega arith)) in
    let m = take_more new i x inside in
    let s = append_assoc (take i new) (get_or new i x ∷ []) (drop (i + 1) old) in
    cc

-- all places
pub fill_all : {X : Type 0} (new old now : List X) (n : ℕ) → n ≡ length new → now ≡ take n new ++ drop n old → now ≡ filled_list new old
fill_all {X} new old now n all e =
    e ∙ ap (λ (k : ℕ). take k new ++ drop k old) all ∙ ap (λ (x : List X). x ++ drop (length new) old) (take_all (length new) new (omega arith))

-- a turn of a loop over a numbered list: the number is the place in the list
pub numbered_turn : {S A X : Type 0} {steps : S → Option A → S → Type 0} {v : A → X} {s : Enumerate S} (new : List X) → YieldsList steps v (enumerate_source s) new → enumerate_count s ≡ 0
    → (xs : List (ℕ × A)) (t : Enumerate S) → Yields (enumerate_steps steps) s xs t
    → (r : Option (ℕ × A)) (u : Enumerate S) (i : ℕ) (x : A) → r ≡ Some (i, x) → enumerate_steps steps t r u
    → (i ≡ length xs) × (length xs < length new) × (v x ≡ get_or new (length xs) (v x))
numbered_turn {X = X} {v = v} new road zero xs t y r u i x is step =
    let turn = YieldsList-turn (YieldsList-from_enumerate road zero) xs t y r u (i, x) is step in
    let k = length xs in
    let inside : k < length new = rw (sym (length-enumerate_from 0 new)) turn.0 in
    let same : ◌≡◌ {A = ℕ × X} (i, v x) (0 + k, get_or new k (v x)) = turn.1 ∙ get_or-enumerate_from 0 new k (i, v x) inside in
    (ap (λ (p : ℕ × X). p.0) same ∙ (omega arith), inside, ap (λ (p : ℕ × X). p.1) same)

-- the loop goes over the whole list
pub numbered_end : {S A X : Type 0} {steps : S → Option A → S → Type 0} {v : A → X} {s : Enumerate S} (new : List X) → YieldsList steps v (enumerate_source s) new → enumerate_count s ≡ 0
    → (xs : List (ℕ × A)) (t : Enumerate S) → Yields (enumerate_steps steps) s xs t
    → (r : Option (ℕ × A)) (u : Enumerate S) → r ≡ None → enumerate_steps steps t r u → length xs ≡ length new
numbered_end new road zero xs t y r u is step =
    (YieldsList-end (YieldsList-from_enumerate road zero) xs t y r u is step).1 ∙ length-enumerate_from 0 new
