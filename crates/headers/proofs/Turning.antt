-- A header is filled in turns, one for each field's number.
use Rattle.std.proofs.Common.{◌≡◌, ℕ, suc, ◌+◌, ◌-◌, ◌<◌, ◌≤◌, Bool, true, false, ◌&&◌, cond, List, [], ◌∷◌, length, get_or, drop, sym, refl, ap, ◌∙◌, subst, arith}
use Rattle.std.proofs.lemmas.List.{get_or-drop, drop-drop}
use Rattle.std.specs.List.{filter, range_with_len}
use Rattle.headers.specs.Fields.{FillingSpec, put_header_field, fields_filled, values_for, filled_values, values_wanted, put_values, with_fields}
use Rattle.headers.specs.Turns.{turn_buffer, turn_used}

-- the fields that are written from a number on
abbrev pub left : FillingSpec → ℕ → List ℕ
left f n = filter f.has (range_with_len n (21 - n))

-- a number, and the numbers behind it
next_number : (n : ℕ) → n < 21 → range_with_len n (21 - n) ≡ n ∷ range_with_len (n + 1) (21 - (n + 1))
next_number n l = let e : 21 - n ≡ suc (21 - (n + 1)) = omega arith in ap (range_with_len n) e

-- a field that is not written is not among those that are left, and one that is written is the
-- first of them
next_left : (f : FillingSpec) (n : ℕ) → n < 21 → left f n ≡ cond (f.has n) (n ∷ left f (n + 1)) (left f (n + 1))
next_left f n l = ap (filter f.has) (next_number n l)

-- ---- how many values are taken
pub record Counted (f : FillingSpec) (n wanted : ℕ) : Type 0 where
  pub count : wanted + length (filter f.takes (left f n)) ≡ values_wanted f
  pub few : wanted < n

counted : (f : FillingSpec) (n wanted : ℕ) (has takes : Bool) → n < 21 → f.has n ≡ has → f.takes n ≡ takes → Counted f n wanted
    → Counted f (n + 1) (cond (has && takes) (wanted + 1) wanted)
counted f n wanted false takes l h t c =
    let e : left f n ≡ left f (n + 1) = next_left f n l ∙ ap (λ (b : Bool). cond b (n ∷ left f (n + 1)) (left f (n + 1))) h in
    let few = c.few in
    record { count = ap (λ (ns : List ℕ). wanted + length (filter f.takes ns)) (sym e) ∙ c.count; few = omega arith }
counted f n wanted true false l h t c =
    let ns = left f (n + 1) in
    let e : left f n ≡ n ∷ ns = next_left f n l ∙ ap (λ (b : Bool). cond b (n ∷ ns) ns) h in
    let none : filter f.takes (n ∷ ns) ≡ filter f.takes ns = ap (λ (b : Bool). cond b (n ∷ filter f.takes ns) (filter f.takes ns)) t in
    let few = c.few in
    record {
      count = ap (λ (ms : List ℕ). wanted + length ms) (sym none) ∙ ap (λ (ms : List ℕ). wanted + length (filter f.takes ms)) (sym e) ∙ c.count;
      few = omega arith;
    }
counted f n wanted true true l h t c =
    let ns = left f (n + 1) in
    let e : left f n ≡ n ∷ ns = next_left f n l ∙ ap (λ (b : Bool). cond b (n ∷ ns) ns) h in
    let one : filter f.takes (n ∷ ns) ≡ n ∷ filter f.takes ns = ap (λ (b : Bool). cond b (n ∷ filter f.takes ns) (filter f.takes ns)) t in
    let all : wanted + length (filter f.takes (left f n)) ≡ wanted + suc (length (filter f.takes ns)) =
    ap (λ (ms : List ℕ). wanted + length (filter f.takes ms)) e ∙ ap (λ (ms : List ℕ). wanted + length ms) one in
    let few = c.few in
    let count = c.count in
    record { count = omega arith; few = omega arith }

pub next_count : (f : FillingSpec) (n wanted : ℕ) → n < 21 → Counted f n wanted → Counted f (n + 1) (turn_used f n wanted)
next_count f n wanted l c = counted f n wanted (f.has n) (f.takes n) l refl refl c

pub next_count_as : (f : FillingSpec) (n wanted more : ℕ) (t : Bool) → n < 21 → Counted f n wanted → t ≡ (f.has n && f.takes n) → more ≡ cond t (wanted + 1) wanted
    → Counted f (n + 1) more
next_count_as f n wanted more t l c e m = subst (Counted f (n + 1)) (sym (m ∙ ap (λ (q : Bool). cond q (wanted + 1) wanted) e)) (next_count f n wanted l c)

-- ---- what is written so far, and what is left to write
pub record Turn (first : List ℕ) (f : FillingSpec) (xs b : List ℕ) (n used : ℕ) : Type 0 where
  pub same : put_values first (fields_filled f) (filled_values f xs) ≡ put_values b (left f n) (values_for f (left f n) (drop used xs))
  pub few : used < n

turned : (first : List ℕ) (f : FillingSpec) (xs b : List ℕ) (n used : ℕ) (has takes : Bool) → n < 21 → f.has n ≡ has → f.takes n ≡ takes → Turn first f xs b n used
    → Turn first f xs (cond has (put_header_field b n (cond takes (get_or xs used 0) (f.given n))) b) (n + 1) (cond (has && takes) (used + 1) used)
turned first f xs b n used false takes l h k t =
    let e : left f n ≡ left f (n + 1) = next_left f n l ∙ ap (λ (q : Bool). cond q (n ∷ left f (n + 1)) (left f (n + 1))) h in
    let few = t.few in
    record { same = t.same ∙ ap (λ (ns : List ℕ). put_values b ns (values_for f ns (drop used xs))) e; few = omega arith }
turned first f xs b n used true false l h k t =
    let ns = left f (n + 1) in
    let e : left f n ≡ n ∷ ns = next_left f n l ∙ ap (λ (q : Bool). cond q (n ∷ ns) ns) h in
    let given : values_for f (n ∷ ns) (drop used xs) ≡ f.given n ∷ values_for f ns (drop used xs) =
    ap (λ (q : Bool). cond q (get_or (drop used xs) 0 0 ∷ values_for f ns (drop 1 (drop used xs))) (f.given n ∷ values_for f ns (drop used xs))) k in
    let few = t.few in
    record {
      same = t.same ∙ ap (λ (ms : List ℕ). put_values b ms (values_for f ms (drop used xs))) e ∙ ap (put_values b (n ∷ ns)) given;
      few = omega arith;
    }
turned first f xs b n used true true l h k t =
    let ns = left f (n + 1) in
    let e : left f n ≡ n ∷ ns = next_left f n l ∙ ap (λ (q : Bool). cond q (n ∷ ns) ns) h in
    let value : get_or (drop used xs) 0 0 ≡ get_or xs used 0 = get_or-drop used xs 0 0 ∙ ap (λ (i : ℕ). get_or xs i 0) (omega arith) in
    let rest : drop 1 (drop used xs) ≡ drop (used + 1) xs = drop-drop 1 used xs in
    let given : values_for f (n ∷ ns) (drop used xs) ≡ get_or xs used 0 ∷ values_for f ns (drop (used + 1) xs) =
    ap (λ (q : Bool). cond q (get_or (drop used xs) 0 0 ∷ values_for f ns (drop 1 (drop used xs))) (f.given n ∷ values_for f ns (drop used xs))) k
    ∙ ap (λ (x : ℕ). x ∷ values_for f ns (drop 1 (drop used xs))) value ∙ ap (λ (ys : List ℕ). get_or xs used 0 ∷ values_for f ns ys) rest in
    let few = t.few in
    record {
      same = t.same ∙ ap (λ (ms : List ℕ). put_values b ms (values_for f ms (drop used xs))) e ∙ ap (put_values b (n ∷ ns)) given;
      few = omega arith;
    }

pub next_turn : (first : List ℕ) (f : FillingSpec) (xs b : List ℕ) (n used : ℕ) → n < 21 → Turn first f xs b n used
    → Turn first f xs (turn_buffer f n b xs used) (n + 1) (turn_used f n used)
next_turn first f xs b n used l t = turned first f xs b n used (f.has n) (f.takes n) l refl refl t

pub next_turn_as : (first : List ℕ) (f : FillingSpec) (xs b d : List ℕ) (n used more : ℕ) → n < 21 → Turn first f xs b n used
    → d ≡ turn_buffer f n b xs used → more ≡ turn_used f n used → Turn first f xs d (n + 1) more
next_turn_as first f xs b d n used more l t p q =
    subst (λ (y : List ℕ). Turn first f xs y (n + 1) more) (sym p)
    (subst (Turn first f xs (turn_buffer f n b xs used) (n + 1)) (sym q) (next_turn first f xs b n used l t))

pub last_turn : (first : List ℕ) (f : FillingSpec) (xs b : List ℕ) (n used : ℕ) → 21 ≤ n → Turn first f xs b n used → b ≡ with_fields first f xs
unfolding with_fields
last_turn first f xs b n used l t =
    let far : 21 - n ≡ 0 = omega arith in
    let none : left f n ≡ [] = ap (λ (k : ℕ). filter f.has (range_with_len n k)) far in
    sym (t.same ∙ ap (λ (ns : List ℕ). put_values b ns (values_for f ns (drop used xs))) none)
