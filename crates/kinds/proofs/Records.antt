-- Packed records keep the conditions of a kind, whatever their parts.
use Rattle.std.proofs.Common.{◌≡◌, ℕ, ◌+◌, ◌<◌, ◌≤◌, Bool, true, false, cond, ltb, leb, ◌⊎◌, List, [], ◌∷◌, ◌++◌, length, get_or, take, drop, Ok, Err, Result, sym, refl, ap, ◌∙◌, subst, inl, ⊎_elim, append_assoc, append-nil, arith, rules}
use Rattle.std.proofs.lemmas.List.{same_lists, places, length-append, length-take, get_or-take, nil_from_length}
use Rattle.std.proofs.lemmas.Bool.{leb-true, leb-false, cases_lt, lt-ltb, le-ltb, ltb-true, and_parts, cases_Bool, cond-true, cond-false, false≢true}
use Rattle.buffers.proofs.Encoded.{be-length, reads, goes_on}
use Rattle.buffers.specs.Moves.{written}
use Rattle.buffers.specs.Words.{Width, one, two, four, eight, size, limit, word}
use Rattle.faults.specs.declared.fault.Fault.{Fault}
use Rattle.faults.specs.declared.refusal.Refusal.{Refusal}
use Rattle.faults.specs.declared.refusal.Refusal.TheVariants.{RecordShort, TextWithoutZero, TextUnfit, ListOrTableTooShort}
use Rattle.faults.specs.Faults.{fault}
use Rattle.kinds.specs.Kind.{accepted, refused, bytes, declined, IsPrefixDetermined, RoundTrips, IsSoundKind, output_length, put_answer, put_buffer}
use Rattle.kinds.proofs.Puts.{output_length_is, wrote, no_room}
use Rattle.kinds.specs.Packed.{Part, part_width, part_size, part_fits, part_bytes, record_size, numbers_at, numbers_fit, record_bytes, put_numbers, put_record, record_reads, record_writes, record_kind, textless_size}

-- the two lists have the same bytes below n
abbrev pub Agree : ℕ → List ℕ → List ℕ → Type 0
Agree n b c = (k : ℕ) → k < n → get_or b k 0 ≡ get_or c k 0

word_same : (w : Width) (b c : List ℕ) (at : ℕ) → Agree (at + size w) b c → word w b at ≡ word w c at
word_same one b c at h = h at (omega arith)
word_same two b c at h = omega (arith, h at (omega arith), h (at + 1) (omega arith))
word_same four b c at h = omega (arith, h at (omega arith), h (at + 1) (omega arith), h (at + 2) (omega arith), h (at + 3) (omega arith))
word_same eight b c at h =
    omega (
      arith,
      h at (omega arith),
      h (at + 1) (omega arith),
      h (at + 2) (omega arith),
      h (at + 3) (omega arith),
      h (at + 4) (omega arith),
      h (at + 4 + 1) (omega arith),
      h (at + 4 + 2) (omega arith),
      h (at + 4 + 3) (omega arith),
    )

less : (n m : ℕ) (b c : List ℕ) → n ≤ m → Agree m b c → Agree n b c
less n m b c l h k j = h k (omega arith)

pub numbers_same : (ps : List Part) (b c : List ℕ) (at : ℕ) → Agree (at + record_size ps) b c → numbers_at ps b at ≡ numbers_at ps c at
numbers_same [] b c at h = refl
numbers_same (p ∷ ps) b c at h =
    let x = word_same (part_width p) b c at (less (at + part_size p) (at + (part_size p + record_size ps)) b c (omega arith) h) in
    let y =
    numbers_same ps b c (at + part_size p) (less (at + part_size p + record_size ps) (at + (part_size p + record_size ps)) b c (omega arith) h) in
    cc

pub agree_from_take : (n : ℕ) (b c : List ℕ) → take n b ≡ take n c → Agree n b c
agree_from_take n b c e k l = sym (get_or-take n b k 0 l) ∙ ap (λ (x : List ℕ). get_or x k 0) e ∙ get_or-take n c k 0 l

-- a list that begins with as many bytes as another has, and with the same, is as long
pub as_long : (n : ℕ) (b c : List ℕ) → take n c ≡ take n b → n ≤ length b → n ≤ length c
as_long n b c e l = omega (arith, ap length e, length-take n b, length-take n c)

-- what an accepted record is
accepted_is : (ps : List Part) (b ns : List ℕ) (at len u : ℕ) → record_reads ps b ≡ accepted ns at len u
    → (record_size ps ≤ length b) × (numbers_at ps b 0 ≡ ns) × (at ≡ 0) × (len ≡ 0) × (u ≡ record_size ps)
accepted_is ps b ns at len u e =
    ⊎_elim
    (λ (l : length b < record_size ps).
    let f : refused RecordShort (length b) ≡ accepted ns at len u = sym (cond-true _ _ _ (lt-ltb (length b) (record_size ps) l)) ∙ e in
    let z : ◌≡◌ {A = ℕ} 0 1 = cc in absurd (omega arith))
    (λ (l : record_size ps ≤ length b).
    let f : accepted (numbers_at ps b 0) 0 0 (record_size ps) ≡ accepted ns at len u =
    sym (cond-false _ _ _ (le-ltb (length b) (record_size ps) l)) ∙ e in
    (l, cc, cc, cc, cc))
    (cases_lt (length b) (record_size ps))

reads_long : (ps : List Part) (b : List ℕ) → record_size ps ≤ length b → record_reads ps b ≡ accepted (numbers_at ps b 0) 0 0 (record_size ps)
reads_long ps b l = cond-false _ _ _ (le-ltb (length b) (record_size ps) l)

record_steady : (ps : List Part) (b ns : List ℕ) (at len u : ℕ) → record_reads ps b ≡ accepted ns at len u → IsPrefixDetermined (record_reads ps) b ns at len u
record_steady ps b ns at len u e =
    let p = accepted_is ps b ns at len u e in
    let is = p.4 in
    record {
      within = omega (arith, p.0);
      inside = omega (arith, p.2, p.3);
      same = λ c h.
          let h' : take (record_size ps) c ≡ take (record_size ps) b = subst (λ (x : ℕ). take x c ≡ take x b) is h in
          let l = as_long (record_size ps) b c h' p.0 in
          let v : numbers_at ps c 0 ≡ numbers_at ps b 0 =
          numbers_same ps c b 0 (less (0 + record_size ps) (record_size ps) c b (omega arith) (agree_from_take (record_size ps) c b h')) in
          let r = reads_long ps c l in
          let w = p.1 in
          let x = p.2 in
          let y = p.3 in
          cc;
    }

record_faults : (ps : List Part) (b : List ℕ) (r : Refusal) (p : ℕ)
    → record_reads ps b ≡ refused r p → (p ≤ length b) × ((r ≡ RecordShort) ⊎ (r ≡ TextWithoutZero))
record_faults ps b r p e =
    ⊎_elim
    (λ (l : length b < record_size ps).
    let f : refused RecordShort (length b) ≡ refused r p = sym (cond-true _ _ _ (lt-ltb (length b) (record_size ps) l)) ∙ e in
    let is : p ≡ length b = cc in
    let q : r ≡ RecordShort = cc in
    (omega arith, inl q))
    (λ (l : record_size ps ≤ length b).
    let f : accepted (numbers_at ps b 0) 0 0 (record_size ps) ≡ refused r p = sym (reads_long ps b l) ∙ e in
    let z : ◌≡◌ {A = ℕ} 0 1 = cc in absurd (omega arith))
    (cases_lt (length b) (record_size ps))

-- the numbers of a record that was written at a place are read there
pub numbers_back : (ps : List Part) (xs b : List ℕ) (at : ℕ) (rest : List ℕ)
    → numbers_fit ps xs ≡ true → drop at b ≡ record_bytes ps xs ++ rest → numbers_at ps b at ≡ xs
numbers_back [] [] b at rest f e = refl
numbers_back [] (x ∷ xs) b at rest f e = absurd (false≢true f)
numbers_back (p ∷ ps) [] b at rest f e = absurd (false≢true f)
numbers_back (p ∷ ps) (x ∷ xs) b at rest f e =
    let g = and_parts (part_fits p x) (numbers_fit ps xs) f in
    let e' : drop at b ≡ part_bytes p x ++ (record_bytes ps xs ++ rest) = e ∙ append_assoc (part_bytes p x) (record_bytes ps xs) rest in
    let w = part_width p in
    let q = reads w b at x (record_bytes ps xs ++ rest) e' (ltb-true x (limit w) g.0) in
    let r = numbers_back ps xs b (at + part_size p) rest g.1 (goes_on w b at x (record_bytes ps xs ++ rest) e') in
    cc

pub record_bytes_length : (ps : List Part) (xs : List ℕ) → numbers_fit ps xs ≡ true → length (record_bytes ps xs) ≡ record_size ps
record_bytes_length [] [] f = refl
record_bytes_length [] (x ∷ xs) f = absurd (false≢true f)
record_bytes_length (p ∷ ps) [] f = absurd (false≢true f)
record_bytes_length (p ∷ ps) (x ∷ xs) f =
    let g = and_parts (part_fits p x) (numbers_fit ps xs) f in
    let l = length-append (part_bytes p x) (record_bytes ps xs) in
    omega (arith, be-length (part_width p) x, record_bytes_length ps xs g.1)

-- what a record writes is its numbers, without a text
written_is : (ps : List Part) (xs text out : List ℕ) → record_writes ps xs text ≡ bytes out
    → (numbers_fit ps xs ≡ true) × (length text ≡ 0) × (record_bytes ps xs ≡ out)
written_is ps xs text out e =
    ⊎_elim
    (λ (f : numbers_fit ps xs ≡ true).
    ⊎_elim
    (λ (l : 0 < length text).
    let z : declined 0 ≡ bytes out = sym (cond-true _ _ _ f ∙ cond-true _ _ _ (lt-ltb 0 (length text) l)) ∙ e in
    let y : ◌≡◌ {A = ℕ} 0 1 = cc in absurd (omega arith))
    (λ (l : length text ≤ 0).
    let z : bytes (record_bytes ps xs) ≡ bytes out = sym (cond-true _ _ _ f ∙ cond-false _ _ _ (le-ltb 0 (length text) l)) ∙ e in
    (f, omega arith, cc))
    (cases_lt 0 (length text)))
    (λ (f : numbers_fit ps xs ≡ false).
    let z : declined 0 ≡ bytes out = sym (cond-false _ _ _ f) ∙ e in
    let y : ◌≡◌ {A = ℕ} 0 1 = cc in absurd (omega arith))
    (cases_Bool (numbers_fit ps xs))

accepted_at : (ns ms : List ℕ) (at l m u w : ℕ) → ns ≡ ms → l ≡ m → u ≡ w → accepted ns at l u ≡ accepted ms at m w
accepted_at ns ms at l m u w p q r = cc

record_back : (ps : List Part) (xs text out : List ℕ) → record_writes ps xs text ≡ bytes out → RoundTrips (record_reads ps) xs text out
record_back ps xs text out e =
    let p = written_is ps xs text out e in
    let long = record_bytes_length ps xs p.0 in
    let is = p.2 in
    let out-long : length out ≡ record_size ps = ap length (sym is) ∙ long in
    let v = numbers_back ps xs out 0 [] p.0 (sym is ∙ sym (append-nil (record_bytes ps xs))) in
    let r = reads_long ps out (omega arith) in
    let none = nil_from_length text p.1 in
    let n = p.1 in
    record {
      at = 0;
      read = r ∙ accepted_at (numbers_at ps out 0) xs 0 0 (length text) (record_size ps) (length out) v (sym n) (sym out-long);
      text_is = subst (λ (t : List ℕ). take (length t) (drop 0 out) ≡ t) (sym none) refl;
    }

-- every packed record keeps the conditions
pub record_keeps : (key : List ℕ) (ps : List Part) → length key ≡ 4 → IsSoundKind (record_kind key ps)
record_keeps key ps k = record { key_size = k; steady = record_steady ps; back = record_back ps; faults = record_faults ps }

-- numbers written one behind the other are the packed record, written at once
pub written_twice : (b : List ℕ) (at n : ℕ) (s t : List ℕ) → length s ≡ n → at + (length s + length t) ≤ length b
    → written (written b at s) (at + n) t ≡ written b at (s ++ t)
unfolding written
written_twice b at n s t l h = same_lists _ _ (search (rules, places)) (λ k z m. grind (arith, places))

pub written_none : (b : List ℕ) (at : ℕ) → at ≤ length b → b ≡ written b at []
unfolding written
written_none b at h = same_lists _ _ (search (rules, places)) (λ k z m. grind (arith, places))

pub written_long : (b : List ℕ) (at : ℕ) (s : List ℕ) → at + length s ≤ length b → length (written b at s) ≡ length b
unfolding written
written_long b at s h = search (rules, places)

pub put_numbers_is : (ps : List Part) (xs b : List ℕ) (at : ℕ) → numbers_fit ps xs ≡ true
    → at + record_size ps ≤ length b → put_numbers ps xs b at ≡ written b at (record_bytes ps xs)
put_numbers_is [] [] b at f h = written_none b at (omega arith)
put_numbers_is [] (x ∷ xs) b at f h = absurd (false≢true f)
put_numbers_is (p ∷ ps) [] b at f h = absurd (false≢true f)
put_numbers_is (p ∷ ps) (x ∷ xs) b at f h =
    let g = and_parts (part_fits p x) (numbers_fit ps xs) f in
    let s = part_bytes p x in
    let l = be-length (part_width p) x in
    let n = record_bytes_length ps xs g.1 in
    let w = written_long b at s (omega arith) in
    put_numbers_is ps xs (written b at s) (at + part_size p) g.1 (omega arith)
    ∙ written_twice b at (part_size p) s (record_bytes ps xs) l (omega arith)

-- a record that can be measured, and whose numbers were written one behind the other if there was
-- room
module _ (ps : List Part) (xs text before after : List ℕ) (n : ℕ)
    (e : Ok n ≡ output_length (record_writes ps xs text))
    (left : after ≡ put_record ps xs before) where
  parts : (numbers_fit ps xs ≡ true) × (n ≡ record_size ps)
  parts =
      let m = output_length_is (record_writes ps xs text) n e in
      let p = written_is ps xs text m.0 m.1 in
      (p.0, m.2 ∙ ap length (sym p.2) ∙ record_bytes_length ps xs p.0)

  pub record_wrote : leb (record_size ps) (length before) ≡ true
      → (Ok n ≡ put_answer (record_writes ps xs text) (length before))
      × (after ≡ put_buffer (record_writes ps xs text) before)
  record_wrote t =
      let room = leb-true (record_size ps) (length before) t in
      let is = parts.1 in
      wrote (record_writes ps xs text) n before after e (omega arith)
      (λ w o. left ∙ cond-true _ _ _ t ∙ put_numbers_is ps xs before 0 parts.0 (omega arith) ∙ ap (written before 0) (written_is ps xs text w o).2)

  pub record_short : leb (record_size ps) (length before) ≡ false
      → (Err (fault ListOrTableTooShort n) ≡ put_answer (record_writes ps xs text) (length before))
      × (after ≡ put_buffer (record_writes ps xs text) before)
  record_short t =
      let short = leb-false (record_size ps) (length before) t in
      let is = parts.1 in
      no_room (record_writes ps xs text) n before after e (omega arith) (left ∙ cond-false _ _ _ t)

measured_by : (t : Bool) (n : ℕ) (w : List ℕ) → length w ≡ n
    → cond {A = Result ℕ Fault} t (Err (fault TextUnfit 0)) (Ok n) ≡ output_length (cond t (declined 0) (bytes w))
measured_by true n w l = refl
measured_by false n w l = ap (λ (x : ℕ). Ok x) (sym l)

-- what measuring a record answers
pub record_measured : (ps : List Part) (xs text : List ℕ) (n : ℕ) → numbers_fit ps xs ≡ true
    → n ≡ record_size ps → textless_size n text ≡ output_length (record_writes ps xs text)
record_measured ps xs text n f is =
    let l : length (record_bytes ps xs) ≡ n = record_bytes_length ps xs f ∙ sym is in
    let o : record_writes ps xs text ≡ cond (ltb 0 (length text)) (declined 0) (bytes (record_bytes ps xs)) = cond-true _ _ _ f in
    measured_by (ltb 0 (length text)) n (record_bytes ps xs) l ∙ sym (ap output_length o)
