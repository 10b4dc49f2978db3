-- Texts that end before a zero keep the conditions of a kind, whatever their limit.
use Rattle.std.proofs.Common.{◌≡◌, ℕ, zero, suc, ◌+◌, ◌<◌, ◌≤◌, Bool, false, ltb, ◌⊎◌, List, [], ◌∷◌, ◌++◌, length, take, Some, None, Option, Ok, sym, refl, ap, ◌∙◌, subst, inr, ⊎_elim, arith}
use Rattle.std.proofs.lemmas.List.{length-append, length-take, take_all, take-take, take_at}
use Rattle.std.proofs.lemmas.Bool.{cases_lt, lt-ltb, le-ltb, cond-true, cond-false}
use Rattle.std.specs.List.{prefix_len}
use Rattle.buffers.specs.Moves.{written}
use Rattle.faults.specs.declared.refusal.Refusal.{Refusal}
use Rattle.faults.specs.declared.refusal.Refusal.TheVariants.{RecordShort, TextWithoutZero}
use Rattle.kinds.specs.Ended.{before_zero, front, text_outcome, text_reads, closed_text, text_output, text_writes, text_kind}
use Rattle.kinds.specs.Kind.{accepted, refused, bytes, declined, IsPrefixDetermined, RoundTrips, IsSoundKind, output_length, put_answer, put_buffer}
use Rattle.kinds.proofs.Puts.{output_length_is, wrote}
use Rattle.kinds.proofs.Records.{written_twice}

-- a list that begins as another does, past the other's first zero, has its first zero at the same
-- place
front_same : (p : ℕ → Bool) (n : ℕ) (xs ys : List ℕ) → prefix_len p xs < n → prefix_len p xs < length xs → take n ys ≡ take n xs
    → (prefix_len p ys ≡ prefix_len p xs) × (prefix_len p ys < length ys)
front_same p zero xs ys h w e = absurd (omega arith)
front_same p (suc n) [] ys h w e = absurd (omega arith)
front_same p (suc n) (x ∷ xs) [] h w e = let z : ◌≡◌ {A = ℕ} 0 1 = cc in absurd (omega arith)
front_same p (suc n) (x ∷ xs) (y ∷ ys) h w e = let ih = front_same p n xs ys in grind arith

text_outcome_is : (b ns : List ℕ) (at len u : ℕ) → text_outcome b ≡ accepted ns at len u
    → (before_zero b < length b) × (ns ≡ []) × (at ≡ 0) × (len ≡ before_zero b) × (u ≡ before_zero b + 1)
text_outcome_is b ns at len u e =
    ⊎_elim
    (λ (l : before_zero b < length b).
    let f : accepted [] 0 (before_zero b) (before_zero b + 1) ≡ accepted ns at len u =
    sym (cond-true _ _ _ (lt-ltb (before_zero b) (length b) l)) ∙ e in
    (l, cc, cc, cc, cc))
    (λ (l : length b ≤ before_zero b).
    let f : refused TextWithoutZero 0 ≡ accepted ns at len u = sym (cond-false _ _ _ (le-ltb (before_zero b) (length b) l)) ∙ e in
    let z : ◌≡◌ {A = ℕ} 0 1 = cc in absurd (omega arith))
    (cases_lt (before_zero b) (length b))

text_outcome_at : (b : List ℕ) (t : ℕ) → before_zero b ≡ t → t < length b → text_outcome b ≡ accepted [] 0 t (t + 1)
text_outcome_at b t e h =
    subst (λ (x : ℕ). x < length b → text_outcome b ≡ accepted [] 0 x (x + 1)) e
    (λ l. cond-true _ _ _ (lt-ltb (before_zero b) (length b) l)) h

text_outcome_refused : (b : List ℕ) (r : Refusal) (p : ℕ) → text_outcome b ≡ refused r p → (p ≡ 0) × (r ≡ TextWithoutZero)
text_outcome_refused b r p e =
    ⊎_elim
    (λ (l : before_zero b < length b).
    let f : accepted [] 0 (before_zero b) (before_zero b + 1) ≡ refused r p = sym (cond-true _ _ _ (lt-ltb (before_zero b) (length b) l)) ∙ e in
    let z : ◌≡◌ {A = ℕ} 0 1 = cc in absurd (omega arith))
    (λ (l : length b ≤ before_zero b).
    let f : refused TextWithoutZero 0 ≡ refused r p = sym (cond-false _ _ _ (le-ltb (before_zero b) (length b) l)) ∙ e in
    (cc, cc))
    (cases_lt (before_zero b) (length b))

-- the bytes that are looked at are the data's first ones
front_length : (l : Option ℕ) (b : List ℕ) → length (front l b) ≤ length b
front_length (Some m) b = omega (arith, length-take (m + 1) b)
front_length None b = omega arith

front_takes : (l : Option ℕ) (b : List ℕ) (n : ℕ) → n ≤ length (front l b) → take n (front l b) ≡ take n b
front_takes (Some m) b n h = take-take n (m + 1) b (omega (arith, length-take (m + 1) b))
front_takes None b n h = refl

front_long : (l : Option ℕ) (b c : List ℕ) (n : ℕ) → n ≤ length (front l b) → take n c ≡ take n b → n ≤ length (front l c)
front_long (Some m) b c n h e = omega (arith, length-take (m + 1) b, length-take (m + 1) c, ap length e, length-take n b, length-take n c)
front_long None b c n h e = omega (arith, ap length e, length-take n b, length-take n c)

text_steady : (l : Option ℕ) (b ns : List ℕ) (at len u : ℕ) → text_reads l b ≡ accepted ns at len u → IsPrefixDetermined (text_reads l) b ns at len u
text_steady l b ns at len u e =
    let f = front l b in
    let p = text_outcome_is f ns at len u e in
    let t = before_zero f in
    let p0 = p.0 in
    let p2 = p.2 in
    let p3 = p.3 in
    let p4 = p.4 in
    record {
      within = omega (arith, front_length l b);
      inside = omega arith;
      same = λ c h.
          let h' : take (t + 1) c ≡ take (t + 1) b = subst (λ (x : ℕ). take x c ≡ take x b) p4 h in
          let room : t + 1 ≤ length f = omega arith in
          let room' : t + 1 ≤ length (front l c) = front_long l b c (t + 1) room h' in
          let fronts : take (t + 1) (front l c) ≡ take (t + 1) f = front_takes l c (t + 1) room' ∙ h' ∙ sym (front_takes l b (t + 1) room) in
          let both = front_same (ltb 0) (t + 1) f (front l c) (omega arith) p0 fronts in
          let got = text_outcome_at (front l c) t both.0 (omega arith) in
          let none = p.1 in
          cc;
    }

text_faults : (l : Option ℕ) (b : List ℕ) (r : Refusal) (p : ℕ) → text_reads l b ≡ refused r p
    → (p ≤ length b) × ((r ≡ RecordShort) ⊎ (r ≡ TextWithoutZero))
text_faults l b r p e =
    let q = text_outcome_refused (front l b) r p e in
    (omega (arith, q.0), inr q.1)

-- what is written of a text
closed_text_is : (text out : List ℕ) → closed_text text ≡ bytes out → (length text ≤ before_zero text) × (text ++ (0 ∷ []) ≡ out)
closed_text_is text out e =
    ⊎_elim
    (λ (l : before_zero text < length text).
    let f : declined (before_zero text) ≡ bytes out = sym (cond-true _ _ _ (lt-ltb (before_zero text) (length text) l)) ∙ e in
    let z : ◌≡◌ {A = ℕ} 0 1 = cc in absurd (omega arith))
    (λ (l : length text ≤ before_zero text).
    let f : bytes (text ++ (0 ∷ [])) ≡ bytes out = sym (cond-false _ _ _ (le-ltb (before_zero text) (length text) l)) ∙ e in
    (l, cc))
    (cases_lt (before_zero text) (length text))

-- within its limit
abbrev Short : Option ℕ → List ℕ → Type 0
Short (Some m) text = length text ≤ m
Short None text = Unit {0}

pub text_output_is : (l : Option ℕ) (text out : List ℕ) → text_output l text ≡ bytes out
    → Short l text × (length text ≤ before_zero text) × (text ++ (0 ∷ []) ≡ out)
text_output_is (Some m) text out e =
    ⊎_elim
    (λ (h : m < length text).
    let f : declined m ≡ bytes out = sym (cond-true _ _ _ (lt-ltb m (length text) h)) ∙ e in
    let z : ◌≡◌ {A = ℕ} 0 1 = cc in absurd (omega arith))
    (λ (h : length text ≤ m).
    let p = closed_text_is text out (sym (cond-false _ _ _ (le-ltb m (length text) h)) ∙ e) in
    (h, p.0, p.1))
    (cases_lt m (length text))
text_output_is None text out e = let p = closed_text_is text out e in (tt, p.0, p.1)

-- the first zero behind a text without one is right behind it
pub leading_before : (p : ℕ → Bool) (x : ℕ) (xs ys : List ℕ) → length xs ≤ prefix_len p xs → p x ≡ false → prefix_len p (xs ++ (x ∷ ys)) ≡ length xs
leading_before p x [] ys h f = grind arith
leading_before p x (y ∷ xs) ys h f = let ih = leading_before p x xs ys in grind arith

-- all of what is written is looked at
front_whole : (l : Option ℕ) (text : List ℕ) → Short l text → front l (text ++ (0 ∷ [])) ≡ text ++ (0 ∷ [])
front_whole (Some m) text h = take_all (m + 1) (text ++ (0 ∷ [])) (omega (arith, length-append text (0 ∷ [])))
front_whole None text h = refl

text_back : (l : Option ℕ) (ns text out : List ℕ) → text_writes l ns text ≡ bytes out → RoundTrips (text_reads l) ns text out
text_back l (n ∷ ns) text out e = let z : ◌≡◌ {A = ℕ} 0 1 = cc in absurd (omega arith)
text_back l [] text out e =
    let p = text_output_is l text out e in
    let w = text ++ (0 ∷ []) in
    let long : length w ≡ length text + 1 = length-append text (0 ∷ []) in
    let is = p.2 in
    let zero-at = leading_before (ltb 0) 0 text [] p.1 refl in
    let got : text_outcome w ≡ accepted [] 0 (length text) (length text + 1) = text_outcome_at w (length text) zero-at (omega arith) in
    let read : text_reads l w ≡ accepted [] 0 (length text) (length w) =
    ap text_outcome (front_whole l text p.0) ∙ got ∙ ap (accepted [] 0 (length text)) (sym long) in
    subst (λ (x : List ℕ). RoundTrips (text_reads l) [] text x) is
    (record { at = 0; read = read; text_is = take_at text (0 ∷ []) (length text) refl })

-- every text keeps the conditions
pub text_keeps : (key : List ℕ) (l : Option ℕ) → length key ≡ 4 → IsSoundKind (text_kind key l)
text_keeps key l k = record { key_size = k; steady = text_steady l; back = text_back l; faults = text_faults l }

-- a text is measured with its zero
pub text_size : (l : Option ℕ) (text : List ℕ) (n : ℕ) → Ok n ≡ output_length (text_output l text) → n ≡ length text + 1
text_size l text n e =
    let m = output_length_is (text_output l text) n e in
    m.2 ∙ ap length (sym (text_output_is l text m.0 m.1).2) ∙ length-append text (0 ∷ [])

-- a text that was written, and its zero behind it
pub text_wrote : (l : Option ℕ) (text before after : List ℕ) (n : ℕ) → Ok n ≡ output_length (text_output l text) → n ≤ length before
    → after ≡ written (written before 0 text) (length text) (0 ∷ [])
    → (Ok n ≡ put_answer (text_output l text) (length before)) × (after ≡ put_buffer (text_output l text) before)
text_wrote l text before after n e room a =
    let is = text_size l text n e in
    let zero-add : 0 + length text ≡ length text = omega arith in
    let twice : written (written before 0 text) (0 + length text) (0 ∷ []) ≡ written before 0 (text ++ (0 ∷ [])) =
    written_twice before 0 (length text) text (0 ∷ []) refl (omega arith) in
    wrote (text_output l text) n before after e room
    (λ w o. a ∙ ap (λ (x : ℕ). written (written before 0 text) x (0 ∷ [])) (sym zero-add) ∙ twice ∙ ap (written before 0) (text_output_is l text w o).2)
