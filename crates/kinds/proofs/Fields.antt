-- Packed numbers with a text field behind them keep the conditions of a kind, whatever their parts
-- and the field's size.
use Rattle.std.proofs.Common.{◌≡◌, ℕ, suc, ◌+◌, ◌-◌, ◌<◌, ◌≤◌, true, false, cond, leb, ltb, ◌⊎◌, List, ◌++◌, length, take, drop, replicate, Ok, Err, refl, append_assoc, inl, inr, ⊎_elim, ap, sym, subst, ◌∙◌, arith}
use Rattle.std.proofs.lemmas.List.{length-append, length-replicate, take_all, take_at, drop_at, drop-take}
use Rattle.std.proofs.lemmas.Bool.{leb-true, leb-false, cases_lt, cases_Bool, lt-ltb, le-ltb, cond-true, cond-false}
use Rattle.buffers.specs.Moves.{written}
use Rattle.faults.specs.declared.refusal.Refusal.{Refusal}
use Rattle.faults.specs.declared.refusal.Refusal.TheVariants.{RecordShort, TextWithoutZero, TextUnfit, ListOrTableTooShort}
use Rattle.faults.specs.Faults.{fault}
use Rattle.kinds.specs.Ended.{before_zero}
use Rattle.kinds.specs.Field.{field_size, field_text, field_reads, field_bytes, field_output, field_writes, field_kind, put_text_field}
use Rattle.kinds.specs.Kind.{accepted, refused, bytes, declined, IsPrefixDetermined, RoundTrips, IsSoundKind, output_length, put_answer, put_buffer}
use Rattle.kinds.specs.Packed.{Part, record_size, numbers_at, numbers_fit, record_bytes, put_numbers}
use Rattle.kinds.proofs.Texts.{leading_before}
use Rattle.kinds.proofs.Puts.{output_length_is, wrote, no_room}
use Rattle.kinds.proofs.Records.{numbers_same, agree_from_take, as_long, numbers_back, record_bytes_length, put_numbers_is, written_twice}

one_more : (m n : ℕ) → n ≤ m → m + 1 - n ≡ suc (m - n)
one_more m n h = omega arith

fill_up : (m n : ℕ) → n ≤ m → n + (m + 1 - n) ≡ m + 1
fill_up m n h = omega arith

module _ (ps : List Part) (m : ℕ) where
  -- data that are long enough are read by numbers and field
  reads_long : (b : List ℕ) → field_size ps m ≤ length b
      → field_reads ps m b ≡ field_text (record_size ps) m (numbers_at ps b 0) (take (m + 1) (drop (record_size ps) b))
  reads_long b l = cond-false _ _ _ (le-ltb (length b) (field_size ps m) l)

  reads_short : (b : List ℕ) → length b < field_size ps m → field_reads ps m b ≡ refused RecordShort (length b)
  reads_short b l = cond-true _ _ _ (lt-ltb (length b) (field_size ps m) l)

  -- what an accepted field is
  field_is : (ms f ns : List ℕ) (at len u : ℕ)
      → field_text (record_size ps) m ms f ≡ accepted ns at len u
      → (before_zero f < m + 1) × (at ≡ record_size ps) × (len ≡ before_zero f)
      × (u ≡ field_size ps m)
  field_is ms f ns at len u e =
      ⊎_elim
      (λ (l : before_zero f < m + 1).
      let g : accepted ms (record_size ps) (before_zero f) (field_size ps m) ≡ accepted ns at len u =
      sym (cond-true _ _ _ (lt-ltb (before_zero f) (m + 1) l)) ∙ e in
      (l, cc, cc, cc))
      (λ (l : m + 1 ≤ before_zero f).
      let g : refused TextWithoutZero (record_size ps) ≡ accepted ns at len u = sym (cond-false _ _ _ (le-ltb (before_zero f) (m + 1) l)) ∙ e in
      let z : ◌≡◌ {A = ℕ} 0 1 = cc in absurd (omega arith))
      (cases_lt (before_zero f) (m + 1))

  field_refused : (ms f : List ℕ) (r : Refusal) (p : ℕ)
      → field_text (record_size ps) m ms f ≡ refused r p
      → (p ≡ record_size ps) × (r ≡ TextWithoutZero)
  field_refused ms f r p e =
      ⊎_elim
      (λ (l : before_zero f < m + 1).
      let g : accepted ms (record_size ps) (before_zero f) (field_size ps m) ≡ refused r p =
      sym (cond-true _ _ _ (lt-ltb (before_zero f) (m + 1) l)) ∙ e in
      let z : ◌≡◌ {A = ℕ} 0 1 = cc in absurd (omega arith))
      (λ (l : m + 1 ≤ before_zero f).
      let g : refused TextWithoutZero (record_size ps) ≡ refused r p = sym (cond-false _ _ _ (le-ltb (before_zero f) (m + 1) l)) ∙ e in
      (cc, cc))
      (cases_lt (before_zero f) (m + 1))

  -- what accepted data are
  accepted_is : (b ns : List ℕ) (at len u : ℕ) → field_reads ps m b ≡ accepted ns at len u
      → (field_size ps m ≤ length b) × (field_text (record_size ps) m (numbers_at ps b 0) (take (m + 1) (drop (record_size ps) b)) ≡ accepted ns at len u)
  accepted_is b ns at len u e =
      ⊎_elim
      (λ (l : length b < field_size ps m).
      let f : refused RecordShort (length b) ≡ accepted ns at len u = sym (reads_short b l) ∙ e in
      let z : ◌≡◌ {A = ℕ} 0 1 = cc in absurd (omega arith))
      (λ (l : field_size ps m ≤ length b). (l, sym (reads_long b l) ∙ e))
      (cases_lt (length b) (field_size ps m))

  -- data that begin with the same bytes are read the same
  same_read : (b c : List ℕ) → field_size ps m ≤ length b → take (field_size ps m) c ≡ take (field_size ps m) b
      → field_reads ps m c ≡ field_text (record_size ps) m (numbers_at ps b 0) (take (m + 1) (drop (record_size ps) b))
  same_read b c l h =
      let v : numbers_at ps c 0 ≡ numbers_at ps b 0 = numbers_same ps c b 0 (λ k j. agree_from_take (field_size ps m) c b h k (omega arith)) in
      let f : take (m + 1) (drop (record_size ps) c) ≡ take (m + 1) (drop (record_size ps) b) =
      sym (drop-take (record_size ps) (m + 1) c) ∙ ap (drop (record_size ps)) h
      ∙ drop-take (record_size ps) (m + 1) b in
      reads_long c (as_long (field_size ps m) b c h l)
      ∙ ap (λ (x : List ℕ). field_text (record_size ps) m x (take (m + 1) (drop (record_size ps) c))) v
      ∙ ap (field_text (record_size ps) m (numbers_at ps b 0)) f

  field_steady : (b ns : List ℕ) (at len u : ℕ) → field_reads ps m b ≡ accepted ns at len u → IsPrefixDetermined (field_reads ps m) b ns at len u
  field_steady b ns at len u e =
      let p = accepted_is b ns at len u e in
      let q = field_is (numbers_at ps b 0) (take (m + 1) (drop (record_size ps) b)) ns at len u p.1 in
      let is = q.3 in
      record {
        within = omega (arith, p.0, is);
        inside = omega (arith, q.0, q.1, q.2, is);
        same = λ c h. same_read b c p.0 (subst (λ (x : ℕ). take x c ≡ take x b) is h) ∙ p.1;
      }

  field_faults : (b : List ℕ) (r : Refusal) (p : ℕ) → field_reads ps m b ≡ refused r p → (p ≤ length b) × ((r ≡ RecordShort) ⊎ (r ≡ TextWithoutZero))
  field_faults b r p e =
      ⊎_elim
      (λ (l : length b < field_size ps m).
      let f : refused RecordShort (length b) ≡ refused r p = sym (reads_short b l) ∙ e in
      let is : p ≡ length b = cc in
      let q : r ≡ RecordShort = cc in
      (omega arith, inl q))
      (λ (l : field_size ps m ≤ length b).
      let q = field_refused (numbers_at ps b 0) (take (m + 1) (drop (record_size ps) b)) r p (sym (reads_long b l) ∙ e) in
      (omega (arith, q.0), inr q.1))
      (cases_lt (length b) (field_size ps m))

  -- what is written of a text
  text_is : (head text out : List ℕ) → field_output m head text ≡ bytes out
      → (length text ≤ m) × (length text ≤ before_zero text) × (field_bytes m head text ≡ out)
  text_is head text out e =
      ⊎_elim
      (λ (h : m < length text).
      let f : declined m ≡ bytes out = sym (cond-true _ _ _ (lt-ltb m (length text) h)) ∙ e in
      let z : ◌≡◌ {A = ℕ} 0 1 = cc in absurd (omega arith))
      (λ (h : length text ≤ m).
      let r : cond (ltb (before_zero text) (length text)) (declined (before_zero text)) (bytes (field_bytes m head text)) ≡ bytes out =
      sym (cond-false _ _ _ (le-ltb m (length text) h)) ∙ e in
      ⊎_elim
      (λ (l : before_zero text < length text).
      let f : declined (before_zero text) ≡ bytes out = sym (cond-true _ _ _ (lt-ltb (before_zero text) (length text) l)) ∙ r in
      let z : ◌≡◌ {A = ℕ} 0 1 = cc in absurd (omega arith))
      (λ (l : length text ≤ before_zero text).
      let f : bytes (field_bytes m head text) ≡ bytes out = sym (cond-false _ _ _ (le-ltb (before_zero text) (length text) l)) ∙ r in
      (h, l, cc))
      (cases_lt (before_zero text) (length text)))
      (cases_lt m (length text))

  writes_is : (ns text out : List ℕ) → field_writes ps m ns text ≡ bytes out
      → (numbers_fit ps ns ≡ true) × (field_output m (record_bytes ps ns) text ≡ bytes out)
  writes_is ns text out e =
      ⊎_elim
      (λ (f : numbers_fit ps ns ≡ true). (f, sym (cond-true _ _ _ f) ∙ e))
      (λ (f : numbers_fit ps ns ≡ false).
      let z : declined m ≡ bytes out = sym (cond-false _ _ _ f) ∙ e in
      let y : ◌≡◌ {A = ℕ} 0 1 = cc in absurd (omega arith))
      (cases_Bool (numbers_fit ps ns))

  -- the bytes of the field that are written
  field_long : (text : List ℕ) → length text ≤ m → length (text ++ replicate (m + 1 - length text) 0) ≡ m + 1
  field_long text h =
      length-append text (replicate (m + 1 - length text) 0)
      ∙ ap (λ (x : ℕ). length text + x) (length-replicate (m + 1 - length text) 0)
      ∙ fill_up m (length text) h

  field_zero : (text : List ℕ) → length text ≤ m → length text ≤ before_zero text
      → before_zero (text ++ replicate (m + 1 - length text) 0) ≡ length text
  field_zero text h l =
      ap (λ (n : ℕ). before_zero (text ++ replicate n 0)) (one_more m (length text) h)
      ∙ leading_before (ltb 0) 0 text (replicate (m - length text) 0) l refl

  bytes_long : (ns text : List ℕ) → numbers_fit ps ns ≡ true → length text ≤ m → length (field_bytes m (record_bytes ps ns) text) ≡ field_size ps m
  bytes_long ns text f h =
      omega (arith, length-append (record_bytes ps ns) (text ++ replicate (m + 1 - length text) 0), record_bytes_length ps ns f, field_long text h)

  -- a field with its first zero at a place
  field_at : (ms f : List ℕ) (t : ℕ) → before_zero f ≡ t → t < m + 1
      → field_text (record_size ps) m ms f ≡ accepted ms (record_size ps) t (field_size ps m)
  field_at ms f t e h =
      subst (λ (x : ℕ). x < m + 1 → field_text (record_size ps) m ms f ≡ accepted ms (record_size ps) x (field_size ps m)) e
      (λ l. cond-true _ _ _ (lt-ltb (before_zero f) (m + 1) l)) h

  field_returns : (ns text : List ℕ) → numbers_fit ps ns ≡ true → length text ≤ m → length text ≤ before_zero text
      → RoundTrips (field_reads ps m) ns text (field_bytes m (record_bytes ps ns) text)
  field_returns ns text f h l =
      let field = text ++ replicate (m + 1 - length text) 0 in
      let out = record_bytes ps ns ++ field in
      let long : length out ≡ field_size ps m = bytes_long ns text f h in
      let behind : drop (record_size ps) out ≡ field = drop_at (record_bytes ps ns) field (record_size ps) (record_bytes_length ps ns f) in
      let v : numbers_at ps out 0 ≡ ns = numbers_back ps ns out 0 field f refl in
      let whole : take (m + 1) (drop (record_size ps) out) ≡ field =
      ap (take (m + 1)) behind ∙ take_all (m + 1) field (omega (arith, field_long text h)) in
      record {
        at = record_size ps;
        read = reads_long out (omega arith)
            ∙ ap (λ (x : List ℕ). field_text (record_size ps) m x (take (m + 1) (drop (record_size ps) out))) v
            ∙ ap (field_text (record_size ps) m ns) whole
            ∙ field_at ns field (length text) (field_zero text h l) (omega arith)
            ∙ ap (accepted ns (record_size ps) (length text)) (sym long);
        text_is = ap (take (length text)) behind ∙ take_at text (replicate (m + 1 - length text) 0) (length text) refl;
      }

  field_back : (ns text out : List ℕ) → field_writes ps m ns text ≡ bytes out → RoundTrips (field_reads ps m) ns text out
  field_back ns text out e =
      let p = writes_is ns text out e in
      let q = text_is (record_bytes ps ns) text out p.1 in
      subst (λ (x : List ℕ). RoundTrips (field_reads ps m) ns text x) q.2 (field_returns ns text p.0 q.0 q.1)

  pub field_keeps : (key : List ℕ) → length key ≡ 4 → IsSoundKind (field_kind key ps m)
  field_keeps key k = record { key_size = k; steady = field_steady; back = field_back; faults = field_faults }

  -- numbers, text and zeros, written one after the other, are the record, written at once
  field_filled : (ns text before after : List ℕ) → numbers_fit ps ns ≡ true → length text ≤ m → field_size ps m ≤ length before
      → after ≡ written (written (put_numbers ps ns before 0) (record_size ps) text) (record_size ps + length text) (replicate (m + 1 - length text) 0)
      → after ≡ written before 0 (field_bytes m (record_bytes ps ns) text)
  field_filled ns text before after f h room e =
      let head = record_bytes ps ns in
      let zs : List ℕ = replicate (m + 1 - length text) 0 in
      let head-long : length head ≡ record_size ps = record_bytes_length ps ns f in
      let zs-long : length zs ≡ m + 1 - length text = length-replicate (m + 1 - length text) 0 in
      let both_long : length (head ++ text) ≡ record_size ps + length text = length-append head text ∙ ap (λ (x : ℕ). x + length text) head-long in
      let zero-add : 0 + (record_size ps + length text) ≡ record_size ps + length text = omega arith in
      let begin : 0 + record_size ps ≡ record_size ps = omega arith in
      let first : put_numbers ps ns before 0 ≡ written before 0 head = put_numbers_is ps ns before 0 f (omega arith) in
      let second : written (written before 0 head) (record_size ps) text ≡ written before 0 (head ++ text) =
      ap (λ (x : ℕ). written (written before 0 head) x text) (sym begin)
      ∙ written_twice before 0 (record_size ps) head text head-long (omega arith) in
      let third : written (written before 0 (head ++ text)) (0 + (record_size ps + length text)) zs ≡ written before 0 ((head ++ text) ++ zs) =
      written_twice before 0 (record_size ps + length text) (head ++ text) zs both_long (omega arith) in
      e
      ∙ ap (λ (x : List ℕ). written (written x (record_size ps) text) (record_size ps + length text) zs) first
      ∙ ap (λ (x : List ℕ). written x (record_size ps + length text) zs) second
      ∙ ap (λ (x : ℕ). written (written before 0 (head ++ text)) x zs) (sym zero-add)
      ∙ third
      ∙ ap (written before 0) (append_assoc head text zs)

  -- what is measured has numbers that fit and a text that can be written, and is as long as the
  -- whole
  pub measured_parts : (ns text : List ℕ) (n : ℕ) → Ok n ≡ output_length (field_writes ps m ns text)
      → (numbers_fit ps ns ≡ true) × (length text ≤ m) × (n ≡ field_size ps m) × (length text ≤ before_zero text)
  measured_parts ns text n e =
      let w = output_length_is (field_writes ps m ns text) n e in
      let p = writes_is ns text w.0 w.1 in
      let q = text_is (record_bytes ps ns) text w.0 p.1 in
      (p.0, q.0, w.2 ∙ ap length (sym q.2) ∙ bytes_long ns text p.0 q.0, q.1)

  -- numbers that fit are written with a text that can be
  pub writes_bytes : (ns text : List ℕ) → numbers_fit ps ns ≡ true → length text ≤ m → length text ≤ before_zero text
      → field_writes ps m ns text ≡ bytes (field_bytes m (record_bytes ps ns) text)
  writes_bytes ns text f h l =
      cond-true _ _ _ f ∙ cond-false _ _ _ (le-ltb m (length text) h) ∙ cond-false _ _ _ (le-ltb (before_zero text) (length text) l)

  -- what measuring returns, numbers fitting: 15 at m for a longer text, 15 at its first zero, or
  -- the size of the whole
  pub field_measured : (ns text : List ℕ) → numbers_fit ps ns ≡ true
      → output_length (field_writes ps m ns text) ≡ cond (ltb m (length text)) (Err (fault TextUnfit m)) (cond (ltb (before_zero text) (length text)) (Err (fault TextUnfit (before_zero text))) (Ok (field_size ps m)))
  field_measured ns text f =
      ⊎_elim
      (λ (h : m < length text).
      ap output_length (cond-true _ _ _ f ∙ cond-true _ _ _ (lt-ltb m (length text) h)) ∙ sym (cond-true _ _ _ (lt-ltb m (length text) h)))
      (λ (h : length text ≤ m).
      ⊎_elim
      (λ (l : before_zero text < length text).
      ap output_length (cond-true _ _ _ f ∙ cond-false _ _ _ (le-ltb m (length text) h) ∙ cond-true _ _ _ (lt-ltb (before_zero text) (length text) l))
      ∙ sym (cond-false _ _ _ (le-ltb m (length text) h) ∙ cond-true _ _ _ (lt-ltb (before_zero text) (length text) l)))
      (λ (l : length text ≤ before_zero text).
      ap output_length (writes_bytes ns text f h l) ∙ ap (λ (x : ℕ). Ok x) (bytes_long ns text f h)
      ∙ sym (cond-false _ _ _ (le-ltb m (length text) h) ∙ cond-false _ _ _ (le-ltb (before_zero text) (length text) l)))
      (cases_lt (before_zero text) (length text)))
      (cases_lt m (length text))

  -- numbers, text and zeros were written, one after the other, if there was room for the whole
  module _ (ns text before after : List ℕ) (n : ℕ) (e : Ok n ≡ output_length (field_writes ps m ns text))
      (left : after ≡ put_text_field ps m ns text before) where
    pub field_wrote : leb (field_size ps m) (length before) ≡ true
        → (Ok n ≡ put_answer (field_writes ps m ns text) (length before))
        × (after ≡ put_buffer (field_writes ps m ns text) before)
    field_wrote t =
        let room = leb-true (field_size ps m) (length before) t in
        let p = measured_parts ns text n e in
        let is = p.2 in
        wrote (field_writes ps m ns text) n before after e (omega arith)
        (λ w o.
        let q = writes_is ns text w o in
        field_filled ns text before after p.0 p.1 room (left ∙ cond-true _ _ _ t) ∙ ap (written before 0) (text_is (record_bytes ps ns) text w q.1).2)

    pub field_short : leb (field_size ps m) (length before) ≡ false
        → (Err (fault ListOrTableTooShort n) ≡ put_answer (field_writes ps m ns text) (length before))
        × (after ≡ put_buffer (field_writes ps m ns text) before)
    field_short t =
        let short = leb-false (field_size ps m) (length before) t in
        let is = (measured_parts ns text n e).2 in
        no_room (field_writes ps m ns text) n before after e (omega arith) (left ∙ cond-false _ _ _ t)
