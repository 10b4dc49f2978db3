-- What writing answers, and what it leaves, once the length of what it writes was measured.
use Rattle.std.proofs.Common.{◌≡◌, ℕ, ◌<◌, ◌≤◌, List, length, Ok, Err, sym, refl, ap, ◌∙◌, arith}
use Rattle.std.proofs.lemmas.Bool.{le-leb, lt-leb, cond-true, cond-false}
use Rattle.buffers.specs.Moves.{written}
use Rattle.faults.specs.declared.refusal.Refusal.TheVariants.{ListOrTableTooShort}
use Rattle.faults.specs.Faults.{fault}
use Rattle.kinds.specs.Kind.{Output, bytes, declined, output_length, put_answer, put_buffer}

-- a length that was measured is that of bytes
pub output_length_is : (o : Output) (n : ℕ) → Ok n ≡ output_length o → (w : List ℕ) × (o ≡ bytes w) × (n ≡ length w)
output_length_is (bytes w) n e = (w, refl, cc)
output_length_is (declined p) n e = let z : ◌≡◌ {A = ℕ} 0 1 = cc in absurd (omega arith)

module _ (o : Output) (n : ℕ) (before after : List ℕ) (e : Ok n ≡ output_length o) where
  -- the bytes were written, and there was room for them
  pub wrote : n ≤ length before → ((w : List ℕ) → o ≡ bytes w → after ≡ written before 0 w)
      → (Ok n ≡ put_answer o (length before)) × (after ≡ put_buffer o before)
  wrote room is =
      let m = output_length_is o n e in
      let long = m.2 in
      let t = le-leb (length m.0) (length before) (omega arith) in (
        ap (λ (x : ℕ). Ok x) long ∙ sym (ap (λ (x : Output). put_answer x (length before)) m.1 ∙ cond-true _ _ _ t),
        is m.0 m.1 ∙ sym (ap (λ (x : Output). put_buffer x before) m.1 ∙ cond-true _ _ _ t),
      )

  -- there was no room for them, and nothing was written
  pub no_room : length before < n → after ≡ before
      → (Err (fault ListOrTableTooShort n) ≡ put_answer o (length before)) × (after ≡ put_buffer o before)
  no_room short same =
      let m = output_length_is o n e in
      let long = m.2 in
      let t = lt-leb (length m.0) (length before) (omega arith) in (
        ap (λ (x : ℕ). Err (fault ListOrTableTooShort x)) long ∙ sym (ap (λ (x : Output). put_answer x (length before)) m.1 ∙ cond-false _ _ _ t),
        same ∙ sym (ap (λ (x : Output). put_buffer x before) m.1 ∙ cond-false _ _ _ t),
      )
