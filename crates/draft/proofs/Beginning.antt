-- What begin answers and leaves.
use Rattle.std.proofs.Common.{◌≡◌, ℕ, List, length, take, Ok, Err, sym, refl, ap, ◌∙◌}
use Rattle.std.proofs.lemmas.List.{take_at}
use Rattle.buffers.specs.Moves.{written}
use Rattle.faults.specs.declared.fault.Fault.{Fault}
use Rattle.format.specs.Checks.{Check, all_of, ◌then◌}
use Rattle.format.specs.Content.{write}
use Rattle.format.specs.Header.{header_end}
use Rattle.draft.specs.declared.start.Start.{Start}
use Rattle.draft.specs.Drafts.{begin_conditions, begun_content, begin_outcome}
use Rattle.format.specs.InBuffer.{within_capacity}
use Rattle.draft.specs.Law.{IsDraftOf, DraftLaw}
use Rattle.draft.specs.Stages.{Numbers, draft_state}
use Rattle.draft.proofs.Opened.{Opened}
use Rattle.draft.proofs.Runs.{law}

-- refused by a condition
pub refused : (most : ℕ) (s : Start) (xs : List ℕ) (f : Fault) → Err f ≡ all_of (begin_conditions s (length xs)) → begin_outcome most s xs ≡ Err f
refused most s xs f e = ap (λ (t : Check). t then (within_capacity most (length (write (begun_content s xs))) then Ok (begun_content s xs))) (sym e)

module _ (most : ℕ) (s : Start) (xs : List ℕ) (o : Opened s xs) (passed : Ok tt ≡ all_of (begin_conditions s (length xs))) (n : ℕ) (size : n ≡ header_end s.version) where
  behind : begin_outcome most s xs ≡ (within_capacity most n then Ok (begun_content s xs))
  behind =
      ap (λ (t : Check). t then (within_capacity most (length (write (begun_content s xs))) then Ok (begun_content s xs))) (sym passed)
      ∙ ap (λ (m : ℕ). within_capacity most m then Ok (begun_content s xs)) (o.long ∙ sym size)

  -- refused for want of room
  pub cramped : (f : Fault) → Err f ≡ within_capacity most n → begin_outcome most s xs ≡ Err f
  cramped f e = behind ∙ ap (λ (t : Check). t then Ok (begun_content s xs)) (sym e)

  -- accepted
  pub accepted : Ok tt ≡ within_capacity most n → begin_outcome most s xs ≡ Ok (begun_content s xs)
  accepted e = behind ∙ ap (λ (t : Check). t then Ok (begun_content s xs)) (sym e)

-- the law of a draft that was begun
first_bytes : (b x : List ℕ) → take (length x) (written b 0 x) ≡ x
unfolding written
first_bytes b x = take_at x _ (length x) refl

pub begun_law : (b a : List ℕ) (s : Start) (xs : List ℕ) (d : Numbers) → d.laid ≡ 0 → IsDraftOf (begun_content s xs) d → a ≡ written b 0 (write (begun_content s xs)) → DraftLaw (begun_content s xs) (draft_state d a)
begun_law b a s xs d none st e = law (begun_content s xs) (draft_state d a) none st (ap (take (length (write (begun_content s xs)))) e ∙ first_bytes b (write (begun_content s xs)))
