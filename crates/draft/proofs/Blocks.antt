-- A block that is written behind a draft, and the header that follows it.
use Rattle.std.proofs.Common.{◌≡◌, ℕ, ◌+◌, ◌-◌, ◌≤◌, List, ◌++◌, append_assoc, length, Ok, Err, sym, ap, ◌∙◌, arith}
use Rattle.std.proofs.lemmas.List.{length-append}
use Rattle.buffers.specs.Moves.{written}
use Rattle.buffers.specs.Words.{be32}
use Rattle.faults.specs.declared.fault.Fault.{Fault}
use Rattle.format.specs.Changes.{settled_header}
use Rattle.format.specs.Checks.{Check}
use Rattle.format.specs.Content.{block_bytes, block}
use Rattle.kinds.specs.Kind.{Payload, payload_output, Output, output_length}
use Rattle.kinds.proofs.Puts.{output_length_is}
use Rattle.kinds.specs.Writing.{written_bytes}
use Rattle.editor.proofs.patches.Filling.{settled-length}
use Rattle.buffers.proofs.Lists.{written_on}
use Rattle.draft.specs.Drafts.{Step, put, carried}
use Rattle.draft.specs.steps.Blocks.{with_head}
use Rattle.draft.specs.Stages.{Numbers, DraftState, draft_state, grown_numbers, end_with_block, with_block_put, step_answer, step_done, if_passed, draft_after}

-- key, size and data, one behind the other, are the block
pub block_written : (b key body : List ℕ) (at : ℕ) → length key ≡ 4 → at + (8 + length body) ≤ length b
    → written (written b at (key ++ be32 (length body))) (at + 8) body ≡ written b at (block_bytes (block key body))
block_written b key body at four h =
    let sz = be32 (length body) in
    let both : length (key ++ sz) ≡ 8 = length-append key sz ∙ ap (λ (n : ℕ). n + 4) four in
    ap (λ (n : ℕ). written (written b at (key ++ sz)) (at + n) body) (sym both)
    ∙ written_on b (key ++ sz) body at (omega arith)
    ∙ ap (written b at) (append_assoc key sz body)

-- an accepted call leaves what it says
pub accepted : (step : Step) (s t : DraftState) → Ok tt ≡ step_answer step s → t.draft ≡ (step_done step s).draft → t.buffer ≡ (step_done step s).buffer → t ≡ draft_after step s
accepted step s t a p q =
    let is : t ≡ step_done step s = λ i. record { draft = p i; buffer = q i } in
    is ∙ ap (λ (r : Check). if_passed r (step_done step s) s) a

-- and a refused one leaves all
pub refused : (step : Step) (s : DraftState) (f : Fault) → Err f ≡ step_answer step s → s ≡ draft_after step s
refused step s f a = ap (λ (r : Check). if_passed r (step_done step s) s) a

-- a block that was put behind a draft
pub block_put : (s : DraftState) (n : Numbers) (b key body : List ℕ) → length key ≡ 4 → 104 ≤ length s.buffer → end_with_block s.draft (length body) ≤ length s.buffer
    → n ≡ grown_numbers s.draft (end_with_block s.draft (length body)) s.draft.laid
    → b ≡ written (with_head s.buffer s.draft key (length body)) (s.draft.size + 8) body
    → (n ≡ (with_block_put s key body).draft) × (b ≡ (with_block_put s key body).buffer)
block_put s n b key body four long h p q =
    let x = settled_header s.buffer (end_with_block s.draft (length body)) (end_with_block s.draft (length body) - 104) in
    let same : length x ≡ length s.buffer = settled-length s.buffer _ _ long in
    (p, q ∙ block_written x key body s.draft.size four (omega arith))

-- what a kind was measured to write is as long as what it writes
body_is : (o : Output) (n : ℕ) → Ok n ≡ output_length o → n ≡ length (written_bytes o)
body_is o n e = let w = output_length_is o n e in w.2 ∙ ap (λ (y : Output). length (written_bytes y)) (sym w.1)

-- a block whose data a kind wrote
pub kind_put : (s : DraftState) (n : Numbers) (b key : List ℕ) (new : Payload) (body : ℕ) → Ok body ≡ output_length (payload_output new) → key ≡ new.kind.key → length new.kind.key ≡ 4
    → 104 ≤ length s.buffer → end_with_block s.draft body ≤ length s.buffer → Ok tt ≡ step_answer (put new) s → n ≡ grown_numbers s.draft (end_with_block s.draft body) s.draft.laid
    → b ≡ written (with_head s.buffer s.draft key body) (s.draft.size + 8) (written_bytes (payload_output new))
    → draft_state n b ≡ draft_after (put new) s
kind_put s n b key new body e is four long h a p q =
    let w = written_bytes (payload_output new) in
    let size : body ≡ length w = body_is (payload_output new) body e in
    let x = λ (k : List ℕ) (m : ℕ). written (with_head s.buffer s.draft k m) (s.draft.size + 8) w in
    let by = block_put s n b new.kind.key w four long (omega arith) (p ∙ ap (λ (m : ℕ). grown_numbers s.draft (end_with_block s.draft m) s.draft.laid) size) (q ∙ ap (λ (k : List ℕ). x k body) is ∙ ap (λ (m : ℕ). x new.kind.key m) size) in
    accepted (put new) s (draft_state n b) a by.0 by.1

-- a block whose data were given
pub carry_put : (s : DraftState) (n : Numbers) (b key body : List ℕ) → length key ≡ 4 → 104 ≤ length s.buffer → end_with_block s.draft (length body) ≤ length s.buffer
    → Ok tt ≡ step_answer (carried key body) s → n ≡ grown_numbers s.draft (end_with_block s.draft (length body)) s.draft.laid
    → b ≡ written (with_head s.buffer s.draft key (length body)) (s.draft.size + 8) body
    → draft_state n b ≡ draft_after (carried key body) s
carry_put s n b key body four long h a p q = let by = block_put s n b key body four long h p q in accepted (carried key body) s (draft_state n b) a by.0 by.1
