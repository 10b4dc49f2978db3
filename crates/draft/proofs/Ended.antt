-- What a draft has come to, from what each of its calls said.
use Rattle.std.proofs.Common.{◌≡◌, ℕ, List, [], ◌∷◌, Ok, Err, Result, IfOk, IfErr, sym, ◌∙◌, subst}
use Rattle.faults.specs.declared.fault.Fault.{Fault}
use Rattle.format.specs.Checks.{Check, passed}
use Rattle.format.specs.Content.{Content, write}
use Rattle.kinds.specs.Kind.{Payload}
use Rattle.editor.proofs.calls.Held.{not_both}
use Rattle.draft.specs.Drafts.{Step, put, carried, lay}
use Rattle.draft.specs.Law.{Stage, at_blocks, at_cells, closed, stage_of, close_stage, DraftEvent, called, turned, closing, IsStepGiven, DraftRun, stop, call, turn, close, content_of_run, IsEnded, DraftLaw}
use Rattle.draft.specs.Stages.{DraftState, step_answer, draft_after, close_answer, begun_buffer}
use Rattle.draft.proofs.Added.{file_begins}

-- a run that goes on by one call
go_on : (step : Step) (a : Check) (s t u : DraftState) (q : Stage) (es : List DraftEvent) → a ≡ step_answer step s → t ≡ draft_after step s → IfOk a (λ _. IsStepGiven step) → DraftRun (stage_of step) t es q u
    → DraftRun (stage_of step) s (called step a ∷ es) q u
go_on step a s t u q es answered left given r =
    subst (λ (x : Check). DraftRun (stage_of step) s (called step x ∷ es) q u) (sym answered)
    (call step (brought a answered given) (subst (λ (x : DraftState). DraftRun (stage_of step) x es q u) left r))
  where
    brought : (b : Check) → b ≡ step_answer step s → IfOk b (λ _. IsStepGiven step) → step_answer step s ≡ Ok tt → IsStepGiven step
    brought (Ok x) e h k = h
    brought (Err f) e h k = absurd (not_both tt f (e ∙ k))

-- what is always given is given where the answer is accepted
always : (a : Check) (step : Step) → IsStepGiven step → IfOk a (λ _. IsStepGiven step)
always (Ok d) step given = given
always (Err f) step given = tt

-- a run that ends by closing, accepted or refused
ends : (s : DraftState) (a : Result ℕ Fault) → a ≡ close_answer s.draft → DraftRun at_cells s (closing a ∷ []) (close_stage a) s
ends s a e = subst (λ (x : Result ℕ Fault). DraftRun at_cells s (closing x ∷ []) (close_stage x) s) (sym e) (close stop)

-- what has come of it
ended : (c : Content) (s t : DraftState) (es : List DraftEvent) (a : Result ℕ Fault) → DraftLaw c s → DraftRun at_blocks s es (close_stage a) t → IsEnded (content_of_run c es) a t.buffer
ended c s t es (Ok n) law run =
    record { begins = file_begins t.buffer s.buffer (write (content_of_run c es)) (law.so_far es (closed n) t run).written; whole = law.whole es n t run }
ended c s t es (Err f) law run =
    record { begins = file_begins t.buffer s.buffer (write (content_of_run c es)) (law.so_far es at_cells t run).written; whole = tt }

-- a block put, a block carried, and after the turn a cell laid, before closing
pub file_drafted : (c : Content) (s0 s1 s2 s3 s4 : DraftState) (new : Payload) (key body cell : List ℕ) (a b d : Check) (r : Result ℕ Fault) → DraftLaw c s0
    → a ≡ step_answer (put new) s0 → s1 ≡ draft_after (put new) s0 → IfOk a (λ _. IsStepGiven (put new))
    → b ≡ step_answer (carried key body) s1 → s2 ≡ draft_after (carried key body) s1 → IsStepGiven (carried key body) → s3 ≡ s2
    → d ≡ step_answer (lay cell) s3 → s4 ≡ draft_after (lay cell) s3 → IsStepGiven (lay cell) → r ≡ close_answer s4.draft
    → IsEnded (content_of_run c (called (put new) a ∷ called (carried key body) b ∷ turned ∷ called (lay cell) d ∷ closing r ∷ [])) r s4.buffer
file_drafted c s0 s1 s2 s3 s4 new key body cell a b d r law a1 s1-is given1 a2 s2-is given2 turn-is a3 s4-is given3 r-is =
    let laying = go_on (lay cell) d s3 s4 s4 (close_stage r) (closing r ∷ []) a3 s4-is (always d (lay cell) given3) (ends s4 r r-is) in
    let turning : DraftRun at_blocks s2 (turned ∷ called (lay cell) d ∷ closing r ∷ []) (close_stage r) s4 =
    turn (subst (λ (x : DraftState). DraftRun at_cells x (called (lay cell) d ∷ closing r ∷ []) (close_stage r) s4) turn-is laying) in
    let carrying = go_on (carried key body) b s1 s2 s4 (close_stage r) (turned ∷ called (lay cell) d ∷ closing r ∷ []) a2 s2-is (always b (carried key body) given2) turning in
    let putting = go_on (put new) a s0 s1 s4 (close_stage r) (called (carried key body) b ∷ turned ∷ called (lay cell) d ∷ closing r ∷ []) a1 s1-is given1 carrying in
    ended c s0 s4 (called (put new) a ∷ called (carried key body) b ∷ turned ∷ called (lay cell) d ∷ closing r ∷ []) r law putting

-- a begin that is refused leaves the buffer
pub begin_refused : (b draft_after : List ℕ) (r : Result Content Fault) (f : Fault) → Err f ≡ passed r → draft_after ≡ begun_buffer b r → draft_after ≡ b
begin_refused b draft_after (Ok c) f e is = absurd (not_both tt f e)
begin_refused b draft_after (Err g) f e is = is

-- what holds in any case holds of a refusal
pub in_any : {X : Type 0} (r : Result X Fault) (P : Type 0) → P → IfErr r (λ f. P)
in_any (Ok x) P h = tt
in_any (Err f) P h = h
