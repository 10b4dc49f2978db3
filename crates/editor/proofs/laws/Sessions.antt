-- What the ledger tells after an amendment.
use Rattle.std.proofs.Common.{◌≡◌, List, ◌∷◌, Ok, Err, IfOk, sym, subst, ◌∙◌, rules}
use Rattle.format.specs.Checks.{Check}
use Rattle.editor.specs.Calls.{WorkState, Call, call_answer, state_after}
use Rattle.editor.proofs.calls.Held.{not_both}
use Rattle.editor.specs.Law.{WorkEvent, called, IsGiven, WorkRun, call}

-- what is said of an accepted answer holds where it was accepted
accepted : (a : Check) (x : Check) → a ≡ x → (G : Type 0) → IfOk a (λ _. G) → x ≡ Ok tt → G
accepted (Ok d) x e G given is = given
accepted (Err f) x e G given is = absurd (not_both tt f (e ∙ is))

-- a call that was made: what it answered, and what it left
pub record Made (c : Call) (a : Check) (s t : WorkState) : Type 0 where
  pub given : IfOk a (λ _. IsGiven c)
  pub answered : a ≡ call_answer c s
  pub left : t ≡ state_after c s

-- what is always given is given where the answer is accepted
pub always : (a : Check) (G : Type 0) → G → IfOk a (λ _. G)
always (Ok d) G given = given
always (Err f) G given = search rules

-- a run that goes on by one call
pub go_on : (c : Call) (a : Check) (s t u : WorkState) (es : List WorkEvent) → Made c a s t → WorkRun t es u → WorkRun s (called c a ∷ es) u
go_on c a s t u es made r =
    subst (λ (x : Check). WorkRun s (called c x ∷ es) u) (sym made.answered)
    (call c (accepted a (call_answer c s) made.answered (IsGiven c) made.given) (subst (λ (x : WorkState). WorkRun x es u) made.left r))
