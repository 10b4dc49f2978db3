-- The law of drafts: whatever is called on one buffer, what stands in it is what the format writes
-- for the content of the accepted calls.
use Rattle.std.specs.Prelude.{◌≡◌, ℕ, ◌*◌, ◌≤◌, List, [], ◌∷◌, ◌++◌, length, take, IfOk, Ok, Err, Result}
use Rattle.buffers.specs.Words.{Bytes}
use Rattle.faults.specs.declared.fault.Fault.{Fault}
use Rattle.format.specs.declared.judging.Layout.{Layout}
use Rattle.format.specs.Changes.{with_cells, with_last}
use Rattle.format.specs.Checks.{Check, passed}
use Rattle.format.specs.Content.{Content, IsSound, content, content_sizes, write, block}
use Rattle.format.specs.Judging.{judged}
use Rattle.format.specs.Rows.{cells_size, cell_size}
use Rattle.kinds.specs.Writing.{payload_bytes}
use Rattle.editor.specs.Calls.{edit}
use Rattle.format.specs.InBuffer.{capacity, with_file}
use Rattle.editor.specs.Edits.{add, carry}
use Rattle.editor.specs.Law.{IsGiven}
use Rattle.draft.specs.Drafts.{Step, put, carried, lay, step_outcome}
use Rattle.draft.specs.Stages.{Numbers, DraftState, step_answer, draft_after, close_answer}

-- a content that is sound as far as it goes: with the cells that are to come it is sound
pub record IsGrowing (c : Content) : Type 0 where
  pub cells_bytes : Bytes c.cells
  pub whole : (cells : List ℕ) → Bytes cells → length cells ≡ cells_size (content_sizes c)
      → IsSound (with_cells c cells)

-- the numbers of a draft whose content so far is c
pub record IsDraftOf (c : Content) (d : Numbers) : Type 0 where
  pub growing : IsGrowing c
  pub no_gap : c.gap ≡ []
  pub no_tail : c.tail ≡ []
  pub version_is : d.version ≡ c.version
  pub cells_is : d.cells ≡ (content_sizes c).ranges
  pub cell_is : d.cell ≡ cell_size (content_sizes c)
  pub size_is : d.size ≡ length (write c)
  pub laid_is : length c.cells ≡ d.laid * d.cell
  pub few : d.laid ≤ d.cells

-- the first bytes of a buffer are the writing of c
abbrev pub BeginsWith : Content → List ℕ → Type 0
BeginsWith c b = take (length (write c)) b ≡ write c

-- the arguments of a call: bytes, a key of four bytes, and a kind whose writing gives bytes
abbrev pub IsStepGiven : Step → Type 0
IsStepGiven (put new) = IsGiven (edit (add new))
IsStepGiven (carried key body) = IsGiven (edit (carry key body))
IsStepGiven (lay bytes) = Bytes bytes

-- the stage that has a call; a closed draft has none, and has so many bytes
pub data Stage : Type 0 where
  at_blocks : Stage
  at_cells : Stage
  closed : ℕ → Stage

abbrev pub stage_of : Step → Stage
stage_of (put new) = at_blocks
stage_of (carried key body) = at_blocks
stage_of (lay bytes) = at_cells

-- a draft whose closing is refused is still at its cells
abbrev pub close_stage : Result ℕ Fault → Stage
close_stage (Ok n) = closed n
close_stage (Err f) = at_cells

-- what happens to a draft: a call with its answer, the turn to the cells, closing with its answer
pub data DraftEvent : Type 0 where
  called : Step → Check → DraftEvent
  turned : DraftEvent
  closing : Result ℕ Fault → DraftEvent

-- legal runs: at each stage its own calls, refused ones too
pub data DraftRun : Stage → DraftState → List DraftEvent → Stage → DraftState → Type 0 where
  stop : {p : Stage} {s : DraftState} → DraftRun p s [] p s
  call : {q : Stage} {s t : DraftState} {es : List DraftEvent} → (step : Step)
      → (step_answer step s ≡ Ok tt → IsStepGiven step)
      → DraftRun (stage_of step) (draft_after step s) es q t
      → DraftRun (stage_of step) s (called step (step_answer step s) ∷ es) q t
  turn : {q : Stage} {s t : DraftState} {es : List DraftEvent} → DraftRun at_cells s es q t
      → DraftRun at_blocks s (turned ∷ es) q t
  close : {q : Stage} {s t : DraftState} {es : List DraftEvent}
      → DraftRun (close_stage (close_answer s.draft)) s es q t
      → DraftRun at_cells s (closing (close_answer s.draft) ∷ es) q t

-- what an accepted call adds to the content
abbrev pub content_after : Step → Content → Content
content_after (put new) c = with_last c (block new.kind.key (payload_bytes new))
content_after (carried key body) c = with_last c (block key body)
content_after (lay bytes) c = with_cells c (c.cells ++ bytes)

abbrev pub content_entered : Step → Check → Content → Content
content_entered step (Ok done) c = content_after step c
content_entered step (Err f) c = c

-- the content of the accepted calls
abbrev pub content_of_run : Content → List DraftEvent → Content
content_of_run c [] = c
content_of_run c (called step a ∷ es) = content_of_run (content_entered step a c) es
content_of_run c (turned ∷ es) = content_of_run c es
content_of_run c (closing r ∷ es) = content_of_run c es

-- a draft with the content c so far: the writing of c stands in the buffer, and behind it what
-- stood there before
pub record IsDrafted (c : Content) (before : List ℕ) (s : DraftState) : Type 0 where
  pub stands : IsDraftOf c s.draft
  pub written : s.buffer ≡ with_file before 0 (write c)

-- a closed draft of n bytes: they are the writing of the sound content c, and judging accepts them
-- with that content
pub record IsClosedFile (c : Content) (n : ℕ) (b : List ℕ) : Type 0 where
  pub sound : IsSound c
  pub size_is : n ≡ length (write c)
  pub written : take n b ≡ write c
  pub layout : Layout
  pub accepted : judged (take n b) ≡ Ok layout
  pub content_is : content (take n b) ≡ c

-- of every run from a draft on that was begun with the content c
pub record DraftLaw (c : Content) (s : DraftState) : Type 0 where
  pub so_far : (es : List DraftEvent) (p : Stage) (t : DraftState) → DraftRun at_blocks s es p t
      → IsDrafted (content_of_run c es) s.buffer t
  pub whole : (es : List DraftEvent) (n : ℕ) (t : DraftState)
      → DraftRun at_blocks s es (closed n) t → IsClosedFile (content_of_run c es) n t.buffer

-- a draft of that content, and what closing it answered
pub record IsEnded (c : Content) (closing : Result ℕ Fault) (b : List ℕ) : Type 0 where
  pub begins : BeginsWith c b
  pub whole : IfOk closing (λ n. IsClosedFile c n b)

-- what a call on a draft with the content c so far answers and leaves: what the definition of
-- drafts says of that content, and a buffer that begins with it begins with the new one
pub record IsFollowing (step : Step) (s : DraftState) (c : Content) : Type 0 where
  pub answers : step_answer step s ≡ passed (step_outcome (capacity s.buffer) step c)
  pub adds : (d : Content) → step_outcome (capacity s.buffer) step c ≡ Ok d
      → d ≡ content_after step c
  pub stands : step_answer step s ≡ Ok tt → IsDraftOf (content_after step c) (draft_after step s).draft
  pub begins : step_answer step s ≡ Ok tt → BeginsWith c s.buffer
      → BeginsWith (content_after step c) (draft_after step s).buffer
